-- The stacks of a book: which requests are rows of which, and who approved them.
use Rattle.std.specs.Prelude.{ℕ, ◌+◌, ◌-◌, ◌==◌, Bool, false, not, ◌&&◌, is_some, is_none, if◌then◌else◌, Option, Some, None, List, [], ◌∷◌, ◌++◌, map, filter}
use Rattle.std.specs.List.{list_any, filter_map, find}
use Rattle.std.specs.Option.{option_map, option_map_or}
use Rattle.tc_types.specs.declared.requests.Request.{Request}
use Rattle.tc_types.specs.declared.requests.Origin.{Origin}
use Rattle.tc_types.specs.declared.tables.rows.LoadedStack.{LoadedStack}
use Rattle.tc_types.specs.declared.tables.rows.StackApproval.{StackApproval}
use Rattle.tc_types.specs.Names.{is_same_name}
use Rattle.tc_stack.specs.Approvals.{ApprovalState, is_complete}
use Rattle.tc_stack.specs.Stacks.{is_completed}
use Rattle.tc_book.specs.Book.{Book, request_in, request_at, place_in, approval_of}

-- ---- which were loaded

-- a request is a row of the stack with this name
abbrev pub is_row_of : List ℕ → Option Origin → Bool
is_row_of name None = false
is_row_of name (Some origin) = is_same_name origin.stack name

abbrev pub is_in_stack : List ℕ → Request → Bool
is_in_stack name r = is_row_of name r.origin

-- a stack with this name is among these requests
abbrev pub has_stack : List ℕ → List Request → Bool
has_stack name requests = list_any (is_in_stack name) requests

abbrev pub is_loaded : Book → List ℕ → Bool
is_loaded book name = has_stack name book.requests

-- the numbers of its rows, in order of line
abbrev pub numbers_in_stack : List ℕ → List Request → List ℕ
numbers_in_stack name requests = map (λ (r : Request). r.number) (filter (is_in_stack name) requests)

-- one of its rows is critical
abbrev pub has_critical_row : List ℕ → List Request → Bool
has_critical_row name requests = list_any (λ (r : Request). r.critical && is_in_stack name r) requests

-- a request is on line 1 of a stack
abbrev pub begins_stack : Request → Bool
begins_stack r = option_map_or (λ (o : Origin). o.line == 1) r.origin false

-- the stack that a request begins, if it is on line 1 of one
abbrev pub begun_with : List Request → List ℕ → Option Origin → Option LoadedStack
begun_with requests author None = None
begun_with requests author (Some origin) =
    if origin.line == 1 then Some (record { name = origin.stack; author = author; critical = has_critical_row origin.stack requests }) else None

abbrev pub begun_by : List Request → Request → Option LoadedStack
begun_by requests r = begun_with requests r.author r.origin

-- the stacks among these requests, in the order in which they were loaded
abbrev pub stacks_of : List Request → List LoadedStack
stacks_of requests = filter_map (begun_by requests) requests

-- ---- who approved them

-- who approved a stack, in the order in which they did
abbrev pub stack_approvers_of : List StackApproval → List ℕ → List (List ℕ)
stack_approvers_of approvals name = map (λ (a : StackApproval). a.person) (filter (λ (a : StackApproval). is_same_name a.stack name) approvals)

-- the approval of a stack of this author: two persons are wanted where one of its rows is critical
abbrev pub stack_approval : Book → List ℕ → List ℕ → ApprovalState
stack_approval book author name = record { author = author; critical = has_critical_row name book.requests; persons = stack_approvers_of book.stack_approvals name }

-- the approval of the stack with this name, whose rows have one author
abbrev pub stack_approval_at : Book → List ℕ → Option ApprovalState
stack_approval_at book name = option_map (λ (r : Request). stack_approval book r.author name) (find (is_in_stack name) book.requests)

-- as many approved a stack as are wanted
abbrev pub is_stack_approved : Book → List ℕ → Bool
is_stack_approved book name = option_map_or is_complete (stack_approval_at book name) false

-- as many approved a request, or the stack that it came with, as are wanted
abbrev pub is_approved_with : Book → Request → Option Origin → Bool
is_approved_with book r None = is_complete (approval_of book.approvals r)
is_approved_with book r (Some origin) = is_stack_approved book origin.stack

abbrev pub is_fully_approved : Book → ℕ → Bool
is_fully_approved book n = option_map_or (λ (r : Request). is_approved_with book r r.origin) (request_at book n) false

-- request n came with a stack
abbrev pub came_with_stack : Book → ℕ → Bool
came_with_stack book n = option_map_or (λ (r : Request). is_some r.origin) (request_at book n) false

-- one of these requests has the number n, and came by itself
abbrev pub came_alone : List Request → ℕ → Bool
came_alone requests n = option_map_or (λ (r : Request). is_none r.origin) (request_in requests n) false

-- the book with an approval of a stack given
abbrev pub with_stack_approval : Book → List ℕ → List ℕ → Book
with_stack_approval book name person = record book { stack_approvals = book.stack_approvals ++ (let given : StackApproval = record { stack = name; person = person } in given) ∷ [] }

-- ---- interlocks

-- The line that has to be completed before request n, which came from here, is not at Completed. The rows of a stack are numbered
-- one after the other.
abbrev pub waits_for : Book → ℕ → Origin → Option ℕ → Bool
waits_for book n origin None = false
waits_for book n origin (Some line) = not (is_completed (place_in book (n + line - origin.line)))

abbrev pub is_held_back : Book → ℕ → Option Origin → Bool
is_held_back book n None = false
is_held_back book n (Some origin) = waits_for book n origin origin.after

-- request n may not be released, since a line before it is not completed
abbrev pub is_interlocked : Book → ℕ → Bool
is_interlocked book n = option_map_or (λ (r : Request). is_held_back book n r.origin) (request_at book n) false
