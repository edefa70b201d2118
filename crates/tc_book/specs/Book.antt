-- The book: the requests that were entered, the history of their moves, who approved which, or which stack, and the log of
-- procedures. Where a request stands is read from the history alone, and which stacks were loaded from the requests.
use Rattle.std.specs.Prelude.{ℕ, ◌+◌, ◌-◌, ◌%◌, ◌==◌, Bool, not, ◌&&◌, ◌||◌, nat_le, nat_lt, if◌then◌else◌, Option, None, List, [], ◌∷◌, ◌++◌, length, map, filter, count_by, slice_get}
use Rattle.std.specs.List.{list_any}
use Rattle.std.specs.Option.{option_map}
use Rattle.tc_types.specs.declared.history.places.Place.{Place}
use Rattle.tc_types.specs.declared.history.places.Place.TheVariants.{Entered}
use Rattle.tc_types.specs.declared.history.causes.Cause.{Cause}
use Rattle.tc_types.specs.declared.history.causes.Cause.TheVariants as cause
use Rattle.tc_types.specs.declared.history.moves.Move.{Move}
use Rattle.tc_types.specs.declared.requests.Request.{Request}
use Rattle.tc_types.specs.declared.requests.Identity.{Identity}
use Rattle.tc_types.specs.declared.requests.Form.{Form}
use Rattle.tc_types.specs.declared.requests.Origin.{Origin}
use Rattle.tc_types.specs.declared.tables.rows.Approval.{Approval}
use Rattle.tc_types.specs.declared.tables.rows.StackApproval.{StackApproval}
use Rattle.tc_stack.specs.Approvals.{ApprovalState}
use Rattle.tc_proc.specs.Logs.{LogState, empty_log}
use Rattle.tc_types.specs.Lawful.{is_among, final_places}
use Rattle.tc_types.specs.History.{place_of}
use Rattle.tc_types.specs.Limits.{most_requests, most_moves}
use Rattle.tc_book.specs.declared.stamps.Stamp.{Stamp}

pub record Book : Type 0 where
  pub requests : List Request
  pub history : List Move
  -- in the order in which they were given, as those of stacks
  pub approvals : List Approval
  pub stack_approvals : List StackApproval
  -- the procedures that were loaded, their executions, and what is recorded of them
  pub log : LogState

-- the book of a desk where nothing happened yet
abbrev pub empty_book : Book
empty_book = record { requests = []; history = []; approvals = []; stack_approvals = []; log = empty_log }

-- where request n stands
abbrev pub place_in : Book → ℕ → Option Place
place_in book n = place_of book.history n

-- request n stands at one of these places
abbrev pub stands : Book → ℕ → List Place → Bool
stands book n places = is_among places (place_in book n)

-- no request has the number n: requests are numbered from 1 in order of entry
abbrev pub is_unknown : Book → ℕ → Bool
is_unknown book n = n == 0 || nat_lt (length book.requests) n

-- the one of these requests with the number n
abbrev pub request_in : List Request → ℕ → Option Request
request_in requests n = if n == 0 then None else slice_get requests (n - 1)

abbrev pub request_at : Book → ℕ → Option Request
request_at book n = request_in book.requests n

-- what these requests leave as the next identity of an application process: its count is how many requests of it
-- were entered before, modulo 16,384
abbrev pub next_identity : List Request → ℕ → Identity
next_identity requests apid =
    record { apid = apid; count = count_by (λ (r : Request). r.body.identity.apid == apid) requests % 16384 }

abbrev pub same_identity : Identity → Identity → Bool
same_identity a b = a.apid == b.apid && a.count == b.count

-- a request that is not at a final place has this identity
abbrev pub is_identity_in_use : Book → Identity → Bool
is_identity_in_use book identity =
    list_any (λ (r : Request). same_identity r.body.identity identity && not (stands book r.number final_places)) book.requests

-- the limits of the desk: 65,535 requests; and no more acts once 990,000 history rows stand
abbrev pub has_all_requests : Book → Bool
has_all_requests book = nat_le most_requests (length book.requests)

abbrev pub has_all_rows : Book → Bool
has_all_rows book = nat_le most_moves (length book.history)

-- a move that is wanted: which request, where to, why
pub record Want : Type 0 where
  pub request : ℕ
  pub to : Place
  pub cause : Cause

abbrev pub want : ℕ → Place → Cause → Want
want n to cause = record { request = n; to = to; cause = cause }

-- the row of a wanted move: it has the next number and says where the request stood
abbrev pub row_of : Stamp → List Move → Want → Move
row_of stamp history wanted = record {
  seq = length history + 1;
  request = wanted.request;
  from = place_of history wanted.request;
  to = wanted.to;
  cause = wanted.cause;
  by = stamp.by;
  moment = stamp.moment;
}

-- the book with a move made
abbrev pub moved : Stamp → Book → Want → Book
moved stamp book wanted = record book { history = book.history ++ row_of stamp book.history wanted ∷ [] }

-- the request that an entry makes, by itself or as a row of a stack
abbrev pub request_of : Stamp → List Request → Option Origin → Form → Request
request_of stamp requests origin entry = record {
  number = length requests + 1;
  body = record {
    identity = next_identity requests entry.apid;
    ack = entry.ack;
    command = entry.command;
    outcome = entry.outcome;
  };
  critical = entry.critical;
  author = stamp.by;
  origin = origin;
}

-- what was written down of a request when it was entered
abbrev pub form_of : Request → Form
form_of request = record {
  apid = request.body.identity.apid;
  ack = request.body.ack;
  critical = request.critical;
  command = request.body.command;
  outcome = request.body.outcome;
}

-- the book with a request entered: it stands at Entered
abbrev pub with_request : Stamp → Book → Option Origin → Form → Book
with_request stamp book origin entry = record book {
  requests = book.requests ++ request_of stamp book.requests origin entry ∷ [];
  history = book.history ++ row_of stamp book.history (want (length book.requests + 1) Entered cause.Enter) ∷ [];
}

-- the same of one that is entered by itself
abbrev pub with_entry : Stamp → Book → Form → Book
with_entry stamp book entry = with_request stamp book None entry

-- who approved request n, in the order in which they did
abbrev pub approvers_of : List Approval → ℕ → List (List ℕ)
approvers_of approvals n = map (λ (a : Approval). a.person) (filter (λ (a : Approval). a.request == n) approvals)

-- the approval of a request
abbrev pub approval_of : List Approval → Request → ApprovalState
approval_of approvals request = record { author = request.author; critical = request.critical; persons = approvers_of approvals request.number }

-- the approval of request n
abbrev pub approval_at : Book → ℕ → Option ApprovalState
approval_at book n = option_map (approval_of book.approvals) (request_at book n)

-- the book with an approval given
abbrev pub with_approval : Book → ℕ → List ℕ → Book
with_approval book n person = record book { approvals = book.approvals ++ (let given : Approval = record { request = n; person = person } in given) ∷ [] }
