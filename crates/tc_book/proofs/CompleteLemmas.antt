-- Who is fully approved, by what is kept of the approval of each request and by the approvals of stacks.
use Rattle.std.proofs.Common.{◌≡◌, ℕ, zero, suc, ◌-◌, ◌==◌, Bool, true, false, if◌then◌else◌, Option, Some, None, List, [], ◌∷◌, map, slice_get, refl, sym, ◌∙◌, ap}
use Rattle.std.specs.Option.{option_map, option_map_or}
use Rattle.tc_types.specs.declared.requests.Origin.{Origin}
use Rattle.tc_types.specs.declared.requests.Request.{Request}
use Rattle.tc_types.specs.declared.tables.rows.Approval.{Approval}
use Rattle.tc_types.specs.declared.tables.rows.StackApproval.{StackApproval}
use Rattle.tc_stack.specs.Approvals.{ApprovalState, is_complete}
use Rattle.tc_book.specs.Approvals.{kept_approval}
use Rattle.tc_book.specs.Book.{Book, approval_of, request_in}
use Rattle.tc_book.specs.Known.{approved_book, stack_with}
use Rattle.tc_book.specs.Stacks.{is_approved_with, is_stack_approved, is_fully_approved}

kept_option : {X Y : Type 0} (f : X → Y) (xs : List X) (i : ℕ) → slice_get (map f xs) i ≡ option_map f (slice_get xs i)
kept_option f [] i = refl
kept_option f (x ∷ xs) zero = refl
kept_option f (x ∷ xs) (suc i) = kept_option f xs i

-- a request that came by itself
pub alone_full : (requests : List Request) (approvals : List Approval) (stack_approvals : List StackApproval) (n : ℕ) (kept : List ApprovalState) → kept ≡ map (approval_of approvals) requests
    → stack_with (request_in requests n) ≡ None → option_map_or is_complete (kept_approval kept n) false ≡ is_fully_approved (approved_book requests approvals stack_approvals) n
alone_full requests approvals stack_approvals n kept is none =
    ap (λ l. option_map_or is_complete (kept_approval l n) false) is ∙ by_zero (n == 0) none
  where
    book : Book
    book = approved_book requests approvals stack_approvals

    by_origin : (r : Request) (origin : Option Origin) → option_map (λ (o : Origin). o.stack) origin ≡ None → is_complete (approval_of approvals r) ≡ is_approved_with book r origin
    by_origin r None h = refl
    by_origin r (Some o) h = cc

    by_found : (found : Option Request) → stack_with found ≡ None → option_map_or is_complete (option_map (approval_of approvals) found) false ≡ option_map_or (λ (r : Request). is_approved_with book r r.origin) found false
    by_found None h = refl
    by_found (Some r) h = by_origin r r.origin h

    by_zero : (t : Bool) → stack_with (if t then None else slice_get requests (n - 1)) ≡ None
        → option_map_or is_complete (if t then None else slice_get (map (approval_of approvals) requests) (n - 1)) false
        ≡ option_map_or (λ (r : Request). is_approved_with book r r.origin) (if t then None else slice_get requests (n - 1)) false
    by_zero true h = refl
    by_zero false h = ap (λ o. option_map_or is_complete o false) (kept_option (approval_of approvals) requests (n - 1)) ∙ by_found (slice_get requests (n - 1)) h

-- a request that came with a stack
pub stack_full : (requests : List Request) (approvals : List Approval) (stack_approvals : List StackApproval) (n : ℕ) (name : List ℕ)
    → stack_with (request_in requests n) ≡ Some name → is_stack_approved (approved_book requests [] stack_approvals) name ≡ is_fully_approved (approved_book requests approvals stack_approvals) n
stack_full requests approvals stack_approvals n name there = by_found (request_in requests n) there
  where
    book : Book
    book = approved_book requests approvals stack_approvals

    by_origin : (r : Request) (origin : Option Origin) → option_map (λ (o : Origin). o.stack) origin ≡ Some name → is_stack_approved (approved_book requests [] stack_approvals) name ≡ is_approved_with book r origin
    by_origin r None h = cc
    by_origin r (Some o) h = let same : o.stack ≡ name = cc in ap (is_stack_approved (approved_book requests [] stack_approvals)) (sym same)

    by_found : (found : Option Request) → stack_with found ≡ Some name → is_stack_approved (approved_book requests [] stack_approvals) name ≡ option_map_or (λ (r : Request). is_approved_with book r r.origin) found false
    by_found None h = cc
    by_found (Some r) h = by_origin r r.origin h
