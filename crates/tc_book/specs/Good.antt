-- A book that the desk could have written, as conditions on one table after the other.
use Rattle.std.specs.Prelude.{◌≡◌, ◌⊎◌, ℕ, ◌+◌, ◌≤◌, true, false, IfSome, IsSomeAnd, List, [], length, map, count_by}
use Rattle.std.specs.List.{AllByRecursion}
use Rattle.tc_types.specs.declared.history.causes.Cause.TheVariants.{Approve}
use Rattle.tc_types.specs.declared.history.moves.Move.{Move}
use Rattle.tc_types.specs.declared.tables.rows.Approval.{Approval}
use Rattle.tc_types.specs.declared.tables.rows.StackApproval.{StackApproval}
use Rattle.tc_types.specs.declared.requests.Origin.{Origin}
use Rattle.tc_types.specs.declared.requests.Request.{Request}
use Rattle.tc_types.specs.History.{IsGoodHistory, AllAfter, entered}
use Rattle.tc_types.specs.Grammar.{IsEntry}
use Rattle.tc_types.specs.Names.{IsName}
use Rattle.tc_types.specs.Limits.{most_requests, most_stacks, most_stack_rows}
use Rattle.tc_stack.specs.Approvals.{IsApproval}
use Rattle.tc_stack.specs.Stacks.{IsEarlier}
use Rattle.tc_proc.specs.GoodLogs.{IsGoodLog, NamesEntered}
use Rattle.tc_book.specs.Book.{Book, form_of, next_identity, request_in, approval_of}
use Rattle.tc_book.specs.Opening.{HasNumbers}
use Rattle.tc_book.specs.Persons.{NamesPersons}
use Rattle.tc_book.specs.Stacks.{has_stack, came_alone, stack_approval_at, is_fully_approved, begins_stack}
use Rattle.tc_book.specs.Targets.{HasGoodTargets}

-- the row on a line goes on with the stack of the request before it, by the same author
pub record IsNextRow (author : List ℕ) (origin : Origin) (before : Request) : Type 0 where
  pub by : before.author ≡ author
  pub stack : IsSomeAnd before.origin (λ (o : Origin). (o.stack ≡ origin.stack) × (origin.line ≡ o.line + 1))

-- The rows of a stack are entered one after the other: line 1 under a name that no stack has, and each other line behind the one
-- before it. There are at most as many as a stack has rows, and a row waits for an earlier line. The name has its form.
pub record IsGoodOrigin (before : List Request) (author : List ℕ) (origin : Origin) : Type 0 where
  pub line : ((origin.line ≡ 1) × (has_stack origin.stack before ≡ false)) ⊎ IsSomeAnd (request_in before (length before)) (IsNextRow author origin)
  pub few : origin.line ≤ most_stack_rows
  pub after : IfSome origin.after (IsEarlier origin.line)
  pub named : IsName origin.stack

-- One request that may follow these: it has the next number, and the next identity of its application process; what was
-- written down of it is an entry: its numbers are in their ranges, and a schedule command asks for its completion and
-- completes; each request that a command names was entered before it, is plain, asks for its acceptance where it is to be
-- inserted, and is named once; and a row of a stack is the next one of it.
pub record IsGoodRequest (before : List Request) (request : Request) : Type 0 where
  pub number : request.number ≡ length before + 1
  pub identity : request.body.identity ≡ next_identity before request.body.identity.apid
  pub entry : IsEntry (form_of request)
  pub targets : HasGoodTargets before request.body.command
  pub origin : IfSome request.origin (IsGoodOrigin before request.author)

-- The history is good; each request may follow those before it; there are no more than a desk takes; those that the history enters
-- are the book's. Each approval is of a request that came by itself, or of a stack that was loaded; the approval of each request is as
-- it can be, and so is that of each stack that somebody approved; and each request that was moved to Approved by its approvers has all
-- of them that are wanted, or its stack has. The log of procedures is good, and a step that names a request names one that was entered.
-- Those who are named are persons, there are no more stacks than a desk takes, and the rows of an opening still find numbers.
pub record IsGoodBook (book : Book) : Type 0 where
  pub history : IsGoodHistory book.history
  pub requests : AllAfter IsGoodRequest [] book.requests
  pub few : length book.requests ≤ most_requests
  pub entered : entered book.history ≡ map (λ (r : Request). r.number) book.requests
  pub named : AllByRecursion (λ (a : Approval). a.request ≤ length book.requests) book.approvals
  pub alone : AllByRecursion (λ (a : Approval). came_alone book.requests a.request ≡ true) book.approvals
  pub stacks_named : AllByRecursion (λ (a : StackApproval). has_stack a.stack book.requests ≡ true) book.stack_approvals
  pub approved : AllByRecursion (λ r. IsApproval (approval_of book.approvals r)) book.requests
  pub stacks_approved : AllByRecursion (λ (a : StackApproval). IfSome (stack_approval_at book a.stack) IsApproval) book.stack_approvals
  pub log : IsGoodLog book.log
  pub log_named : NamesEntered (length book.requests) book.log
  pub complete : AllByRecursion (λ (m : Move). m.cause ≡ Approve → is_fully_approved book m.request ≡ true) book.history
  pub persons : NamesPersons book
  pub few_stacks : count_by begins_stack book.requests ≤ most_stacks
  pub numbers : HasNumbers book
