-- A step: its record comes first, and then what it releases is released as by itself.
use Rattle.std.proofs.Common.{◌≡◌, ◌⊎◌, inr, ℕ, ◌+◌, ◌≤◌, Bool, true, false, Option, Some, None, List, [], ◌∷◌, ◌++◌, length, IsSome, Vec, refl, sym, ◌∙◌, ap, subst, arith}
use Rattle.std.proofs.lemmas.List.{length-append}
use Rattle.tc_types.specs.declared.link.frames.Frame.{Frame}
use Rattle.tc_types.specs.declared.refusals.Refusal.{Refusal}
use Rattle.tc_types.specs.declared.history.moves.Move.{Move}
use Rattle.tc_types.specs.declared.requests.Request.{Request}
use Rattle.tc_types.specs.declared.tables.rows.Approval.{Approval}
use Rattle.tc_types.specs.declared.tables.rows.StackApproval.{StackApproval}
use Rattle.tc_types.specs.declared.tables.rows.BegunExecution.{BegunExecution}
use Rattle.tc_types.specs.declared.tables.rows.Row.{Row}
use Rattle.tc_types.specs.declared.tables.rows.StepRecord.{StepRecord}
use Rattle.tc_types.specs.declared.refusals.Refusal.TheVariants.{Memory}
use Rattle.tc_types.specs.declared.link.reports.Report.{Report}
use Rattle.tc_types.specs.declared.acts.StepAct.{StepAct}
use Rattle.tc_types.specs.declared.acts.LinkAct.TheVariants as link_act
use Rattle.tc_types.specs.declared.acts.Act.TheVariants as act
use Rattle.tc_proc.specs.Logs.{LogState, tests_at, record_tests, execution_at, with_record}
use Rattle.tc_fop.specs.declared.views.FopView.{FopView}
use Rattle.tc_fop.specs.Views.{view_of}
use Rattle.tc_world.specs.declared.events.Event.{Event}
use Rattle.tc_world.specs.declared.events.LinkIndication.{LinkIndication}
use Rattle.tc_world.specs.Links.{Kind}
use Rattle.tc_world.specs.World.{refusal_of as link_refusal_of}
use Rattle.tc_book.specs.declared.stamps.Stamp.{Stamp}
use Rattle.tc_book.specs.Acts.{first_refusal}
use Rattle.tc_book.specs.Batch.{batch_rows, log_length, HasRoomFor, HoldsRoom}
use Rattle.tc_book.specs.Cargoes.{cargo_length}
use Rattle.tc_book.specs.Book.{Book, request_at}
use Rattle.tc_book.specs.Logs.{step_tests, recorded, released_with}
use Rattle.tc_book.specs.Steps.{HasNoted}
use Rattle.tc_desk.specs.declared.firsts.FirstLine.{FirstLine}
use Rattle.tc_desk.specs.Acts.{link_tests, tests_behind, refusal_of, released, released_beside, plain}
use Rattle.tc_desk.specs.Asks.{offer_at}
use Rattle.tc_desk.specs.Effects.{heard_all}
use Rattle.tc_desk.specs.Machine.{Happened, Passes, Flies, FliesBeside, Does, StaysSame}
use Rattle.tc_desk.specs.Parts.{event_beside, link_refuses, IsRefused}
use Rattle.tc_desk.specs.State.{State, widest_k}

-- ---- tests, and others behind them

-- where none of all holds, none of the others does
pub none_behind : (tests others : List (Bool × Refusal)) → first_refusal (tests ++ others) ≡ None → first_refusal others ≡ None
none_behind [] others e = e
none_behind ((true, r) ∷ tests) others e = cc
none_behind ((false, r) ∷ tests) others e = none_behind tests others e

-- where none of the first holds, the others say
pub passed_on : (tests others : List (Bool × Refusal)) → first_refusal tests ≡ None → first_refusal (tests ++ others) ≡ first_refusal others
passed_on [] others e = refl
passed_on ((true, r) ∷ tests) others e = cc
passed_on ((false, r) ∷ tests) others e = passed_on tests others e

-- where one of the first holds, it says
pub refused_first : (tests others : List (Bool × Refusal)) (refused : Refusal) → first_refusal tests ≡ Some refused → first_refusal (tests ++ others) ≡ Some refused
refused_first [] others refused e = cc
refused_first ((true, r) ∷ tests) others refused e = e
refused_first ((false, r) ∷ tests) others refused e = refused_first tests others refused e

-- ---- the record

-- a record leaves the requests and their history
pub record_noted : (stamp : Stamp) (given : StepAct) (book : Book) → HasNoted book (recorded stamp given book)
record_noted stamp given book = record { requests = refl; history = refl }

-- it is one row of the log
pub one_longer : (log : LogState) (r : StepRecord) → log_length (with_record log r) ≡ log_length log + 1
one_longer log r = let more = length-append log.records (r ∷ []) in omega (arith, more)

-- room for it, and for rows of the history
pub record_room : {A B : Type 0} (old new : Book) (r : StepRecord) (rows : ℕ) (moves : Vec Move A) (batch : Vec Row B) → new.requests ≡ old.requests → new.approvals ≡ old.approvals → new.stack_approvals ≡ old.stack_approvals
    → new.log ≡ with_record old.log r → length new.history ≤ length old.history + rows → HasRoomFor rows moves → HasRoomFor (batch_rows 0 rows + 1) batch → HoldsRoom old new moves batch
record_room old new r rows moves batch requests approvals stack_approvals log few moves_room batch_room =
    let so_many : length new.requests ≡ length old.requests = ap (λ (l : List Request). length l) requests in
    let cargo : cargo_length new.requests ≡ cargo_length old.requests = ap (λ (l : List Request). cargo_length l) requests in
    let approved : length new.approvals ≡ length old.approvals = ap (λ (l : List Approval). length l) approvals in
    let stacks_approved : length new.stack_approvals ≡ length old.stack_approvals = ap (λ (l : List StackApproval). length l) stack_approvals in
    let longer : log_length new.log ≡ log_length old.log + 1 = ap (λ (l : LogState). log_length l) log ∙ one_longer old.log r in
    let m = moves_room.1 in
    let b = batch_room.1 in
    record {
      moves_empty = moves_room.0;
      moves_room = omega (arith, few, m);
      batch_empty = batch_room.0;
      approvals = omega (arith, approved);
      stack_approvals = omega (arith, stacks_approved);
      batch_room = omega (arith, so_many, cargo, longer, few, b);
    }

-- it is of an execution that was begun, where no test refuses it
pub of_begun : (log : LogState) (r : StepRecord) → first_refusal (record_tests log r) ≡ None → IsSome (execution_at log r.execution)
of_begun log r may = by_found (execution_at log r.execution) may
  where
    by_found : (found : Option BegunExecution) → first_refusal (tests_at log found r) ≡ None → IsSome found
    by_found None may = cc
    by_found (Some x) may = refl

-- ---- a release

-- the tests of a release ask nothing of K and the spacecraft's time
pub release_says : {U D : Type 0} (stamp : Stamp) (at : State U D) (n : ℕ) (view : FopView) (says : Option Refusal) → view ≡ view_of at.world.fop → first_refusal (link_tests at.book view 0 0 (link_act.Release n)) ≡ says
    → refusal_of stamp at (act.Link (link_act.Release n)) ≡ says
release_says stamp at n view says same is = subst (λ (v : FopView). first_refusal (link_tests at.book v 0 0 (link_act.Release n)) ≡ says) same is

-- the request was offered
pub offered : {U D : Type 0} (up : Kind U Frame) (down : Kind D Report) (n : ℕ) (old new : State U D) (all : List LinkIndication) (asked : Event) → offer_at old.book n (request_at old.book n) ≡ Some asked
    → Happened up down asked old.world new.world all → new.board ≡ old.board → new.mirror ≡ old.mirror → Flies up down (link_act.Release n) old new all
offered up down n old new all asked is happened board mirror = (subst (λ (e : Option Event). Passes up down e old.world new.world all) (sym is) happened, board, mirror)

-- a release that was carried out
pub left_off : {U D : Type 0} (up : Kind U Frame) (down : Kind D Report) (stamp : Stamp) (n : ℕ) (old new : State U D) (all : List LinkIndication) (first : FirstLine) (asked : Event)
    → offer_at old.book n (request_at old.book n) ≡ Some asked → Happened up down asked old.world new.world all → new.board ≡ old.board → new.mirror ≡ old.mirror
    → new.book ≡ heard_all stamp old.mirror all (released stamp (link_act.Release n) old.book) → first ≡ plain
    → Does up down stamp (act.Link (link_act.Release n)) old new all first
left_off up down stamp n old new all first asked is happened board mirror book begins = record { link = offered up down n old new all asked is happened board mirror; book = book; begins = begins }

-- what the link refused, or memory
pub release_refused : {U D : Type 0} (up : Kind U Frame) (down : Kind D Report) (stamp : Stamp) (n : ℕ) (old new : State U D) (refused : Refusal) (asked : Event)
    → refusal_of stamp old (act.Link (link_act.Release n)) ≡ None → offer_at old.book n (request_at old.book n) ≡ Some asked
    → (refused ≡ Memory) ⊎ (link_refusal_of asked old.world ≡ Some refused) → StaysSame up down old new → IsRefused up down stamp (act.Link (link_act.Release n)) old new refused
release_refused {U} {D} up down stamp n old new refused asked free is why same = record {
  why = inr (free, subst (λ (e : Option Event). (refused ≡ Memory) ⊎ (link_refuses e old.world ≡ Some refused)) (sym is) why);
  same = same;
}

-- ---- a step

-- a test of the record refuses it
pub step_refused : {U D : Type 0} (stamp : Stamp) (at : State U D) (given : StepAct) (refused : Refusal) → first_refusal (step_tests stamp at.book given) ≡ Some refused → refusal_of stamp at (act.Step given) ≡ Some refused
step_refused stamp at given refused says = refused_first (step_tests stamp at.book given) _ refused says

-- none does, and the tests behind say
pub step_says : {U D : Type 0} (stamp : Stamp) (at : State U D) (given : StepAct) (beside : Option ℕ) (says : Option Refusal) → first_refusal (step_tests stamp at.book given) ≡ None
    → released_with at.book given ≡ beside → first_refusal (tests_behind at.book (view_of at.world.fop) (widest_k at.world.farm.window) at.board.time beside) ≡ says → refusal_of stamp at (act.Step given) ≡ says
step_says stamp at given beside says may is behind =
    passed_on (step_tests stamp at.book given) (tests_behind at.book (view_of at.world.fop) (widest_k at.world.farm.window) at.board.time (released_with at.book given)) may
    ∙ ap (λ (b : Option ℕ). first_refusal (tests_behind at.book (view_of at.world.fop) (widest_k at.world.farm.window) at.board.time b)) is ∙ behind

-- a step that was carried out, with the release that comes with it, if one does
pub stepped : {U D : Type 0} (up : Kind U Frame) (down : Kind D Report) (stamp : Stamp) (given : StepAct) (beside : Option ℕ) (old new : State U D) (all : List LinkIndication) (first : FirstLine)
    → released_with old.book given ≡ beside → FliesBeside up down beside old new all
    → new.book ≡ heard_all stamp old.mirror all (released_beside stamp beside (recorded stamp given old.book)) → first ≡ plain
    → Does up down stamp (act.Step given) old new all first
stepped {U} {D} up down stamp given beside old new all first is flies book begins = record {
  link = subst (λ (b : Option ℕ). FliesBeside up down b old new all) (sym is) flies;
  book = book ∙ ap (λ (b : Option ℕ). heard_all stamp old.mirror all (released_beside stamp b (recorded stamp given old.book))) (sym is);
  begins = begins;
}

-- one with which nothing is released
pub noted_off : {U D : Type 0} (up : Kind U Frame) (down : Kind D Report) (stamp : Stamp) (given : StepAct) (old new : State U D) (all : List LinkIndication) (first : FirstLine)
    → released_with old.book given ≡ None → new.world ≡ old.world → new.board ≡ old.board → new.mirror ≡ old.mirror → all ≡ [] → new.book ≡ recorded stamp given old.book → first ≡ plain
    → Does up down stamp (act.Step given) old new all first
noted_off up down stamp given old new all first is world board mirror silent book begins =
    stepped up down stamp given None old new all first is (world, board, mirror, silent) (book ∙ sym (ap (λ (l : List LinkIndication). heard_all stamp old.mirror l (recorded stamp given old.book)) silent)) begins

-- what the link refused, or memory
pub beside_refused : {U D : Type 0} (up : Kind U Frame) (down : Kind D Report) (stamp : Stamp) (given : StepAct) (n : ℕ) (old new : State U D) (refused : Refusal) (asked : Event)
    → refusal_of stamp old (act.Step given) ≡ None → released_with old.book given ≡ Some n → offer_at old.book n (request_at old.book n) ≡ Some asked
    → (refused ≡ Memory) ⊎ (link_refusal_of asked old.world ≡ Some refused) → StaysSame up down old new → IsRefused up down stamp (act.Step given) old new refused
beside_refused {U} {D} up down stamp given n old new refused asked free beside is why same = record {
  why = inr (free, subst (λ (e : Option Event). (refused ≡ Memory) ⊎ (link_refuses e old.world ≡ Some refused)) (sym (ap (event_beside old) beside ∙ is)) why);
  same = same;
}
