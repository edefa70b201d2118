-- When a room stops: with an answer 31 alone. No test gives that, and none gives 32.
use Rattle.std.proofs.Common.{◌≡◌, ◌⊎◌, inl, inr, ℕ, nat_lt, Bool, true, false, ◌&&◌, if◌then◌else◌, Option, Some, None, Result, Ok, Err, List, [], ◌∷◌, ◌++◌, refl, sym, ◌∙◌, subst, ap}
use Rattle.std.specs.Prelude.{⊤}
use Rattle.tc_types.specs.Lines.{refusal_number}
use Rattle.tc_types.specs.Tests.{first_refusal}
use Rattle.tc_types.specs.declared.refusals.Refusal.{Refusal}
use Rattle.tc_types.specs.declared.refusals.Refusal.TheVariants.{BadText, DeskFull, Memory, Store, Stopped, TooLong}
use Rattle.tc_types.specs.declared.acts.Act.{Act}
use Rattle.tc_types.specs.declared.acts.Act.TheVariants as act
use Rattle.tc_types.specs.declared.acts.BookAct.{BookAct}
use Rattle.tc_types.specs.declared.acts.BookAct.TheVariants as book_act
use Rattle.tc_types.specs.declared.acts.LinkAct.{LinkAct}
use Rattle.tc_types.specs.declared.acts.LinkAct.TheVariants as link_act
use Rattle.tc_types.specs.declared.acts.Line.{Line}
use Rattle.tc_types.specs.declared.acts.Query.{Query}
use Rattle.tc_types.specs.declared.acts.Query.TheVariants as query
use Rattle.tc_types.specs.declared.tables.rows.BegunExecution.{BegunExecution}
use Rattle.tc_types.specs.declared.tables.rows.StepRecord.{StepRecord}
use Rattle.tc_types.specs.declared.loads.LoadKind.{LoadKind}
use Rattle.tc_csv.specs.declared.faults.Rule.{Rule}
use Rattle.tc_csv.specs.declared.faults.Rule.TheVariants as rule
use Rattle.tc_csv.specs.Faults.{rule_refusal}
use Rattle.tc_stack.specs.Approvals.{ApprovalState}
use Rattle.tc_proc.specs.Logs.{LogState, execution_at, tests_at}
use Rattle.tc_fop.specs.declared.views.FopView.{FopView}
use Rattle.tc_book.specs.declared.stamps.Stamp.{Stamp}
use Rattle.tc_book.specs.Acts as on_book
use Rattle.tc_book.specs.Book.{Book, approval_at, has_all_rows}
use Rattle.tc_book.specs.Stacks.{stack_approval_at}
use Rattle.tc_book.specs.Logs.{record_made, released_with, step_tests}
use Rattle.tc_fop.specs.Views.{view_of}
use Rattle.tc_desk.specs.State.{widest_k}
use Rattle.tc_desk.specs.Acts.{link_tests, refusal_of, tests_behind, tests_of}
use Rattle.tc_desk.specs.Loads.{Loading, Stack, Procedure, tests_of_load}
use Rattle.tc_room.specs.Calls.{IsUnfit, JudgesActMoment, JudgesActText}
use Rattle.tc_room.specs.Joined.{LinkState, Standing}
use Rattle.tc_room.specs.Loads.{IsNotRead}
use Rattle.tc_room.specs.Room.{Stops}

-- ---- which refusals a test gives

abbrev pub is_before_31 : Refusal → Bool
is_before_31 refusal = nat_lt (refusal_number refusal) 31

abbrev are_before_31 : List (Bool × Refusal) → Bool
are_before_31 [] = true
are_before_31 (test ∷ tests) = is_before_31 test.1 && are_before_31 tests

second : (a b : Bool) → (a && b) ≡ true → b ≡ true
second true b both = both
second false b both = absurd (let e : false ≡ true = both in cc)

with_second : (a b c : Bool) → (a && b) ≡ true → c ≡ true → (a && c) ≡ true
with_second true b c both is = is
with_second false b c both is = absurd (let e : false ≡ true = both in cc)

first : (a b : Bool) → (a && b) ≡ true → a ≡ true
first true b both = refl
first false b both = absurd (let e : false ≡ true = both in cc)

joined : (tests others : List (Bool × Refusal)) → are_before_31 tests ≡ true → are_before_31 others ≡ true → are_before_31 (tests ++ others) ≡ true
joined [] others _ are = are
joined (test ∷ tests) others all are = with_second (is_before_31 test.1) (are_before_31 tests) (are_before_31 (tests ++ others)) all (joined tests others (second (is_before_31 test.1) (are_before_31 tests) all) are)

by_test : (holds : Bool) (given : Refusal) (others : Option Refusal) (refusal : Refusal) → is_before_31 given ≡ true → (others ≡ Some refusal → is_before_31 refusal ≡ true)
    → (if holds then Some given else others) ≡ Some refusal → is_before_31 refusal ≡ true
by_test true given others refusal low behind is = let same : given ≡ refusal = (let e : Some given ≡ Some refusal = is in cc) in subst (λ (r : Refusal). is_before_31 r ≡ true) same low
by_test false given others refusal low behind is = behind is

by_first : (tests : List (Bool × Refusal)) (refusal : Refusal) → are_before_31 tests ≡ true → first_refusal tests ≡ Some refusal → is_before_31 refusal ≡ true
by_first [] refusal all is = absurd (let none : Option Refusal = None in let e : none ≡ Some refusal = is in cc)
by_first (test ∷ tests) refusal all is =
    by_test test.0 test.1 (first_refusal tests) refusal (first (is_before_31 test.1) (are_before_31 tests) all) (by_first tests refusal (second (is_before_31 test.1) (are_before_31 tests) all)) is

approvals : (person : List ℕ) (state : Option ApprovalState) → are_before_31 (on_book.approval_tests person state) ≡ true
approvals person None = refl
approvals person (Some state) = refl

of_book : (stamp : Stamp) (book : Book) (given : BookAct) → are_before_31 (on_book.tests_of stamp book given) ≡ true
of_book stamp book (book_act.Enter entry) = refl
of_book stamp book (book_act.Withdraw n) = refl
of_book stamp book (book_act.Approve n) =
    joined (on_book.approval_tests stamp.by (approval_at book n)) ((has_all_rows book, DeskFull) ∷ []) (approvals stamp.by (approval_at book n)) refl
of_book stamp book (book_act.Close n) = refl
of_book stamp book (book_act.ApproveStack name) =
    joined (on_book.approval_tests stamp.by (stack_approval_at book name)) ((has_all_rows book, DeskFull) ∷ []) (approvals stamp.by (stack_approval_at book name)) refl
of_book stamp book (book_act.Begin name) = refl

of_link : (book : Book) (fop : FopView) (widest now : ℕ) (given : LinkAct) → are_before_31 (link_tests book fop widest now given) ≡ true
of_link book fop widest now (link_act.Release n) = refl
of_link book fop widest now (link_act.Direct given) = refl
of_link book fop widest now link_act.Tick = refl
of_link book fop widest now link_act.Up = refl
of_link book fop widest now (link_act.LoseUp place) = refl
of_link book fop widest now (link_act.LoseDown place) = refl
of_link book fop widest now link_act.Clcw = refl
of_link book fop widest now link_act.Down = refl
of_link book fop widest now link_act.Work = refl
of_link book fop widest now (link_act.Clock time) = refl

of_record : (log : LogState) (found : Option BegunExecution) (given : StepRecord) → are_before_31 (tests_at log found given) ≡ true
of_record log None given = refl
of_record log (Some execution) given = refl

of_release : (book : Book) (fop : FopView) (widest now : ℕ) (released : Option ℕ) → are_before_31 (tests_behind book fop widest now released) ≡ true
of_release book fop widest now None = refl
of_release book fop widest now (Some n) = refl

of_question : (book : Book) (asked : Query) → are_before_31 (on_book.query_tests book asked) ≡ true
of_question book query.Places = refl
of_question book (query.History n after) = refl
of_question book (query.Request n) = refl
of_question book query.Link = refl
of_question book query.Schedule = refl
of_question book (query.Log execution) = refl
of_question book (query.Report from to) = refl
of_question book query.Waiting = refl
of_question book (query.Urgent from) = refl
of_question book (query.Moves after) = refl
of_question book (query.Standing place after) = refl
of_question book (query.Steps procedure) = refl

of_act : (stamp : Stamp) (at : LinkState) (given : Act) → are_before_31 (tests_of stamp at given) ≡ true
of_act stamp at (act.Book given) = of_book stamp at.book given
of_act stamp at (act.Link given) = of_link at.book (view_of at.world.fop) (widest_k at.world.farm.window) at.board.time given
of_act stamp at (act.Step given) =
    joined (step_tests stamp at.book given) (tests_behind at.book (view_of at.world.fop) (widest_k at.world.farm.window) at.board.time (released_with at.book given))
    (of_record at.book.log (execution_at at.book.log given.execution) (record_made stamp given))
    (of_release at.book (view_of at.world.fop) (widest_k at.world.farm.window) at.board.time (released_with at.book given))
of_act stamp at (act.Ask asked) = of_question at.book asked

is_memory : (refusal : Refusal) → refusal ≡ Memory → is_before_31 refusal ≡ true
is_memory refusal is = subst (λ (r : Refusal). is_before_31 r ≡ true) (sym is) refl

told_by : (tests : List (Bool × Refusal)) (refusal : Refusal) → are_before_31 tests ≡ true
    → (first_refusal tests ≡ Some refusal) ⊎ ((first_refusal tests ≡ None) × (refusal ≡ Memory)) → is_before_31 refusal ≡ true
told_by tests refusal all (inl is) = by_first tests refusal all is
told_by tests refusal all (inr (_, is)) = is_memory refusal is

pub act_told : (stamp : Stamp) (at : LinkState) (given : Act) (refusal : Refusal)
    → (refusal_of stamp at given ≡ Some refusal) ⊎ ((refusal_of stamp at given ≡ None) × (refusal ≡ Memory)) → is_before_31 refusal ≡ true
act_told stamp at given refusal why = told_by (tests_of stamp at given) refusal (of_act stamp at given) why

-- so it is of a load
of_load : (stamp : Stamp) (book : Book) (given : Loading) → are_before_31 (tests_of_load stamp book given) ≡ true
of_load stamp book (Stack name rows) = refl
of_load stamp book (Procedure name steps) = refl

pub load_told : (stamp : Stamp) (book : Book) (given : Loading) (refusal : Refusal)
    → (first_refusal (tests_of_load stamp book given) ≡ Some refusal) ⊎ ((first_refusal (tests_of_load stamp book given) ≡ None) × (refusal ≡ Memory)) → is_before_31 refusal ≡ true
load_told stamp book given refusal why = told_by (tests_of_load stamp book given) refusal (of_load stamp book given) why

-- ---- what stops a room

pub true_false : true ≡ false → ⊥
true_false e = cc

keeps_going : {X S : Type 0} (old new : Standing S) (result : Result X Refusal) → old.stopped ≡ false → new.stopped ≡ false → (result ≡ Err Store → ⊥) → (result ≡ Err Stopped → ⊥)
    → Stops old result new
keeps_going old new result was is no_31 no_32 = record {
  stopped = ((λ now. absurd (true_false (sym now ∙ is))), by_cause);
  same = λ told. absurd (no_32 told);
}
  where
    by_cause : (old.stopped ≡ true) ⊎ (result ≡ Err Store) → new.stopped ≡ true
    by_cause (inl now) = absurd (true_false (sym now ∙ was))
    by_cause (inr told) = absurd (no_31 told)

err_same : {X : Type 0} (one other : Refusal) → (let e : Result X Refusal = Err one in e) ≡ Err other → one ≡ other
err_same one other is = cc

ok_err : {X : Type 0} (x : X) (refusal : Refusal) → (let e : Result X Refusal = Ok x in e) ≡ Err refusal → ⊥
ok_err x refusal is = cc

not_late : (refusal late : Refusal) → is_before_31 refusal ≡ true → is_before_31 late ≡ false → refusal ≡ late → ⊥
not_late refusal late low high is = true_false (sym (subst (λ (r : Refusal). is_before_31 r ≡ true) is low) ∙ high)

-- what is answered leaves it going, and so does a refusal of a test
pub stops_ok : {X S : Type 0} (old new : Standing S) (answer : X) → old.stopped ≡ false → new.stopped ≡ false → Stops old (Ok answer) new
stops_ok old new answer was is = keeps_going old new (Ok answer) was is (ok_err answer Store) (ok_err answer Stopped)

pub stops_refused : {X S : Type 0} (old new : Standing S) (result : Result X Refusal) (refusal : Refusal) → result ≡ Err refusal → old.stopped ≡ false → new.stopped ≡ false
    → is_before_31 refusal ≡ true → Stops old result new
stops_refused {X} old new result refusal gone was is low =
    keeps_going old new result was is (λ told. not_late refusal Store low refl (err_same {X = X} refusal Store (sym gone ∙ told)))
    (λ told. not_late refusal Stopped low refl (err_same {X = X} refusal Stopped (sym gone ∙ told)))

-- a room that has stopped says so, and stays as it is
pub stops_stopped : {X S : Type 0} (at : Standing S) (result : Result X Refusal) → result ≡ Err Stopped → at.stopped ≡ true → Stops at result at
stops_stopped at result is stopped = record { stopped = ((λ new. inl stopped), (λ why. stopped)); same = λ told. (stopped, refl) }

-- a room stops with an answer 31
pub stops_failed : {X S : Type 0} (old new : Standing S) (result : Result X Refusal) → result ≡ Err Store → new.stopped ≡ true → Stops old result new
stops_failed {X} old new result gone now = record { stopped = ((λ is. inr gone), (λ cause. now)); same = λ told. absurd (not_stopped (err_same {X = X} Store Stopped (sym gone ∙ told))) }
  where
    not_stopped : Store ≡ Stopped → ⊥
    not_stopped is = cc

-- ---- what is called

module _ {X S : Type 0} (old new : Standing S) (told : Result ⊤ Refusal) where
  -- what is told of a result stops a room as the result does
  pub stops_granted : (x : X) → told ≡ Ok tt → Stops old (let e : Result X Refusal = Ok x in e) new → Stops old told new
  stops_granted x is stops = record {
    stopped = ((λ now. cause (stops.stopped.0 now)), after);
    same = λ says. absurd (ok_err tt Stopped (sym is ∙ says));
  }
    where
      cause : (old.stopped ≡ true) ⊎ ((let e : Result X Refusal = Ok x in e) ≡ Err Store) → (old.stopped ≡ true) ⊎ (told ≡ Err Store)
      cause (inl was) = inl was
      cause (inr failed) = absurd (ok_err x Store failed)

      after : (old.stopped ≡ true) ⊎ (told ≡ Err Store) → new.stopped ≡ true
      after (inl was) = stops.stopped.1 (inl was)
      after (inr failed) = absurd (ok_err tt Store (sym is ∙ failed))

  pub stops_told : (refusal : Refusal) → told ≡ Err refusal → Stops old (let e : Result X Refusal = Err refusal in e) new → Stops old told new
  stops_told refusal is stops = record {
    stopped = ((λ now. cause (stops.stopped.0 now)), after);
    same = λ says. stops.same (ap err_of (err_same {X = ⊤} refusal Stopped (sym is ∙ says)));
  }
    where
      err_of : Refusal → Result X Refusal
      err_of why = Err why

      cause : (old.stopped ≡ true) ⊎ (err_of refusal ≡ Err Store) → (old.stopped ≡ true) ⊎ (told ≡ Err Store)
      cause (inl was) = inl was
      cause (inr failed) = inr (is ∙ ap (λ (why : Refusal). let e : Result ⊤ Refusal = Err why in e) (err_same {X = X} refusal Store failed))

      after : (old.stopped ≡ true) ⊎ (told ≡ Err Store) → new.stopped ≡ true
      after (inl was) = stops.stopped.1 (inl was)
      after (inr failed) = stops.stopped.1 (inr (ap err_of (err_same {X = ⊤} refusal Store (sym is ∙ failed))))

-- a room that looked and went on stops as it does then
pub stops_over : {X Y S : Type 0} (old mid new : Standing S) (x : X) (result : Result Y Refusal) → Stops old (let e : Result X Refusal = Ok x in e) mid → mid.stopped ≡ false → Stops mid result new → Stops old result new
stops_over {X} old mid new x result looks going stops = record {
  stopped = ((λ now. cause (stops.stopped.0 now)), after);
  same = λ told. absurd (true_false (sym (stops.same told).0 ∙ going));
}
  where
    cause : (mid.stopped ≡ true) ⊎ (result ≡ Err Store) → (old.stopped ≡ true) ⊎ (result ≡ Err Store)
    cause (inl was) = absurd (true_false (sym was ∙ going))
    cause (inr failed) = inr failed

    after : (old.stopped ≡ true) ⊎ (result ≡ Err Store) → new.stopped ≡ true
    after (inl was) = stops.stopped.1 (inl (looks.stopped.1 (inl was)))
    after (inr failed) = stops.stopped.1 (inr failed)

-- no test of a text gives 31 or 32
low_of : (refusal given : Refusal) → is_before_31 given ≡ true → refusal ≡ given → is_before_31 refusal ≡ true
low_of refusal given low is = subst (λ (r : Refusal). is_before_31 r ≡ true) (sym is) low

judged_low : (by text : List ℕ) (moment : Option ℕ) (refusal : Refusal) → JudgesActMoment text by moment (Err refusal) → is_before_31 refusal ≡ true
judged_low by text None refusal is = low_of refusal BadText refl (err_same {X = Line} refusal BadText is)
judged_low by text (Some at) refusal is = low_of refusal BadText refl is.1

pub act_text_low : (by text : List ℕ) (moment : Option ℕ) (refusal : Refusal) → JudgesActText text by moment (Err refusal) → is_before_31 refusal ≡ true
act_text_low by text moment refusal (inl long) = low_of refusal TooLong refl (err_same {X = Line} refusal TooLong long.1)
act_text_low by text moment refusal (inr short) = judged_low by text moment refusal short.1

pub unfit_low : (kind : LoadKind) (csv : List ℕ) (refusal : Refusal) → (refusal ≡ Memory) ⊎ IsUnfit kind csv refusal → is_before_31 refusal ≡ true
unfit_low kind csv refusal (inl is) = is_memory refusal is
unfit_low kind csv refusal (inr (inl long)) = low_of refusal TooLong refl long.1
unfit_low kind csv refusal (inr (inr bad)) = low_of refusal BadText refl bad.1

rule_low : (rule : Rule) → is_before_31 (rule_refusal rule) ≡ true
rule_low rule.TextLength = refl
rule_low rule.RowCount = refl
rule_low rule.Header = refl
rule_low rule.SomeRow = refl
rule_low rule.FieldCount = refl
rule_low rule.Line = refl
rule_low rule.Apid = refl
rule_low rule.Service = refl
rule_low rule.Subtype = refl
rule_low rule.Target = refl
rule_low rule.Time = refl
rule_low rule.Ack = refl
rule_low rule.Critical = refl
rule_low rule.After = refl
rule_low rule.Outcome = refl
rule_low rule.TargetRow = refl
rule_low rule.StepNumber = refl
rule_low rule.StepText = refl
rule_low rule.Second = refl
rule_low rule.StepRequest = refl

pub unread_low : (kind : LoadKind) (csv : List ℕ) (refusal : Refusal) → IsNotRead kind csv refusal → is_before_31 refusal ≡ true
unread_low kind csv refusal (inl is) = is_memory refusal is
unread_low kind csv refusal (inr (fault, is, why)) = low_of refusal (rule_refusal fault.rule) (rule_low fault.rule) why
