use Rattle.std.proofs.Common.{rules, Some, []}
use Rattle.tc_types.specs.Words.{words, words_left}
use Rattle.tc_types.proofs.WordLaws.{words_nonempty}
use Rattle.tc_csv.proofs.InsertLemmas.{RidesRead, first_ride, rides_more, no_instant, no_more, one_more, rides_found, rides_only}
use Rattle.tc_csv.proofs.stack_texts.inserts.instants.Goals as goal

pub returns-in_err-time-clause-only : goal.returns-in_err-time-clause-only
returns-in_err-time-clause-only c rides are =
    absurd (no_instant c.args.lines.now c.args.field.now (words_left 59 c.cut.result.1) c.cut.result.0.now [] (record { front = []; parted = c.cut.ensures; spelled = tt }) c.in_err-time.ensures.only rides are)

pub loop-count-init : goal.loop-count-init
loop-count-init c = first_ride c.args.lines.now c.args.field.now (words_left 59 c.cut.result.1) c.cut.result.0.now c.in_ok-target.field-0.now c.in_ok-time.time c.in_ok-target.ensures.value c.cut.ensures c.in_ok-time.ensures.found

pub returns-in_err-left-clause-only : goal.returns-in_err-left-clause-only
returns-in_err-left-clause-only c rides are =
    absurd (no_more c.args.lines.now c.args.field.now c.loop-count.count c.loop-count.places (rw c.in_err-left.was at c.loop-count.invariant) (search rules) rides are)

pub returns-in_err-time-2-clause-only : goal.returns-in_err-time-2-clause-only
returns-in_err-time-2-clause-only c rides are =
    let has : RidesRead c.args.lines.now c.args.field.now (words_left 59 (Some c.in_ok-left.field-0)) c.loop-count.count c.loop-count.places = rw c.in_ok-left.was at c.loop-count.invariant in
    absurd (no_instant c.args.lines.now c.args.field.now (words_left 59 c.cut-in-loop-count.result.1) c.cut-in-loop-count.result.0.now _ (rw c.cut-in-loop-count.ensures at has.read) c.in_err-time-2.ensures.only rides are)

pub loop-count-preserved : goal.loop-count-preserved
loop-count-preserved c =
    rides_more c.args.lines.now c.args.field.now (words_left 59 c.cut-in-loop-count.result.1) c.loop-count.count c.loop-count.places c.cut-in-loop-count.result.0.now c.in_ok-time-2.time
    (rw (c.in_ok-left.was, c.cut-in-loop-count.ensures) at c.loop-count.invariant) (search rules) c.requires.few c.in_ok-time-2.ensures.found

pub returns-in-Some-clause-only : goal.returns-in-Some-clause-only
returns-in-Some-clause-only c rides are =
    absurd (one_more c.args.lines.now c.args.field.now (words 59 c.in-Some.field-0.now) c.loop-count.count c.loop-count.places (rw c.in-Some.is at c.loop-count.invariant) (search rules) c.requires.few (words_nonempty 59 c.in-Some.field-0.now) rides are)

pub returns-in-None-clause-found : goal.returns-in-None-clause-found
returns-in-None-clause-found c = rides_found c.args.lines.now c.args.field.now c.loop-count.count c.loop-count.places c.of.result (rw c.in-None.is at c.loop-count.invariant) (search rules) c.of.ensures.value

pub returns-in-None-clause-only : goal.returns-in-None-clause-only
returns-in-None-clause-only c = rides_only c.args.lines.now c.args.field.now c.loop-count.count c.loop-count.places c.of.result (rw c.in-None.is at c.loop-count.invariant) (search rules) c.requires c.of.ensures.found c.of.ensures.value
