use Rattle.std.proofs.Common.{rules}
use Rattle.tc_types.specs.Words.{words, words_left}
use Rattle.tc_types.proofs.WordLaws.{words_nonempty}
use Rattle.tc_csv.proofs.InsertLemmas.{no_lines, lines_more, too_many, no_line, lines_read}
use Rattle.tc_csv.proofs.stack_texts.inserts.earlier_lines.Goals as goal

pub loop-left-init : goal.loop-left-init
loop-left-init c = no_lines c.args.line c.args.field.now _ (search rules)

pub returns-then-count-eq-MOST_INSERTED : goal.returns-then-count-eq-MOST_INSERTED
returns-then-count-eq-MOST_INSERTED c =
    too_many c.args.line (search rules) c.args.field.now (words 59 c.in-Some.text.now) c.loop-left.places (rw (c.in-Some.is, c.if-count-eq-MOST_INSERTED.true) at c.loop-left.invariant) (words_nonempty 59 c.in-Some.text.now)

pub returns-in_err-places : goal.returns-in_err-places
returns-in_err-places c =
    rw c.from_residual.ensures
    (no_line c.args.line (search rules) c.args.field.now (words_left 59 c.cut.result.1) c.loop-left.count c.loop-left.places c.cut.result.0.now (rw (c.in-Some.is, c.cut.ensures) at c.loop-left.invariant) c.in_err-places.ensures)

pub loop-left-preserved : goal.loop-left-preserved
loop-left-preserved c =
    lines_more c.args.line c.args.field.now (words_left 59 c.cut.result.1) c.loop-left.count c.loop-left.places c.cut.result.0.now c.in_ok-places.field-0 (rw (c.in-Some.is, c.cut.ensures) at c.loop-left.invariant) (search rules) c.in_ok-places.ensures

pub returns : goal.returns
returns c = lines_read c.args.line (search rules) c.args.field.now c.loop-left.count c.loop-left.places c.of.result (rw c.in_default.is at c.loop-left.invariant) c.of.ensures.found c.of.ensures.value
