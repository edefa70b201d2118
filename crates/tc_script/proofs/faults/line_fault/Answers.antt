use Rattle.tc_types.specs.ActGrammar.{HasLongAct}
use Rattle.tc_script.proofs.WrongLemmas.{none_taken, wrong_tells, wrong_blamed}
use Rattle.tc_script.proofs.faults.line_fault.Goals as goal

pub returns-clause-taken : goal.returns-clause-taken
returns-clause-taken c =
    let short : ¬ HasLongAct c.args.line.now = λ long. let is = c.is_too_long.ensures.1 long in let no = c.if-is_too_long.false in cc in
    none_taken c.args.line.now c.word_fault.result short c.word_fault.ensures.found c.word_fault.ensures.none

pub returns-clause-told : goal.returns-clause-told
returns-clause-told c =
    let short : ¬ HasLongAct c.args.line.now = λ long. let is = c.is_too_long.ensures.1 long in let no = c.if-is_too_long.false in cc in
    wrong_tells c.args.line.now c.word_fault.result short c.word_fault.ensures.found

pub returns-clause-blamed : goal.returns-clause-blamed
returns-clause-blamed c = wrong_blamed c.args.line.now c.word_fault.result c.word_fault.ensures.found
