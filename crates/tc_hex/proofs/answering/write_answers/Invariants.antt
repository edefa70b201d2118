-- As many lines were answered as the place says.
use Rattle.tc_hex.specs.Answers.{AnsweredFrom}
use Rattle.tc_hex.proofs.answering.write_answers.Given as goal

abbrev pub invariant-loop-place : goal.invariant-loop-place
invariant-loop-place g l =
    AnsweredFrom l.profile l.layer (g.R.Read.remaining l.fn.reader) (g.R.Read.remaining l.reader) (g.W.Write.contents l.fn.writer) (g.W.Write.contents l.writer) l.place l.are_whole
