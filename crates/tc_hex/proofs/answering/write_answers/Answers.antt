use Rattle.std.proofs.Common.{rules, ◌≡◌, true}
use Rattle.tc_hex.proofs.AnswerLemmas.{more_answered}
use Rattle.tc_hex.proofs.answering.write_answers.Goals as goal

pub loop-place-preserved : goal.loop-place-preserved
loop-place-preserved g c =
    let there : c.in_ok-read_line.field-0 ≡ true = search rules in
    let given = rw c.deref.ensures.value at c.in_ok-is_whole.ensures.answer in
    rw c.both-are_whole.ensures (more_answered c.args.profile.now c.args.layer (g.R.Read.remaining c.args.reader.now) (g.R.Read.remaining c.loop-place.reader) _ _ _ _ c.read_line.new.line.items given.0 _ _ _ c.loop-place.invariant
    (c.in_ok-read_line.ensures.line there) given.1 given.2)
