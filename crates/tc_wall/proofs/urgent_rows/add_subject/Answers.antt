-- Its words.
use Rattle.tc_wall.proofs.LineLemmas.{added_as, subject_shown}
use Rattle.tc_wall.proofs.urgent_rows.add_subject.Goals as goal

pub returns : goal.returns
returns g c = added_as _ _ _ _ _ (subject_shown c.args.kind.now c.args.number) (rw (c.kind_letter-letter.ensures, c.kind_class-class.ensures, c.kind_begins-begins.ensures) at c.write.ensures.bytes)
