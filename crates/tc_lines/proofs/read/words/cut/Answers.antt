use Rattle.tc_types.proofs.WordLaws.{first_word, only_word}
use Rattle.std.proofs.Common.{sym}
use Rattle.tc_lines.proofs.read.words.cut.Goals as goal

pub returns-in-Some : goal.returns-in-Some
returns-in-Some c = first_word _ _ _ (sym c.in-Some.ensures)

pub returns-in-None : goal.returns-in-None
returns-in-None c = only_word _ _ (sym c.in-None.ensures)
