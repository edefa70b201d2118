use Rattle.tc_types.specs.ActGrammar.{act_words, IsAct}
use Rattle.tc_types.proofs.WordLaws.{reads_joined}
use Rattle.tc_lines.proofs.ActSpellings.{act_parted}
use Rattle.tc_lines.proofs.read.act_reader.act.Goals as goal

pub returns : goal.returns
returns c = reads_joined 32 act_words IsAct _ _ act_parted (rw c.new.ensures at c.act_of.ensures)
