use Rattle.tc_types.specs.ActGrammar.{line_words, IsLine}
use Rattle.tc_types.proofs.WordLaws.{reads_joined}
use Rattle.tc_lines.proofs.ActSpellings.{line_parted}
use Rattle.tc_lines.proofs.read.line_reader.line.Goals as goal

pub returns : goal.returns
returns c = reads_joined 32 line_words IsLine _ _ line_parted (rw c.new.ensures at c.line_of.ensures)
