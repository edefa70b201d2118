use Rattle.tc_types.specs.Loads.{load_words, IsLoad}
use Rattle.tc_types.proofs.WordLaws.{reads_joined}
use Rattle.tc_types.proofs.Spellings.{load_parted}
use Rattle.tc_lines.proofs.read.load_reader.load.Goals as goal

pub returns : goal.returns
returns c = reads_joined 32 load_words IsLoad _ _ load_parted (rw c.new.ensures at c.load_of.ensures)
