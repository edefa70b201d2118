use Rattle.tc_types.specs.Grammar.{outcome_words, IsOutcome}
use Rattle.tc_types.proofs.WordLaws.{reads_joined}
use Rattle.tc_types.proofs.Spellings.{outcome_parted}
use Rattle.tc_lines.proofs.read.entry_reader.outcome.Goals as goal

pub returns : goal.returns
returns c = reads_joined 47 outcome_words IsOutcome _ _ outcome_parted (rw c.new.ensures at c.outcome_of.ensures)
