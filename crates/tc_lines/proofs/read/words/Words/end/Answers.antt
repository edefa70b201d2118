use Rattle.std.proofs.Common.{rules}
use Rattle.tc_types.proofs.WordLaws.{words_nonempty}
use Rattle.tc_lines.proofs.read.words.Words.end.Goals as goal

pub returns-in-Some : goal.returns-in-Some
returns-in-Some c = search (rules, words_nonempty)
