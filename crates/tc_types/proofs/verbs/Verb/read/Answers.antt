use Rattle.std.proofs.Common.{nat_eq, ◌∙◌, sym, rules}
use Rattle.std.specs.Cmp.Lexicographic.{pointwise}
use Rattle.std.proofs.lemmas.Iterator.{YieldsList-from_slice}
use Rattle.std.proofs.lemmas.Iterator.Adapters.{option_map_id}
use Rattle.std.proofs.lemmas.Iterator.Consumers.{YieldsList-from_copied}
use Rattle.std.proofs.lemmas.Iterator.Search.{find_from_yields_List}
use Rattle.tc_types.specs.declared.verbs.TheConstants.{VERBS}
use Rattle.tc_types.specs.Verbs.{verb_word}
use Rattle.tc_types.proofs.verbs.Verb.read.Goals as goal

pub returns : goal.returns
returns c =
    sym (option_map_id c.find.result) ∙ find_from_yields_List (λ it. pointwise nat_eq (verb_word it) c.args.word.now) _ _ _ c.find.ensures.ran (YieldsList-from_copied (YieldsList-from_slice VERBS cc)) (λ x b q k. search rules)
