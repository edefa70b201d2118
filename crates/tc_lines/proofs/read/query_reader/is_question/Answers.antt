use Rattle.std.proofs.Common.{Bool, nat_eq, refl, ap, ◌∙◌, rules}
use Rattle.std.specs.List.{list_any}
use Rattle.std.specs.Cmp.Lexicographic.{pointwise}
use Rattle.std.proofs.lemmas.Iterator.{YieldsList-from_slice}
use Rattle.std.proofs.lemmas.Iterator.Search.{any_from_yields_List}
use Rattle.tc_types.specs.declared.verbs.Verb.{Verb}
use Rattle.tc_types.specs.Verbs.{verb_word}
use Rattle.tc_types.specs.ActGrammar.{asks}
use Rattle.tc_lines.proofs.read.query_reader.is_question.Goals as goal

pub returns : goal.returns
unfolding asks
returns c =
    let spells : Verb → Bool = λ verb. pointwise nat_eq c.args.word.now (verb_word verb) in
    any_from_yields_List spells _ _ _ c.any.ensures.ran (YieldsList-from_slice c.iter.result.rest.now refl) (λ x b q k. search rules) ∙ ap (list_any spells) c.iter.ensures.rest
