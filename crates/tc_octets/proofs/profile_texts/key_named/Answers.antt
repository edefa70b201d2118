use Rattle.std.proofs.Common.{nat_eq, ◌∙◌, sym, rules}
use Rattle.std.specs.Cmp.Lexicographic.{pointwise}
use Rattle.std.proofs.lemmas.Iterator.{YieldsList-from_slice}
use Rattle.std.proofs.lemmas.Iterator.Adapters.{option_map_id}
use Rattle.std.proofs.lemmas.Iterator.Consumers.{YieldsList-from_copied}
use Rattle.std.proofs.lemmas.Iterator.Search.{find_from_yields_List}
use Rattle.tc_octets.specs.declared.keys.TheConstants.{KEYS}
use Rattle.tc_octets.specs.ProfileKeys.{name_of}
use Rattle.tc_octets.proofs.ProfileTextLemmas.{key_read}
use Rattle.tc_octets.proofs.profile_texts.key_named.Goals as goal

pub returns : goal.returns
returns c =
    key_read c.args.name.now c.find.result
    (sym (option_map_id c.find.result) ∙ find_from_yields_List (λ at. pointwise nat_eq c.args.name.now (name_of at)) _ _ _ c.find.ensures.ran
    (YieldsList-from_copied (YieldsList-from_slice KEYS cc)) (λ x b q k. search rules))
