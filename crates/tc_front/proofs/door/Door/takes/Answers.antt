use Rattle.std.proofs.Common.{◌∙◌, Bool, Global, String, ap, refl, rules}
use Rattle.std.specs.List.{list_any}
use Rattle.std.specs.String.{string_bytes}
use Rattle.std.proofs.lemmas.Iterator.{YieldsList-from_slice}
use Rattle.std.proofs.lemmas.Iterator.Search.{any_from_yields_List}
use Rattle.tc_front.specs.Fields.{same_name}
use Rattle.tc_front.proofs.DoorLemmas.{any_mapped}
use Rattle.tc_front.proofs.door.Door.takes.Goals as goal

pub returns : goal.returns
returns c =
    let is_own : String Global → Bool = λ own. same_name c.args.host.now (string_bytes own) in
    any_from_yields_List is_own _ _ _ c.any.ensures.ran (YieldsList-from_slice c.iter.result.rest.now refl) (λ x b q k. search rules) ∙ ap (list_any is_own) c.iter.ensures.rest ∙ any_mapped string_bytes (λ own. same_name c.args.host.now own) _ ∙ search rules
