use Rattle.std.proofs.Common.{nat_eq, ◌∙◌, sym, rules}
use Rattle.std.specs.Cmp.Lexicographic.{pointwise}
use Rattle.std.proofs.lemmas.Iterator.{YieldsList-from_slice}
use Rattle.std.proofs.lemmas.Iterator.Adapters.{option_map_id}
use Rattle.std.proofs.lemmas.Iterator.Consumers.{YieldsList-from_copied}
use Rattle.std.proofs.lemmas.Iterator.Search.{find_from_yields_List}
use Rattle.tc_types.specs.declared.history.places.TheConstants.{ALL_PLACES}
use Rattle.tc_types.specs.Lines.{place_name}
use Rattle.tc_lines.proofs.QueryLaws.{place_read}
use Rattle.tc_lines.proofs.read.query_reader.place.Goals as goal

pub returns : goal.returns
returns c =
    place_read c.args.word.now c.find.result
    (sym (option_map_id c.find.result) ∙ find_from_yields_List (λ at. pointwise nat_eq c.args.word.now (place_name at)) _ _ _ c.find.ensures.ran (YieldsList-from_copied (YieldsList-from_slice ALL_PLACES cc)) (λ x b q k. search rules))
