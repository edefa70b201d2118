use Rattle.std.proofs.Common.{subst, sym}
use Rattle.std.specs.Prelude.{⊤, Bool, ◌↔◌, IsTrue}
use Rattle.tc_types.specs.Lines.{place_name}
use Rattle.tc_script.specs.Fits.{Spells}
use Rattle.tc_script.proofs.FormLemmas.{place_spelled}
use Rattle.tc_script.proofs.forms.is_place.Goals as goal

-- by the names of all places
pub returns : goal.returns
returns c = subst (λ (is : Bool). IsTrue is ↔ Spells place_name (λ place. ⊤) c.args.word.now) (sym c.is_named.ensures) (place_spelled c.args.word.now)
