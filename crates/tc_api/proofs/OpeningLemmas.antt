-- What is told of an opening is a line.
use Rattle.std.proofs.Common.{◌≡◌, ◌∙◌, ◌<◌, ◌^◌, ℕ, IsTrue, List, [], ◌∷◌, ◌++◌, codes, arith, refl, sym}
use Rattle.std.proofs.lemmas.List.{append-nil}
use Rattle.std.specs.Fmt.{decimal}
use Rattle.tc_types.specs.Numbers.{IsMoment}
use Rattle.tc_types.specs.Words.{is_one_line}
use Rattle.tc_types.proofs.OneLine.{number_one, spaced_one}
use Rattle.tc_report.specs.Texts.{AreLines, ended}
use Rattle.tc_api.specs.Openings.{opening_line}

opening_one : (moves since : ℕ) → moves < 2 ^ 64 → since < 2 ^ 64 → IsTrue (is_one_line (opening_line moves since))
opening_one moves since few small = spaced_one (codes "opening" ∷ decimal moves ∷ codes "at" ∷ decimal since ∷ []) (rw (number_one moves few, number_one since small) refl)

pub opening_lines : (moves since : ℕ) → moves < 2 ^ 64 → IsMoment since → AreLines (opening_line moves since ∷ [])
opening_lines moves since few small = rw (opening_one moves since few (omega (arith, small))) refl

-- a line alone, ended
pub one_ended : (line text : List ℕ) → text ≡ line ++ 10 ∷ [] → text ≡ ended (line ∷ [])
one_ended line text is = is ∙ sym (append-nil (line ++ 10 ∷ []))
