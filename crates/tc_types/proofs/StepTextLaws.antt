-- The text of a step in its 80 bytes, and as text.
use Rattle.std.proofs.Common.{◌≡◌, ℕ, ◌-◌, ◌<◌, ◌≤◌, true, List, [], ◌∷◌, ◌++◌, length, take, drop, replicate, refl, arith}
use Rattle.std.specs.List.{list_all}
use Rattle.std.specs.Str.{IsAscii, IsUtf8}
use Rattle.std.proofs.Math.Seq.{take-append_seam}
use Rattle.std.proofs.lemmas.List.{drop-replicate, length-append, length-replicate}
use Rattle.std.proofs.lemmas.Str.{IsUtf8-from_ascii}
use Rattle.std.proofs.lemmas.Str.Ascii.{IsAscii-nil, IsAscii-cons}
use Rattle.std.proofs.lemmas.Grind.{common_steps}
use Rattle.tc_types.specs.StepTexts.{is_printable, is_step_text, padded_step_text}

step_text_short : (text : List ℕ) → is_step_text text ≡ true → length text ≤ 80
step_text_short text h = grind (arith, common_steps)

step_text_printable : (text : List ℕ) → is_step_text text ≡ true → list_all is_printable text ≡ true
step_text_printable text h = grind (arith, common_steps)

-- what `StepText::read` lays into 80 zeros keeps the invariant of such a text
pub step_text_laid_out : (text : List ℕ) → is_step_text text ≡ true → (length text ≤ 80) × (text ++ drop (length text) (replicate 80 0) ≡ padded_step_text (take (length text) (text ++ drop (length text) (replicate 80 0)))) × (length (text ++ drop (length text) (replicate 80 0)) ≡ 80) × (is_step_text (take (length text) (text ++ drop (length text) (replicate 80 0))) ≡ true)
step_text_laid_out text h =
    let front : take (length text) (text ++ drop (length text) (replicate 80 0)) ≡ text = take-append_seam text (drop (length text) (replicate 80 0)) in
    let zeros : drop {A = ℕ} (length text) (replicate 80 0) ≡ replicate (80 - length text) 0 = drop-replicate (length text) 80 0 in
    let short : length text ≤ 80 = step_text_short text h in
    let all : length (text ++ drop (length text) (replicate 80 0)) ≡ 80 =
    rw (zeros, length-append text (replicate (80 - length text) 0), length-replicate {A = ℕ} (80 - length text) 0) (omega arith) in
    (short, rw front (rw zeros refl), all, rw front h)

printable_ascii : (byte : ℕ) → is_printable byte ≡ true → byte < 128
printable_ascii byte h = grind (arith, common_steps)

all_printable_ascii : (text : List ℕ) → list_all is_printable text ≡ true → IsAscii text
all_printable_ascii [] h = IsAscii-nil
all_printable_ascii (byte ∷ others) h = grind (arith, common_steps, printable_ascii, all_printable_ascii others, IsAscii-cons)

-- such a text is text
pub IsUtf8-step_text : (text : List ℕ) → is_step_text text ≡ true → IsUtf8 text
IsUtf8-step_text text h = IsUtf8-from_ascii text (all_printable_ascii text (step_text_printable text h))
