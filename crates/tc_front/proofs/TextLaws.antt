-- The parts of a text between bytes of ASCII are texts.
use Rattle.std.proofs.Common.{◌≡◌, ℕ, zero, suc, ◌+◌, ◌<◌, ltb, true, List, [], ◌∷◌, ◌++◌, length, drop, take, get_or, IsUtf8, refl, ap, sym, subst, arith, length-append}
use Rattle.std.proofs.lemmas.Bool.{and_parts, ltb-true}
use Rattle.std.proofs.lemmas.Str.{IsUtf8-from_ascii, IsUtf8-take, IsUtf8-drop, IsUtf8-past_char, IsCharBoundary-before_ascii, encode_ascii}
use Rattle.std.proofs.Math.Seq.{drop-append_seam, take_at, get_or-append_seam}
use Rattle.matchit.specs.Level.{IsText}
use Rattle.tc_front.proofs.WalkLaws.{is_ascii}

behind_byte : (b : ℕ) (text : List ℕ) → b < 128 → IsUtf8 (b ∷ text) → IsUtf8 text
behind_byte b text small whole = IsUtf8-past_char (b ∷ text) text b whole (ap (λ l. l ++ text) (sym (encode_ascii b small)))

pub behind_text : (text path : List ℕ) → is_ascii text ≡ true → IsUtf8 (text ++ path) → IsUtf8 path
behind_text [] path bytes whole = whole
behind_text (b ∷ text) path bytes whole =
    let parts = and_parts (ltb b 128) (is_ascii text) bytes in
    behind_text text path parts.1 (behind_byte b (text ++ path) (ltb-true b 128 parts.0) whole)

pub text_parts : (part path : List ℕ) → IsUtf8 (part ++ 47 ∷ path) → IsUtf8 part × IsUtf8 path
text_parts part path whole =
    let byte : get_or (part ++ 47 ∷ path) (length part) 0 ≡ 47 = get_or-append_seam part 47 path 0 in
    let long : length (part ++ 47 ∷ path) ≡ length part + suc (length path) = length-append part (47 ∷ path) in
    let cut = IsCharBoundary-before_ascii (part ++ 47 ∷ path) (length part) (omega arith) (omega arith) in
    let front : IsUtf8 (take (length part) (part ++ 47 ∷ path)) = IsUtf8-take (part ++ 47 ∷ path) (length part) whole cut in
    let rest : IsUtf8 (drop (length part) (part ++ 47 ∷ path)) = IsUtf8-drop (part ++ 47 ∷ path) (length part) whole cut in (
      subst IsUtf8 (take_at part (47 ∷ path) (length part) refl) front,
      behind_byte 47 path (omega arith) (subst IsUtf8 (drop-append_seam part (47 ∷ path)) rest),
    )

-- each is a byte
pub bytes_text : (text : List ℕ) → ((i : ℕ) → get_or text i 0 < 256) → IsText text
bytes_text [] small = tt
bytes_text (b ∷ text) small = (small 0, bytes_text text (λ i. small (suc i)))

pub bytes_behind : (text path : List ℕ) → IsText (text ++ path) → IsText path
bytes_behind [] path small = small
bytes_behind (b ∷ text) path small = bytes_behind text path small.1

small_at : (text : List ℕ) (i : ℕ) → is_ascii text ≡ true → get_or text i 0 < 128
small_at [] i bytes = omega arith
small_at (b ∷ text) zero bytes = ltb-true b 128 (and_parts (ltb b 128) (is_ascii text) bytes).0
small_at (b ∷ text) (suc i) bytes = small_at text i (and_parts (ltb b 128) (is_ascii text) bytes).1

pub ascii_text : (text : List ℕ) → is_ascii text ≡ true → IsUtf8 text
ascii_text text bytes = IsUtf8-from_ascii text (λ i. small_at text i bytes)
