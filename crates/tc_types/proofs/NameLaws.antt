-- A name in its 16 bytes, and a name as text.
use Rattle.std.proofs.Common.{◌≡◌, ℕ, ◌-◌, ◌<◌, ◌≤◌, true, List, [], ◌∷◌, ◌++◌, length, take, drop, replicate, refl, arith, rules}
use Rattle.std.specs.List.{list_all}
use Rattle.std.specs.Str.{IsAscii, IsUtf8}
use Rattle.std.proofs.Math.Seq.{take-append_seam}
use Rattle.std.proofs.lemmas.List.{drop-replicate, length-append, length-replicate}
use Rattle.std.proofs.lemmas.Str.{IsUtf8-from_ascii}
use Rattle.std.proofs.lemmas.Str.Ascii.{IsAscii-nil, IsAscii-cons}
use Rattle.std.proofs.lemmas.Grind.{common_steps}
use Rattle.tc_types.specs.Names.{is_name_byte, IsName, padded_name}

-- what `Name::read` lays into 16 zeros keeps the invariant of a name
pub laid_out : (name : List ℕ) → IsName name → (length name ≤ 16) × (name ++ drop (length name) (replicate 16 0) ≡ padded_name (take (length name) (name ++ drop (length name) (replicate 16 0)))) × (length (name ++ drop (length name) (replicate 16 0)) ≡ 16) × IsName (take (length name) (name ++ drop (length name) (replicate 16 0)))
laid_out name h =
    let front : take (length name) (name ++ drop (length name) (replicate 16 0)) ≡ name = take-append_seam name (drop (length name) (replicate 16 0)) in
    let zeros : drop {A = ℕ} (length name) (replicate 16 0) ≡ replicate (16 - length name) 0 = drop-replicate (length name) 16 0 in
    let all : length (name ++ drop (length name) (replicate 16 0)) ≡ 16 =
    rw (zeros, length-append name (replicate (16 - length name) 0), length-replicate {A = ℕ} (16 - length name) 0) (let s : length name ≤ 16 = h.short in omega arith) in
    (h.short, rw front (rw zeros refl), all, rw front h)

name_byte_ascii : (byte : ℕ) → is_name_byte byte ≡ true → byte < 128
name_byte_ascii byte h = grind (arith, common_steps)

all_ascii : (name : List ℕ) → list_all is_name_byte name ≡ true → IsAscii name
all_ascii [] h = IsAscii-nil
all_ascii (byte ∷ others) h = grind (arith, common_steps, name_byte_ascii, all_ascii others, IsAscii-cons)

-- a name is text
pub IsUtf8-name : (name : List ℕ) → IsName name → IsUtf8 name
IsUtf8-name name h = IsUtf8-from_ascii name (all_ascii name (search rules))
