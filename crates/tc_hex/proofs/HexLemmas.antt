-- What a text of digits spells, pair by pair.
use Rattle.std.proofs.Common.{arith, ◌≡◌, ◌∙◌, ℕ, ◌+◌, ◌==◌, false, List, [], ◌∷◌, ◌++◌, Result, Ok, Err, refl, sym, ap, length, append_assoc, append-nil}
use Rattle.hex.specs.Hex.{decode_sized}
use Rattle.hex.specs.declared.error.FromHexError.{FromHexError}
use Rattle.tc_hex.specs.HexTexts.{after_pair, spelled_from}
use Rattle.tc_hex.specs.declared.hex_texts.HexFault.{HexFault}
use Rattle.tc_hex.specs.declared.hex_texts.HexFault.TheVariants.{NoPair}

-- octets, and what the rest of a text spells after them
abbrev pub after_octets : List ℕ → Result (List ℕ) HexFault → Result (List ℕ) HexFault
after_octets octets (Ok more) = Ok (octets ++ more)
after_octets octets (Err fault) = Err fault

-- ---- one step

space_step : (at : ℕ) (rest : List ℕ) → spelled_from at (32 ∷ rest) ≡ spelled_from (at + 1) rest
unfolding spelled_from
space_step at [] = refl
space_step at (two ∷ rest) = refl

last_step : (at last : ℕ) → (last == 32) ≡ false → spelled_from at (last ∷ []) ≡ Err (NoPair at)
unfolding spelled_from
last_step at last other = rw other refl

pair_step : (at one two : ℕ) (rest : List ℕ) → (one == 32) ≡ false
    → spelled_from at (one ∷ two ∷ rest) ≡ after_pair at (decode_sized (one ∷ two ∷ []) 1) (spelled_from (at + 2) rest)
unfolding spelled_from
pair_step at one two rest other = rw other refl

joined : (octets octet : List ℕ) (at : ℕ) (rest : Result (List ℕ) HexFault)
    → after_octets octets (after_pair at (Ok octet) rest) ≡ after_octets (octets ++ octet) rest
joined octets octet at (Err fault) = refl
joined octets octet at (Ok more) = ap Ok (sym (append_assoc octets octet more))

-- ---- the same for a text of which octets were read

pub after_space : (whole : Result (List ℕ) HexFault) (octets left rest : List ℕ) (at : ℕ) → whole ≡ after_octets octets (spelled_from at left) → left ≡ 32 ∷ rest
    → whole ≡ after_octets octets (spelled_from (at + 1) rest)
after_space whole octets left rest at before is = before ∙ ap (λ text. after_octets octets (spelled_from at text)) is ∙ ap (after_octets octets) (space_step at rest)

pub after_last : (whole : Result (List ℕ) HexFault) (octets left : List ℕ) (at last : ℕ) → whole ≡ after_octets octets (spelled_from at left) → left ≡ last ∷ []
    → (last == 32) ≡ false → whole ≡ Err (NoPair at)
after_last whole octets left at last before is other =
    before ∙ ap (λ text. after_octets octets (spelled_from at text)) is ∙ ap (after_octets octets) (last_step at last other)

pub after_good : (whole : Result (List ℕ) HexFault) (octets left rest octet : List ℕ) (at one two : ℕ) → whole ≡ after_octets octets (spelled_from at left)
    → left ≡ one ∷ two ∷ rest → (one == 32) ≡ false → decode_sized (one ∷ two ∷ []) 1 ≡ Ok octet
    → whole ≡ after_octets (octets ++ octet) (spelled_from (at + 2) rest)
after_good whole octets left rest octet at one two before is other good =
    before ∙ ap (λ text. after_octets octets (spelled_from at text)) is ∙ ap (after_octets octets) (pair_step at one two rest other)
    ∙ ap (λ read. after_octets octets (after_pair at read (spelled_from (at + 2) rest))) good ∙ joined octets octet at (spelled_from (at + 2) rest)

pub after_bad : (whole : Result (List ℕ) HexFault) (octets left rest : List ℕ) (at one two : ℕ) (error : FromHexError) → whole ≡ after_octets octets (spelled_from at left)
    → left ≡ one ∷ two ∷ rest → (one == 32) ≡ false → decode_sized (one ∷ two ∷ []) 1 ≡ Err error → whole ≡ Err (NoPair at)
after_bad whole octets left rest at one two error before is other bad =
    before ∙ ap (λ text. after_octets octets (spelled_from at text)) is ∙ ap (after_octets octets) (pair_step at one two rest other)
    ∙ ap (λ read. after_octets octets (after_pair at read (spelled_from (at + 2) rest))) bad

pub after_end : (whole : Result (List ℕ) HexFault) (octets left : List ℕ) (at : ℕ) → whole ≡ after_octets octets (spelled_from at left) → left ≡ [] → whole ≡ Ok octets
unfolding spelled_from
after_end whole octets left at before is = before ∙ ap (λ text. after_octets octets (spelled_from at text)) is ∙ ap Ok (append-nil octets)

pub none_left : (xs : List ℕ) → length xs ≡ 0 → xs ≡ []
none_left [] is = refl
none_left (x ∷ xs) is = grind arith
