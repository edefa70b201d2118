-- What a decoder of codeblocks finds and mends.
use Rattle.std.specs.Prelude.{◌≡◌, ◌≢◌, ℕ, ◌<◌, ◌≤◌, List, [], ◌∷◌, length, Option, Some, None}
use Rattle.std.specs.List.{AllPairs}
use Rattle.tc_octets.specs.Codeblocks.{codeblock_of, turned}
use Rattle.tc_octets.specs.CrcLaws.{AllBelow}
use Rattle.tc_octets.specs.declared.codeblocks.Mode.{Mode}
use Rattle.tc_octets.specs.declared.codeblocks.Mode.TheVariants.{Detecting, Correcting}

-- octets with the bits at these places turned
abbrev pub turned_at : List ℕ → List ℕ → List ℕ
turned_at [] block = block
turned_at (place ∷ places) block = turned place (turned_at places block)

-- what stands after the codeblocks of a CLTU, and is none
abbrev pub tail : List ℕ
tail = 0xc5 ∷ 0xc5 ∷ 0xc5 ∷ 0xc5 ∷ 0xc5 ∷ 0xc5 ∷ 0xc5 ∷ 0x79 ∷ []

-- What a decoder makes of the codeblock of 7 octets of information, with wrong bits among the 64, and of the tail.
pub record Tells (mode : Mode) (block : List ℕ) (answer : Option (List ℕ)) : Type 0 where
  -- a codeblock reads as itself
  pub whole : (information : List ℕ) → length information ≡ 7 → block ≡ codeblock_of information → answer ≡ Some (codeblock_of information)
  -- detecting, one, two or three wrong bits are found
  pub found : mode ≡ Detecting → (information places : List ℕ) → length information ≡ 7 → AllBelow 64 places → AllPairs (λ p q. p ≢ q) places
      → 1 ≤ length places → length places ≤ 3 → block ≡ turned_at places (codeblock_of information) → answer ≡ None
  -- correcting, one wrong bit is mended
  pub mended : mode ≡ Correcting → (information : List ℕ) (place : ℕ) → length information ≡ 7 → place < 64
      → block ≡ turned place (codeblock_of information) → answer ≡ Some (codeblock_of information)
  -- correcting, two wrong bits are refused
  pub refused : mode ≡ Correcting → (information : List ℕ) (place other : ℕ) → length information ≡ 7 → place < 64 → other < 64 → place ≢ other
      → block ≡ turned place (turned other (codeblock_of information)) → answer ≡ None
  -- the tail is refused, with up to two wrong bits
  pub ended : (places : List ℕ) → AllBelow 64 places → length places ≤ 2 → block ≡ turned_at places tail → answer ≡ None
