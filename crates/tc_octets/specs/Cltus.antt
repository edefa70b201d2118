-- CLTUs (CCSDS 231.0-B), as they are sent and as they are found.
use Rattle.std.specs.Prelude.{◌≡◌, ℕ, zero, suc, ◌+◌, ◌/◌, ◌%◌, ◌^◌, ◌-◌, ◌≤◌, ◌==◌, nat_lt, if◌then◌else◌, ◌&&◌, Bool, false, List, []}
use Rattle.std.specs.Prelude.{◌∷◌, ◌++◌, length, take, drop, replicate, Option, Some, None, ⊤}
use Rattle.std.specs.List.{fold}
use Rattle.tc_octets.specs.Bits.{pair_at}
use Rattle.tc_octets.specs.Codeblocks.{codeblock_of, sent_of}
use Rattle.tc_octets.specs.Randomizer.{randomized}
use Rattle.tc_octets.specs.declared.codeblocks.Mode.{Mode}

-- octets with as many octets of fill after them as make a whole number of sevens
abbrev pub filled_to : List ℕ → List ℕ
filled_to octets = octets ++ replicate ((7 - length octets % 7) % 7) 0x55

-- octets with the randomizer's sequence laid over them, where the link has one; doing it twice undoes it
abbrev pub turned_by : Bool → List ℕ → List ℕ
turned_by randomizer octets = if randomizer then randomized octets else octets

-- The fill is not randomized.
abbrev pub filled_of : Bool → List ℕ → List ℕ
filled_of randomizer frame = filled_to (turned_by randomizer frame)

-- so many codeblocks, each of the next 7 octets
abbrev pub codeblocks_of : ℕ → List ℕ → List ℕ
codeblocks_of zero octets = []
codeblocks_of (suc blocks) octets = codeblock_of (take 7 octets) ++ codeblocks_of blocks (drop 7 octets)

abbrev pub start_sequence : List ℕ
start_sequence = 0xeb ∷ 0x90 ∷ []

abbrev pub tail_sequence : List ℕ
tail_sequence = 0xc5 ∷ 0xc5 ∷ 0xc5 ∷ 0xc5 ∷ 0xc5 ∷ 0xc5 ∷ 0xc5 ∷ 0x79 ∷ []

-- the codeblocks of octets that are a whole number of sevens
abbrev pub all_codeblocks_of : List ℕ → List ℕ
all_codeblocks_of octets = codeblocks_of (length octets / 7) octets

-- the CLTU of a frame
abbrev pub cltu_of : Bool → List ℕ → List ℕ
cltu_of randomizer frame = start_sequence ++ all_codeblocks_of (filled_of randomizer frame) ++ tail_sequence

-- ---- the receiver, octet by octet

-- Where a receiver is: looking for a start sequence, of which the first octet may just have come; or within a CLTU, with the information of its
-- codeblocks so far and the octets of the next block.
pub data Place : Type 0 where
  searching : (begun : Bool) → Place
  within : (information waiting : List ℕ) → Place

-- the most octets of information of a CLTU: 147 codeblocks of 7
abbrev pub most_information : ℕ
most_information = 1029

-- An octet comes: it belongs to the next block, or a start sequence is looked for.
abbrev pub come : Place → ℕ → Place
come (searching begun) octet = if begun && (octet == 0x90) then within [] [] else searching (octet == 0xeb)
come (within information waiting) octet = within information (waiting ++ octet ∷ [])

-- where the receiver is after an octet, and the information of a CLTU that ended with it
pub record Found : Type 0 where
  pub place : Place
  pub ended : Option (List ℕ)

-- A block that reads as a codeblock goes on, unless there were 147. Any other ends the CLTU, and the next start sequence is looked for from that
-- block's first octet on.
abbrev pub after_block : List ℕ → List ℕ → Option (List ℕ) → Found
after_block information block (Some codeblock) = record { place = within (information ++ take 7 codeblock) []; ended = None }
after_block information block None = record { place = fold come (searching false) block; ended = Some information }

abbrev pub codeblock_in : Mode → List ℕ → List ℕ → Option (List ℕ)
codeblock_in mode information block = if nat_lt (length information) most_information then sent_of mode block else None

-- once eight octets wait, they are a block
abbrev pub whole_block : Mode → Place → Found
whole_block mode (searching begun) = record { place = searching begun; ended = None }
whole_block mode (within information waiting) =
    if nat_lt (length waiting) 8
    then record { place = within information waiting; ended = None }
    else after_block information waiting (codeblock_in mode information waiting)

-- the next octet
unfoldable pub received : Mode → Place → ℕ → Found
received mode place octet = whole_block mode (come place octet)

-- a receiver, and what its last octet brought
pub record Receiver : Type 0 where
  pub mode : Mode
  pub last : Found

-- a receiver that has seen nothing
abbrev pub fresh : Mode → Receiver
fresh mode = record { mode = mode; last = record { place = searching false; ended = None } }

-- the next octet comes
abbrev pub after : Receiver → ℕ → Receiver
after receiver octet = record { mode = receiver.mode; last = received receiver.mode receiver.last.place octet }

-- a place by its parts, with no information
abbrev pub place_of : Bool → Bool → List ℕ → Place
place_of inside begun waiting = if inside then within [] waiting else searching begun

-- how many octets of the next block have come
abbrev pub waits : Place → ℕ
waits (searching begun) = 0
waits (within information waiting) = length waiting

-- how many octets of information are kept
abbrev pub kept : Place → ℕ
kept (searching begun) = 0
kept (within information waiting) = length information

-- a place with this information of the codeblocks so far
abbrev pub keeping : List ℕ → Place → Place
keeping information (searching begun) = searching begun
keeping information (within none waiting) = within information waiting

-- information that is still kept once a CLTU may have ended
abbrev pub still : Bool → List ℕ → List ℕ
still ended information = if ended then [] else information

-- where a receiver is, and what the last octet brought: the information is that of the CLTU that ended with it, or that of the CLTU so far
abbrev pub found_of : Bool → List ℕ → Place → Found
found_of ended information place = record { place = keeping (still ended information) place; ended = if ended then Some information else None }

-- no information is kept if a start sequence is looked for
abbrev pub HasNone : Place → List ℕ → Type 0
HasNone (searching begun) information = information ≡ []
HasNone (within none waiting) information = ⊤

-- ---- the frame in what a CLTU had

-- how many octets the frame at the front has, as it says itself
abbrev pub told_length : List ℕ → ℕ
told_length octets = pair_at octets 2 % 2 ^ 10 + 1

-- a frame stands at the front, and at most 6 octets of fill after it
pub record HasFrame (octets : List ℕ) : Type 0 where
  pub header : 5 ≤ length octets
  pub whole : told_length octets ≤ length octets
  pub fill : length octets ≤ told_length octets + 6

-- this is the frame at the front of the octets
pub record IsFrameIn (octets frame : List ℕ) : Type 0 where
  pub has : HasFrame octets
  pub is : frame ≡ take (told_length octets) octets
