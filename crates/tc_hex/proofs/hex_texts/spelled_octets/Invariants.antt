-- The octets so far, and what the characters left spell, are what the text spells.
use Rattle.std.proofs.Common.{◌≡◌, ◌+◌, length}
use Rattle.tc_hex.specs.HexTexts.{spelled_from}
use Rattle.tc_hex.proofs.HexLemmas.{after_octets}
use Rattle.tc_hex.proofs.hex_texts.spelled_octets.Given as goal

abbrev pub invariant-loop-first : goal.invariant-loop-first
invariant-loop-first g l = record {
  all : spelled_from 1 l.text ≡ after_octets l.octets.items (spelled_from l.at l.left);
  place : l.at + length l.left ≡ 1 + length l.text;
}

abbrev pub decreases-loop-first : goal.decreases-loop-first
decreases-loop-first g l = length l.left
