use Rattle.std.proofs.Common.{◌≡◌, ◌≤◌, length, min}
use Rattle.std.specs.Str.Parse.{AllDigits, digits_value, digits_value_after}
use Rattle.tc_front.proofs.fields.body_length.Given as goal

-- The digits left, behind the size so far, write what all write, up to 65,537.
abbrev pub invariant-loop-byte : goal.invariant-loop-byte
invariant-loop-byte l = record {
  value : min (digits_value 10 l.value) 65537 ≡ min (digits_value_after 10 l.size l.left) 65537;
  small : l.size ≤ 65537;
  all : AllDigits 10 l.left → AllDigits 10 l.value;
  each : AllDigits 10 l.value → AllDigits 10 l.left;
}

abbrev pub decreases-loop-byte : goal.decreases-loop-byte
decreases-loop-byte l = length l.left
