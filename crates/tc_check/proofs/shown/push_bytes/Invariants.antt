use Rattle.std.proofs.Common.{◌≡◌, ◌++◌, drop}
use Rattle.std.specs.List.{flat_map}
use Rattle.std.specs.String.{string_bytes}
use Rattle.tc_check.specs.Shown.{shown_byte}
use Rattle.tc_check.proofs.shown.push_bytes.Given as goal

-- what was added so far, and what the bytes left will add
abbrev pub invariant-loop-byte : goal.invariant-loop-byte
invariant-loop-byte l = string_bytes l.text ++ flat_map shown_byte (drop l.byte-index l.bytes) ≡ string_bytes l.fn.text ++ flat_map shown_byte l.bytes
