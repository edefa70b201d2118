-- The lines of the keys so far were written.
use Rattle.std.proofs.Common.{◌∷◌, ◌++◌, [], take}
use Rattle.std.specs.List.{flat_map}
use Rattle.std.specs.Fmt.{HasWritten, IsPlainFormatter}
use Rattle.tc_octets.specs.declared.keys.TheConstants.{KEYS}
use Rattle.tc_octets.specs.ProfileTexts.{line_of}
use Rattle.tc_octets.proofs.profile_lines.ProfileDisplay.fmt.Given as goal

abbrev pub invariant-loop-key : goal.invariant-loop-key
invariant-loop-key g l =
    IsPlainFormatter l.initial.f → HasWritten g.W.Write.write_str_gives l.initial.f
    (flat_map (λ key. line_of l.fn.self key ++ 10 ∷ []) (take l.key-index KEYS)) l.f
