use Rattle.std.proofs.Common.{◌≡◌, ◌-◌, take, map}
use Rattle.tc_octets.specs.ProfileTexts.{statement_of, statements, value_in}
use Rattle.tc_octets.proofs.profile_texts.value_in.Given as goal

-- the lines that are left give what is asked
abbrev pub invariant-loop-place : goal.invariant-loop-place
invariant-loop-place l = value_in l.key (take l.count (statements l.text)) ≡ value_in l.key (take (l.count - l._place) (map statement_of l.lines))
