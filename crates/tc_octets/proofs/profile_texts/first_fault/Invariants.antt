use Rattle.std.proofs.Common.{◌≡◌, drop, length, map}
use Rattle.tc_octets.specs.ProfileTexts.{AreSound, statement_of, statements}
use Rattle.tc_octets.proofs.profile_texts.first_fault.Given as goal

-- the lines that were read have no fault
abbrev pub invariant-loop-line : goal.invariant-loop-line
invariant-loop-line l = record { left : drop l.count (statements l.text) ≡ map statement_of l.lines; sound : AreSound l.count (statements l.text) }

abbrev pub decreases-loop-line : goal.decreases-loop-line
decreases-loop-line l = length l.lines
