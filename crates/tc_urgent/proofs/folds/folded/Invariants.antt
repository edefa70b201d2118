use Rattle.std.proofs.Common.{◌≡◌, take}
use Rattle.tc_urgent.specs.Folds.{folded}
use Rattle.tc_urgent.proofs.folds.folded.Given as goal

abbrev pub invariant-loop-line : goal.invariant-loop-line
invariant-loop-line g l = l.shown.items ≡ folded (take l.line-index l.lines)
