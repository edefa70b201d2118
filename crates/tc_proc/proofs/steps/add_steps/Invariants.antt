use Rattle.std.proofs.Common.{◌≡◌, ◌+◌, ◌-◌, ◌≤◌, ◌++◌, length, take, vec_len, vec_capacity}
use Rattle.tc_proc.specs.Logs.{kept_steps}
use Rattle.tc_proc.proofs.steps.add_steps.Given as goal

-- the steps so far, and room for the others
abbrev pub invariant-loop-index : goal.invariant-loop-index
invariant-loop-index g l =
    (l.kept.items ≡ l.initial.kept.items ++ kept_steps l.name 1 (take l.index l.steps))
    × (vec_len l.kept + (length l.steps - l.index) ≤ vec_capacity l.kept)
