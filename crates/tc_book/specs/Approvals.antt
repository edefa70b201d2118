-- What is kept of the approval of each request, in order of number.
use Rattle.std.specs.Prelude.{ℕ, ◌-◌, ◌==◌, if◌then◌else◌, Option, None, List, slice_get}
use Rattle.tc_stack.specs.Approvals.{ApprovalState}

abbrev pub kept_approval : List ApprovalState → ℕ → Option ApprovalState
kept_approval kept n = if n == 0 then None else slice_get kept (n - 1)
