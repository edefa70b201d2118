-- The activities so far were added.
use Rattle.std.proofs.Common.{◌≡◌, ◌++◌}
use Rattle.tc_decoded.specs.ReportLines.{entries_rows}
use Rattle.tc_decoded.proofs.summaries.put_entries.Given as goal

abbrev pub invariant-loop-entry : goal.invariant-loop-entry
invariant-loop-entry g l = l.rows.items ≡ l.fn.rows.items ++ entries_rows l.profile l.at l.entry
