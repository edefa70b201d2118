-- The lines of the moves before a page were written, and those behind the number are left; the tables were only read, and no write failed.
use Rattle.std.proofs.Common.{◌≡◌, ◌++◌, ℕ, List, []}
use Rattle.std.specs.Io.KnownBytes.{Appends}
use Rattle.sqlite.specs.Held.{state}
use Rattle.sqlite.specs.State.{HasCleanDisk}
use Rattle.tc_types.specs.Counts.{counts_of, inner_of, no_counts}
use Rattle.tc_types.specs.declared.history.moves.Move.{Move}
use Rattle.tc_types.specs.History.{shift_rows}
use Rattle.tc_report.specs.ShiftReport.{AreAdded}
use Rattle.tc_store.specs.Loads.{moves_behind}
use Rattle.tc_store.specs.declared.versions.Version.{Version}
use Rattle.tc_store.specs.Ledgers.{Ledger}
use Rattle.tc_store.specs.Schema.{HoldsAs}
use Rattle.tc_closed.specs.Closed.{LeavesTables, OnlyReads}
use Rattle.tc_closed.proofs.reports.write_pages.Given as goal

abbrev pub invariant-pages : goal.invariant-pages
invariant-pages g l =
    OnlyReads g.S.Store l.fn.tables l.tables
    × LeavesTables g.S.Store l.fn.tables l.tables
    × (HasCleanDisk (state g.S.Store l.tables) → (version : Version) (ledger : Ledger) → HoldsAs version (state g.S.Store l.fn.tables).now ledger → (before : List Move) × (text : List ℕ)
    × (before ++ moves_behind l.after (shift_rows l.from l.to ledger.image.moves) ≡ shift_rows l.from l.to ledger.image.moves)
    × AreAdded before [] text
    × Appends (g.W.Write.contents (inner_of l.fn.writer)) (g.W.Write.contents (inner_of l.writer)) text)
    × (counts_of l.fn.writer ≡ no_counts → counts_of l.writer ≡ no_counts)
