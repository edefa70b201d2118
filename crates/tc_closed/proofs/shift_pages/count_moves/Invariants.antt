-- The moves before a page were counted, and those behind the number are left; the tables were only read.
use Rattle.std.proofs.Common.{◌≡◌, ◌++◌, List, length}
use Rattle.sqlite.specs.Held.{state}
use Rattle.sqlite.specs.State.{HasCleanDisk}
use Rattle.tc_types.specs.declared.history.moves.Move.{Move}
use Rattle.tc_types.specs.History.{shift_rows}
use Rattle.tc_store.specs.declared.versions.Version.{Version}
use Rattle.tc_store.specs.Ledgers.{Ledger}
use Rattle.tc_store.specs.Loads.{moves_behind}
use Rattle.tc_store.specs.Schema.{HoldsAs}
use Rattle.tc_closed.specs.Closed.{OnlyReads, LeavesTables}
use Rattle.tc_closed.proofs.shift_pages.count_moves.Given as goal

abbrev pub invariant-pages : goal.invariant-pages
invariant-pages g l =
    OnlyReads g.S.Store l.fn.tables l.tables
    × LeavesTables g.S.Store l.fn.tables l.tables
    × (HasCleanDisk (state g.S.Store l.tables) → (version : Version) (ledger : Ledger) → HoldsAs version (state g.S.Store l.fn.tables).now ledger → (before : List Move) × (length before ≡ l.many)
    × (before ++ moves_behind l.after (shift_rows l.from l.to ledger.image.moves) ≡ shift_rows l.from l.to ledger.image.moves))
