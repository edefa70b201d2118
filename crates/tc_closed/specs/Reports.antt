-- What is printed of the tables of a file that nobody has open: what it leaves of them, and what a shift report that fails has written.
use Rattle.std.specs.Prelude.{◌≡◌, ◌⊎◌, ◌++◌, ℕ, List, [], IfErr, OnOk, Result, codes}
use Rattle.sqlite_trees.specs.declared.store.Store.{Ghosts}
use Rattle.sqlite.specs.Held.{Held}
use Rattle.tc_types.specs.declared.counted.Counts.{Counts}
use Rattle.tc_types.specs.Counts.{no_counts}
use Rattle.tc_types.specs.declared.history.moves.Move.{Move}
use Rattle.tc_types.specs.History.{shift_rows}
use Rattle.tc_types.specs.Tables.{Image}
use Rattle.tc_report.specs.ShiftReport.{AreAdded}
use Rattle.tc_front.specs.Write.{IsCutShort}
use Rattle.tc_closed.specs.Closed.{IsClosedHead, LeavesTables, OnlyReads}
use Rattle.tc_closed.specs.declared.scripts.ScriptFault.{ScriptFault}
use Rattle.tc_closed.specs.declared.scripts.ScriptFault.TheVariants.{Output, Memory, Tables}
use Rattle.tc_closed.specs.Scripts.{written_counts}

-- What printing of tables leaves of them, and why it fails: they are only read, and stand where it fails, too. It fails because its output did, for want of memory, or because the
-- tables cannot be read; and by the counts of a writer that counted nothing before, one write failed where the fault is Output, and else none.
pub record PrintsTables {X S : Type 0} (g : Ghosts S) (old new : Held S) (before after : Counts) (result : Result X ScriptFault) : Type 0 where
  pub reads : OnOk result (OnlyReads g old new)
  pub left : LeavesTables g old new
  pub fault : IfErr result (λ fault. (fault ≡ Output) ⊎ (fault ≡ Memory) ⊎ (fault ≡ Tables))
  pub counted : before ≡ no_counts → after ≡ written_counts result

-- a front of the lines of some first moves of the shift
abbrev pub CutsRows : Image → ℕ → ℕ → List ℕ → Type 0
CutsRows image from to part = (first : List Move) × (others : List Move) × (rows : List ℕ) × (rest : List ℕ)
    × (first ++ others ≡ shift_rows from to image.moves) × AreAdded first [] rows × (rows ≡ part ++ rest)

-- Nothing; or a front, and never all, of the head, the lines of some first moves of the shift, and END: so that it cannot be taken for a report.
abbrev pub CutsReport : Image → ℕ → ℕ → List ℕ → Type 0
CutsReport image from to part = (part ≡ []) ⊎ ((head : List ℕ) × (first : List Move) × (others : List Move) × (rows : List ℕ)
    × IsClosedHead image from to head × (first ++ others ≡ shift_rows from to image.moves) × AreAdded first [] rows
    × IsCutShort ((head ++ rows) ++ codes "END\n") part)
