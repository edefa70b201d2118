use Rattle.std.proofs.Common.{◌≡◌, map, take, length}
use Rattle.csv.specs.Records.{fields_of}
use Rattle.tc_csv.specs.Rows.{SpellRows}
use Rattle.tc_csv.specs.RowTexts.{SpellsOnlyRow}
use Rattle.tc_csv.proofs.stack_texts.readers.rows_of.Given as goal

-- the records so far spell the rows
abbrev pub invariant-loop-index : goal.invariant-loop-index
invariant-loop-index l = SpellRows SpellsOnlyRow 1 (take l.index (map fields_of l.fn.records)) l.rows.items × (length l.rows.items ≡ l.index)
