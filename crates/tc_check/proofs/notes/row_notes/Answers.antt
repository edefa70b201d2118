use Rattle.std.proofs.Common.{◌+◌, rules, drop, map}
use Rattle.csv.specs.Records.{fields_of}
use Rattle.tc_csv.proofs.FaultListLemmas.{left_at}
use Rattle.tc_check.specs.Notes.{note_lines, note_of, notes_from}
use Rattle.tc_check.specs.Places.{row_place}
use Rattle.tc_check.proofs.FindingLemmas.{front_more}
use Rattle.tc_check.proofs.notes.row_notes.Goals as goal

pub loop-index-preserved : goal.loop-index-preserved
loop-index-preserved c =
    let rows = c.args.rows.now in
    let index = c.loop-index.index in
    front_more _ (note_lines (row_place c.args.kind c.args.lines.now (index + 1)) (note_of c.args.kind (fields_of c.index-rows-index.result)))
    (notes_from c.args.kind c.args.lines.now (index + 1 + 1) (drop (index + 1) (map fields_of rows))) _ _
    (rw (left_at rows index c.index-rows-index.result (search rules) c.index-rows-index.is) at c.loop-index.invariant) c.in_ok-add_note.ensures
