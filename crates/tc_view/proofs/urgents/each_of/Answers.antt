-- One more.
use Rattle.std.proofs.Common.{rules, ◌<◌, length}
use Rattle.tc_view.specs.Urgents.{row_of}
use Rattle.tc_view.proofs.RowLemmas.{map_more}
use Rattle.tc_view.proofs.urgents.each_of.Goals as goal

pub loop-line-preserved : goal.loop-line-preserved
loop-line-preserved g c =
    let low : c.loop-line.line-index < length c.args.lines.now = search rules in
    map_more (row_of c.args.records.now.book) c.args.lines.now c.loop-line.line-index c.line-item.result c.loop-line.rows.items c.add.new.items.items c.row_of.result low c.line-item.is c.loop-line.invariant
    c.in_ok-add.ensures c.row_of.ensures
