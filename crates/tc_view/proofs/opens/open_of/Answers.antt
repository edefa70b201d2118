-- The next line was looked at.
use Rattle.std.proofs.Common.{rules, ◌<◌, ◌≤◌, ◌++◌, [], length, subst, take}
use Rattle.std.specs.List.{cons_option}
use Rattle.tc_view.specs.Gathered.{IsOpenOf}
use Rattle.tc_view.specs.Ways.{open_of}
use Rattle.tc_view.proofs.OpenLemmas.{few_open, looked_more}
use Rattle.tc_view.proofs.opens.open_of.Goals as goal

pub add_open-requires : goal.add_open-requires
add_open-requires g c =
    let low : c.loop-line.line-index < length c.args.lines.now = search rules in
    let few : length c.args.lines.now ≤ 18446744073709551615 = search rules in
    record { few = few_open c.args.records.now.book c.args.lines.now c.loop-line.line-index 18446744073709551615 c.loop-line.found low few c.loop-line.invariant }

pub loop-line-preserved : goal.loop-line-preserved
loop-line-preserved g c =
    let book = c.args.records.now.book in
    let lines = c.args.lines.now in
    let low : c.loop-line.line-index < length lines = search rules in
    looked_more book lines c.loop-line.line-index c.line-item.result _ low c.line-item.is
    (subst (λ o. IsOpenOf (open_of book (take c.loop-line.line-index lines) ++ cons_option o []) c.add_open.new.found) c.open_in.ensures (c.in_ok-add_open.ensures _ c.loop-line.invariant))
