-- It is one of the first, while there are few.
use Rattle.std.proofs.Common.{rules, ◌<◌, ◌≤◌, length}
use Rattle.tc_wall.specs.declared.walls.TheConstants.{MOST_OPEN}
use Rattle.tc_view.proofs.OpenLemmas.{first_full, first_more}
use Rattle.tc_view.proofs.opens.add_first.Goals as goal

pub returns-then-len-ge-MOST_OPEN : goal.returns-then-len-ge-MOST_OPEN
returns-then-len-ge-MOST_OPEN g c = λ seen is.
    let full : MOST_OPEN ≤ length c.args.first.now.items = search rules in
    first_full MOST_OPEN seen c.args.first.now.items c.args.request.now is full

pub returns : goal.returns
returns g c = λ seen is.
    let few : length c.args.first.now.items < MOST_OPEN = search rules in
    rw c.in_ok-add.ensures (first_more MOST_OPEN seen c.args.first.now.items c.args.request.now is few)
