-- What is heard where no report came down is heard with any mirror.
use Rattle.std.proofs.Common.{◌≡◌, false, rules}
use Rattle.std.specs.List.{list_any}
use Rattle.tc_board.specs.Mirror.{no_mirror}
use Rattle.tc_desk.specs.Effects.{tells_report}
use Rattle.tc_desk.proofs.LoopLemmas.{room_alike}
use Rattle.tc_desk.proofs.hearing.hear_down.Goals as goal

pub hear_all-requires-clause-room : goal.hear_all-requires-clause-room
hear_all-requires-clause-room g c =
    let quiet : list_any tells_report c.args.said.now ≡ false = search rules in
    room_alike c.args.stamp.now c.args.mirror.now.told no_mirror c.args.said.now c.args.records.now.book c.args.records.now quiet c.requires.room
