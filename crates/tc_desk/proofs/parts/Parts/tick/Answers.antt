-- There is room for all that the link told.
use Rattle.std.proofs.Common.{◌≡◌, ◌≤◌, false, length, refl, rules}
use Rattle.std.specs.List.{list_any}
use Rattle.tc_board.specs.Mirror.{no_mirror}
use Rattle.tc_desk.specs.Effects.{tells_report}
use Rattle.tc_desk.proofs.RoomLemmas.{told_room, told_end, flown_room}
use Rattle.tc_desk.proofs.parts.Parts.tick.Goals as goal

pub hear_all-requires-clause-room : goal.hear_all-requires-clause-room
hear_all-requires-clause-room g c =
    let quiet : list_any tells_report c.as_slice.result.now ≡ false = rw c.as_slice.ensures (c.in_ok-flight.ensures.no_report refl) in
    let few : length c.as_slice.result.now ≤ 258 = rw c.as_slice.ensures c.in_ok-flight.ensures.most in
    told_room c.args.stamp no_mirror c.as_slice.result.now c.self.inside.records.book c.ask.new.records c.most_rows-most.result c.most_rows-most.ensures.good quiet few c.most_rows-most.ensures.rows
    c.in_ok-flight.ensures.asks.book c.in_ok-flight.ensures.room

pub returns : goal.returns
returns g c =
    let quiet : list_any tells_report c.as_slice.result.now ≡ false = rw c.as_slice.ensures (c.in_ok-flight.ensures.no_report refl) in
    let few : length c.as_slice.result.now ≤ 258 = rw c.as_slice.ensures c.in_ok-flight.ensures.most in
    record {
      answers = search rules;
      put = search rules;
      room =
          rw (← c.self.view_is) (flown_room c.self.inside.records.book c.ask.new.records c.hear_all.new.records c.most_rows-most.result c.in_ok-flight.flight.draft.moves c.in_ok-flight.flight.draft.batch
          c.in_ok-flight.ensures.asks.moves c.in_ok-flight.ensures.asks.batch c.in_ok-flight.ensures.asks.book c.hear_all.ensures.only
          (told_end c.args.stamp no_mirror c.as_slice.result.now c.self.inside.records.book c.ask.new.records.book c.hear_all.new.records.book c.most_rows-most.result c.most_rows-most.ensures.good quiet few
          c.most_rows-most.ensures.rows c.in_ok-flight.ensures.asks.book (c.hear_all.ensures.book no_mirror)));
    }
