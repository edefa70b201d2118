-- There is room for all that came down.
use Rattle.std.proofs.Common.{◌≡◌, ◌+◌, ◌≤◌, min, length, arith, rules}
use Rattle.tc_desk.specs.Effects.{ComesAlone, riding}
use Rattle.tc_desk.proofs.RoomLemmas.{down_room, down_end, flown_room}
use Rattle.tc_desk.proofs.parts.Parts.down.Goals as goal

pub hear_down-requires-clause-room : goal.hear_down-requires-clause-room
hear_down-requires-clause-room g c =
    let alone : ComesAlone c.as_slice-3.result.now = rw c.as_slice-3.ensures c.in_ok-flight.ensures.alone in
    let few : length c.as_slice-3.result.now ≤ 258 = rw c.as_slice-3.ensures c.in_ok-flight.ensures.most in
    let riders = c.most_rows.ensures.rows in
    let shown = c.min-shown.ensures in
    let count = c.count.ensures in
    let rows : c.most_rows.result + c.min-shown.result ≡ 258 + riding c.self.inside.records.book + min (length c.reserve.new.self.told.activities) 65535 = omega (arith, riders, shown, count) in
    down_room c.args.stamp c.reserve.new.self.told c.as_slice-3.result.now c.self.inside.records.book c.ask.new.records (c.most_rows.result + c.min-shown.result) c.most_rows.ensures.good alone few rows
    c.in_ok-flight.ensures.asks.book c.in_ok-flight.ensures.room

pub returns : goal.returns
returns g c =
    let alone : ComesAlone c.as_slice-3.result.now = rw c.as_slice-3.ensures c.in_ok-flight.ensures.alone in
    let few : length c.as_slice-3.result.now ≤ 258 = rw c.as_slice-3.ensures c.in_ok-flight.ensures.most in
    let riders = c.most_rows.ensures.rows in
    let shown = c.min-shown.ensures in
    let count = c.count.ensures in
    let rows : c.most_rows.result + c.min-shown.result ≡ 258 + riding c.self.inside.records.book + min (length c.reserve.new.self.told.activities) 65535 = omega (arith, riders, shown, count) in
    record {
      answers = search rules;
      put = search rules;
      room =
          rw (← c.self.view_is) (flown_room c.self.inside.records.book c.ask.new.records c.hear_down.new.records (c.most_rows.result + c.min-shown.result) c.in_ok-flight.flight.draft.moves c.in_ok-flight.flight.draft.batch
          c.in_ok-flight.ensures.asks.moves c.in_ok-flight.ensures.asks.batch c.in_ok-flight.ensures.asks.book c.hear_down.ensures.only
          (down_end c.args.stamp c.reserve.new.self.told c.as_slice-3.result.now c.self.inside.records.book c.ask.new.records.book c.hear_down.new.records.book (c.most_rows.result + c.min-shown.result)
          c.most_rows.ensures.good alone few rows c.in_ok-flight.ensures.asks.book c.hear_down.ensures.book));
    }
