-- The room that was made on the downlink is there when the report is put; and what the calls make is one step.
use Rattle.std.proofs.Common.{refl, ap, ◌∙◌, arith, rules}
use Rattle.tc_desk.specs.Acts.{first_of_up}
use Rattle.tc_desk.specs.Asks.{taken_in}
use Rattle.tc_desk.proofs.BoardingLemmas.{came_up}
use Rattle.tc_desk.proofs.parts.Parts.up.Goals as goal

pub deliver-put-requires-clause-room : goal.deliver-put-requires-clause-room
deliver-put-requires-clause-room g c =
    let room = c.in_ok-reserve.ensures.room in
    let kept = c.pass.ensures.kept_room refl in
    omega (arith, room, kept)

pub returns : goal.returns
returns g c = record {
  answers =
      rw (← c.self.view_is) (
        refl,
        came_up g.U.Carrier.kind g.D.Carrier.kind c.args.stamp _ c.deliver-put.new.self c.reserve.new.self c.pass.new.world
            c.in_ok-flight.flight.said c.first_of_up-first.result c.taken_in-taken.result c.room-free_buffer.result
            c.in_ok-reserve.ensures.same c.room-free_buffer.ensures c.in_ok-flight.ensures.asks.asked
            (c.taken_in-taken.ensures ∙ ap taken_in c.as_slice-2.ensures) c.deliver-put.ensures.board c.deliver-put.ensures.reports
            c.deliver-put.ensures.mirror (c.deliver-put.ensures.book ∙ c.pass.ensures.asks.book) (c.in_ok-flight.ensures.heard c.args.stamp c.self.inside.mirror.told c.self.inside.records.book) (c.first_of_up-first.ensures ∙ ap first_of_up c.as_slice.ensures),
      );
  put = search rules;
  room = search rules;
}
