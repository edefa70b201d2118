-- There is room for the rows of the release, and for all that the link told of it.
use Rattle.std.proofs.Common.{◌≡◌, ℕ, ◌≤◌, true, false, [], ◌∷◌, length, ◌∙◌, ap, rules}
use Rattle.std.specs.List.{list_any}
use Rattle.tc_types.specs.declared.history.places.Place.TheVariants.{Approved}
use Rattle.tc_board.specs.Mirror.{no_mirror}
use Rattle.tc_book.specs.Book.{stands}
use Rattle.tc_desk.specs.Effects.{tells_report}
use Rattle.tc_desk.proofs.RidingLemmas.{orderly}
use Rattle.tc_desk.proofs.RoomLemmas.{departed_room, departed_end, flown_room}
use Rattle.tc_desk.proofs.parts.Parts.release.Goals as goal

pub depart-requires-clause-room : goal.depart-requires-clause-room
depart-requires-clause-room g c =
    let quiet : list_any tells_report c.as_slice-2.result.now ≡ false = rw c.as_slice-2.ensures (c.in_ok-flight.ensures.no_report c.in_ok-number.ensures.quiet) in
    let few : length c.as_slice-2.result.now ≤ 258 = rw c.as_slice-2.ensures c.in_ok-flight.ensures.most in
    let here : stands c.self.inside.records.book c.in_ok-number.field-0.number (Approved ∷ []) ≡ true = ap (λ (n : ℕ). stands c.self.inside.records.book n (Approved ∷ [])) c.in_ok-number.ensures.number ∙ c.in_ok-number.ensures.here in
    departed_room c.args.stamp no_mirror c.as_slice-2.result.now c.self.inside.records.book c.in_ok-number.field-0.number c.ask.new.records c.most_departing-most.result
    (orderly c.self.inside.records.book c.most_departing-most.ensures.good) here quiet few c.most_departing-most.ensures.rows c.in_ok-flight.ensures.asks.book c.in_ok-flight.ensures.room

pub returns : goal.returns
returns g c =
    let quiet : list_any tells_report c.as_slice-2.result.now ≡ false = rw c.as_slice-2.ensures (c.in_ok-flight.ensures.no_report c.in_ok-number.ensures.quiet) in
    let few : length c.as_slice-2.result.now ≤ 258 = rw c.as_slice-2.ensures c.in_ok-flight.ensures.most in
    let here : stands c.self.inside.records.book c.in_ok-number.field-0.number (Approved ∷ []) ≡ true = ap (λ (n : ℕ). stands c.self.inside.records.book n (Approved ∷ [])) c.in_ok-number.ensures.number ∙ c.in_ok-number.ensures.here in
    record {
      answers = search rules;
      put = search rules;
      room =
          rw (← c.self.view_is) (flown_room c.self.inside.records.book c.ask.new.records c.depart.new.records c.most_departing-most.result c.in_ok-flight.flight.draft.moves c.in_ok-flight.flight.draft.batch
          c.in_ok-flight.ensures.asks.moves c.in_ok-flight.ensures.asks.batch c.in_ok-flight.ensures.asks.book c.depart.ensures.only
          (departed_end c.args.stamp no_mirror c.as_slice-2.result.now c.self.inside.records.book c.ask.new.records.book c.depart.new.records.book c.in_ok-number.field-0.number c.most_departing-most.result
          (orderly c.self.inside.records.book c.most_departing-most.ensures.good) here quiet few c.most_departing-most.ensures.rows c.in_ok-flight.ensures.asks.book (c.depart.ensures.book no_mirror)));
    }
