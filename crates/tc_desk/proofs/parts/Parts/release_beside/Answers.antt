-- A step with which a request is released: its record comes first, and then what the release makes.
use Rattle.std.proofs.Common.{◌≡◌, ◌+◌, ◌≤◌, true, false, ◌∷◌, [], ◌∙◌, ℕ, Err, Some, None, List, length, inl, inr, refl, ap, arith, rules}
use Rattle.std.specs.List.{list_any}
use Rattle.tc_types.specs.declared.history.places.Place.TheVariants.{Approved}
use Rattle.tc_types.specs.declared.refusals.Refusal.TheVariants.{Memory}
use Rattle.tc_types.specs.declared.acts.LinkAct.TheVariants as link_act
use Rattle.tc_world.specs.declared.events.LinkIndication.{LinkIndication}
use Rattle.tc_board.specs.Mirror.{no_mirror}
use Rattle.tc_book.specs.Book.{Book, stands}
use Rattle.tc_book.specs.Logs.{recorded}
use Rattle.tc_desk.specs.Acts.{released}
use Rattle.tc_desk.specs.Effects.{heard_all, tells_report}
use Rattle.tc_desk.specs.State.{State}
use Rattle.tc_desk.proofs.RoomLemmas.{noted_orderly, noted_riding, departed_room, departed_end, beside_room}
use Rattle.tc_desk.proofs.StepLemmas.{step_says, offered, stepped, beside_refused}
use Rattle.tc_desk.proofs.parts.Parts.release_beside.Goals as goal

pub returns-in_err-number : goal.returns-in_err-number
returns-in_err-number g c =
    let gone : c.from_residual.result ≡ Err c.in_err-number.field-0.0 = grind arith in
    let old : State g.row.U.Denot g.row.D.Denot = record { book = c.self.inside.records.book; world = c.self.inside.world; board = c.self.inside.board; mirror = c.self.inside.mirror.told } in
    rw (gone, ← c.self.view_is) (record {
      answers = record {
        why = inl (step_says c.args.stamp.now old c.args.given.now (Some c.args.n) (Some c.in_err-number.field-0.0) (rw (← c.self.view_is) at c.requires.may) (rw (← c.self.view_is) at c.requires.beside)
            (rw c.fop_view.ensures at c.in_err-number.ensures.refused));
        same = search rules;
      };
      put = tt;
      room = tt;
    })

pub returns-in_err-reserve_record : goal.returns-in_err-reserve_record
returns-in_err-reserve_record g c =
    let gone : c.from_residual-in_err-reserve_record.result ≡ Err Memory = grind arith in
    let old : State g.row.U.Denot g.row.D.Denot = record { book = c.self.inside.records.book; world = c.self.inside.world; board = c.self.inside.board; mirror = c.self.inside.mirror.told } in
    rw (gone, ← c.self.view_is) (record {
      answers = record {
        why = inr (
          step_says c.args.stamp.now old c.args.given.now (Some c.args.n) None (rw (← c.self.view_is) at c.requires.may) (rw (← c.self.view_is) at c.requires.beside)
              (rw c.fop_view.ensures at c.in_ok-number.ensures.free),
          inl refl,
        );
        same = search rules;
      };
      put = tt;
      room = tt;
    })

pub returns-in_err-flight : goal.returns-in_err-flight
returns-in_err-flight g c =
    let gone : c.from_residual-in_err-flight.result ≡ Err c.in_err-flight.field-0.0 = grind arith in
    let old : State g.row.U.Denot g.row.D.Denot = record { book = c.self.inside.records.book; world = c.self.inside.world; board = c.self.inside.board; mirror = c.self.inside.mirror.told } in
    let new : State g.row.U.Denot g.row.D.Denot = record { book = c.ask.new.records.book; world = c.ask.new.world; board = c.self.inside.board; mirror = c.self.inside.mirror.told } in
    let may = rw (← c.self.view_is) at c.requires.may in
    let beside = rw (← c.self.view_is) at c.requires.beside in
    rw (gone, ← c.self.view_is) (record {
      answers =
          beside_refused g.U.Carrier.kind g.D.Carrier.kind c.args.stamp.now c.args.given.now c.args.n old new c.in_err-flight.field-0.0 c.in_ok-number.field-0.event
          (step_says c.args.stamp.now old c.args.given.now (Some c.args.n) None may beside (rw c.fop_view.ensures at c.in_ok-number.ensures.free))
          beside c.in_ok-number.ensures.event c.in_err-flight.ensures.asks.asked.0
          (record { book = c.ask.ensures.asks.book ∙ c.reserve_record.ensures.book; world = c.in_err-flight.ensures.asks.asked.1; board = refl; mirror = refl });
      put = tt;
      room = tt;
    })

pub depart-requires-clause-room : goal.depart-requires-clause-room
depart-requires-clause-room g c =
    let noted_book : Book = recorded c.args.stamp.now c.args.given.now c.self.inside.records.book in
    let noted : c.record_step.new.self.book ≡ noted_book = c.record_step.ensures.book ∙ ap (recorded c.args.stamp.now c.args.given.now) (c.ask.ensures.asks.book ∙ c.reserve_record.ensures.book) in
    let quiet : list_any tells_report c.as_slice-2.result.now ≡ false = rw c.as_slice-2.ensures (c.in_ok-flight.ensures.no_report c.in_ok-number.ensures.quiet) in
    let few : length c.as_slice-2.result.now ≤ 258 = rw c.as_slice-2.ensures c.in_ok-flight.ensures.most in
    let here : stands noted_book c.in_ok-number.field-0.number (Approved ∷ []) ≡ true = ap (λ (n : ℕ). stands c.self.inside.records.book n (Approved ∷ [])) c.in_ok-number.ensures.number ∙ c.in_ok-number.ensures.here in
    let rows = c.most_departing-most.ensures.rows in
    let same = noted_riding c.args.stamp.now c.args.given.now c.self.inside.records.book in
    let room = c.in_ok-flight.ensures.room in
    let kept = c.record_step.ensures.kept.rows in
    let before = ap (λ (b : Book). length b.history) (c.ask.ensures.asks.book ∙ c.reserve_record.ensures.book) in
    let as_long = ap (λ (b : Book). length b.history) noted in
    departed_room c.args.stamp.now no_mirror c.as_slice-2.result.now noted_book c.in_ok-number.field-0.number c.record_step.new.self c.most_departing-most.result
    (noted_orderly c.args.stamp.now c.args.given.now c.self.inside.records.book c.most_departing-most.ensures.good) here quiet few (omega (arith, rows, same)) noted (omega (arith, room, kept, before, as_long))

pub returns : goal.returns
returns g c =
    let old : State g.row.U.Denot g.row.D.Denot = record { book = c.self.inside.records.book; world = c.self.inside.world; board = c.self.inside.board; mirror = c.self.inside.mirror.told } in
    let new : State g.row.U.Denot g.row.D.Denot = record { book = c.depart.new.records.book; world = c.ask.new.world; board = c.self.inside.board; mirror = c.self.inside.mirror.told } in
    let may = rw (← c.self.view_is) at c.requires.may in
    let beside = rw (← c.self.view_is) at c.requires.beside in
    let offer = c.in_ok-number.ensures.event in
    let number : c.in_ok-number.field-0.number ≡ c.args.n = c.in_ok-number.ensures.number in
    let noted : c.record_step.new.self.book ≡ recorded c.args.stamp.now c.args.given.now c.self.inside.records.book =
    c.record_step.ensures.book ∙ ap (recorded c.args.stamp.now c.args.given.now) (c.ask.ensures.asks.book ∙ c.reserve_record.ensures.book) in
    let noted_book : Book = recorded c.args.stamp.now c.args.given.now c.self.inside.records.book in
    let quiet : list_any tells_report c.as_slice-2.result.now ≡ false = rw c.as_slice-2.ensures (c.in_ok-flight.ensures.no_report c.in_ok-number.ensures.quiet) in
    let few : length c.as_slice-2.result.now ≤ 258 = rw c.as_slice-2.ensures c.in_ok-flight.ensures.most in
    let here : stands noted_book c.in_ok-number.field-0.number (Approved ∷ []) ≡ true = ap (λ (n : ℕ). stands c.self.inside.records.book n (Approved ∷ [])) number ∙ c.in_ok-number.ensures.here in
    let rows = c.most_departing-most.ensures.rows in
    let same = noted_riding c.args.stamp.now c.args.given.now c.self.inside.records.book in
    let so_many : length c.depart.new.records.book.history ≤ length c.self.inside.records.book.history + c.most_departing-most.result =
    departed_end c.args.stamp.now no_mirror c.as_slice-2.result.now noted_book c.record_step.new.self.book c.depart.new.records.book c.in_ok-number.field-0.number c.most_departing-most.result
    (noted_orderly c.args.stamp.now c.args.given.now c.self.inside.records.book c.most_departing-most.ensures.good) here quiet few (omega (arith, rows, same)) noted (c.depart.ensures.book no_mirror) in
    let book =
    c.depart.ensures.book c.self.inside.mirror.told
    ∙ ap (λ (l : List LinkIndication). heard_all c.args.stamp.now c.self.inside.mirror.told l (released c.args.stamp.now (link_act.Release c.in_ok-number.field-0.number) c.record_step.new.self.book)) c.as_slice-2.ensures
    ∙ ap (λ (n : ℕ). heard_all c.args.stamp.now c.self.inside.mirror.told c.in_ok-flight.flight.said (released c.args.stamp.now (link_act.Release n) c.record_step.new.self.book)) number
    ∙ ap (λ (b : Book). heard_all c.args.stamp.now c.self.inside.mirror.told c.in_ok-flight.flight.said (released c.args.stamp.now (link_act.Release c.args.n) b)) noted in
    record {
      answers =
          rw (← c.self.view_is) (
            step_says c.args.stamp.now old c.args.given.now (Some c.args.n) None may beside (rw c.fop_view.ensures at c.in_ok-number.ensures.free),
            stepped g.U.Carrier.kind g.D.Carrier.kind c.args.stamp.now c.args.given.now (Some c.args.n) old new c.in_ok-flight.flight.said c.in_ok-flight.flight.first beside
                (offered g.U.Carrier.kind g.D.Carrier.kind c.args.n old new c.in_ok-flight.flight.said c.in_ok-number.field-0.event offer c.in_ok-flight.ensures.asks.asked refl refl) book c.in_ok-flight.ensures.asks.begins,
          );
      put = search rules;
      room =
          rw (← c.self.view_is) (beside_room c.args.stamp.now c.args.given.now c.self.inside.records.book c.record_step.new.self c.depart.new.records c.most_departing-most.result c.in_ok-flight.flight.draft.moves
          c.in_ok-flight.flight.draft.batch c.in_ok-flight.ensures.asks.moves c.in_ok-flight.ensures.asks.batch noted c.depart.ensures.only so_many);
    }
