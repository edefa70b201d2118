-- There is room for the row of the request, and for those of the activities that ride with it.
use Rattle.std.proofs.Common.{◌≡◌, true, [], ◌∷◌, sym, ◌∙◌, ap, arith}
use Rattle.tc_types.specs.declared.history.places.Place.TheVariants.{Riding}
use Rattle.tc_book.specs.Book.{stands, moved, want}
use Rattle.tc_desk.specs.Commands.{activities_at}
use Rattle.tc_desk.proofs.LoopLemmas.{followed_alike, room_to_move_with}
use Rattle.tc_desk.proofs.moving.try_move_with.Goals as goal

pub record-requires-clause-room : goal.record-requires-clause-room
record-requires-clause-room g c =
    let here : stands c.args.records.now.book c.args.request c.args.places.now ≡ true = ap (λ n. stands c.args.records.now.book n c.args.places.now) (sym c.get.ensures.value) ∙ sym c.stands.ensures ∙ c.if-stands.true in
    (room_to_move_with c.args.stamp.now c.args.records.now.book c.args.request c.args.places.now c.args.to c.args.cause c.args.records.now.most_rows here c.requires.room).0

pub follow-requires-clause-room : goal.follow-requires-clause-room
follow-requires-clause-room g c =
    let here : stands c.args.records.now.book c.args.request c.args.places.now ≡ true = ap (λ n. stands c.args.records.now.book n c.args.places.now) (sym c.get.ensures.value) ∙ sym c.stands.ensures ∙ c.if-stands.true in
    let room = (room_to_move_with c.args.stamp.now c.args.records.now.book c.args.request c.args.places.now c.args.to c.args.cause c.args.records.now.most_rows here c.requires.room).1 in
    let as_many =
    followed_alike c.args.stamp.now c.record.new.self.book (moved c.args.stamp.now c.args.records.now.book (want c.args.request c.args.to c.args.cause)) c.as_slice.result.now
    (activities_at c.args.records.now.book c.args.request) (Riding ∷ []) c.args.to c.args.cause c.record.ensures.book
    (c.as_slice.ensures.targets ∙ c.activities_at-activities.ensures ∙ ap (activities_at c.args.records.now.book) c.get-then-stands.ensures.value) in
    let most = c.record.ensures.kept.rows in
    omega (arith, as_many, room, most)
