-- There is room for the row of the request, and for those of its activities.
use Rattle.std.proofs.Common.{[], ◌∷◌, arith}
use Rattle.tc_types.specs.declared.history.places.Place.TheVariants.{Approved, Queued, Riding}
use Rattle.tc_types.specs.declared.history.causes.Cause.TheVariants.{Release}
use Rattle.tc_board.specs.Mirror.{no_mirror}
use Rattle.tc_book.specs.Book.{moved, want}
use Rattle.tc_desk.specs.Commands.{activities_at}
use Rattle.tc_desk.proofs.LoopLemmas.{followed_alike, room_to_depart}
use Rattle.tc_desk.proofs.acts.release.depart.Goals as goal

pub record-requires-clause-room : goal.record-requires-clause-room
record-requires-clause-room g c = (room_to_depart c.args.stamp.now no_mirror c.args.said.now c.args.records.now.book c.args.number c.args.records.now.most_rows c.requires.room).0

pub follow-requires-clause-room : goal.follow-requires-clause-room
follow-requires-clause-room g c =
    let room = (room_to_depart c.args.stamp.now no_mirror c.args.said.now c.args.records.now.book c.args.number c.args.records.now.most_rows c.requires.room).1 in
    let as_many =
    followed_alike c.args.stamp.now c.record.new.self.book (moved c.args.stamp.now c.args.records.now.book (want c.args.number Queued Release)) c.args.activities.now
    (activities_at c.args.records.now.book c.args.number) (Approved ∷ []) Riding Release c.record.ensures.book c.requires.ride in
    let most = c.record.ensures.kept.rows in
    omega (arith, as_many, room, most)
