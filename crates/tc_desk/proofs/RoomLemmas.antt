-- The room that an act on the link takes is enough for the rows that it makes.
use Rattle.std.proofs.Common.{◌≡◌, ℕ, ◌+◌, ◌≤◌, false, true, min, List, [], ◌∷◌, Vec, length, drop, refl, sym, ◌∙◌, ap, subst, arith}
use Rattle.std.specs.List.{list_any, flat_map}
use Rattle.std.proofs.lemmas.Grind.{flat_map-append}
use Rattle.std.proofs.lemmas.List.{length-append}
use Rattle.tc_types.specs.declared.acts.LinkAct.TheVariants as link_act
use Rattle.tc_types.specs.declared.acts.StepAct.{StepAct}
use Rattle.tc_types.specs.declared.history.moves.Move.{Move}
use Rattle.tc_types.specs.declared.history.places.Place.TheVariants as place
use Rattle.tc_types.specs.declared.tables.rows.Row.{Row}
use Rattle.tc_world.specs.declared.events.LinkIndication.{LinkIndication}
use Rattle.tc_board.specs.Mirror.{MirrorState}
use Rattle.tc_book.specs.declared.stamps.Stamp.{Stamp}
use Rattle.tc_book.specs.declared.marks.Mark.{Mark}
use Rattle.tc_book.specs.Batch.{mark_of, HasBehind, GoesOn, HasRoomFor, HoldsRoom, HasRoomBehind, batch_rows, log_length}
use Rattle.tc_book.specs.Book.{Book, stands}
use Rattle.tc_book.specs.Cargoes.{cargo_of, cargo_length}
use Rattle.tc_book.specs.Good.{IsGoodBook}
use Rattle.tc_book.specs.Logs.{record_made, recorded}
use Rattle.tc_book.specs.Records.{Kept}
use Rattle.tc_desk.specs.Acts.{released}
use Rattle.tc_desk.specs.Effects.{MayHold, OnlyMoves, riding, heard_all, tells_report, ComesAlone}
use Rattle.tc_desk.proofs.StepLemmas.{record_room}
use Rattle.tc_desk.proofs.RidingLemmas.{IsOrderly, orderly, heard_rows, departed_rows, down_rows}

-- ---- rows

-- an event at which no report comes down: how many rows stand behind it, and that they have room
pub told_few : (stamp : Stamp) (mirror : MirrorState) (all : List LinkIndication) (book : Book) → IsGoodBook book → list_any tells_report all ≡ false → length all ≤ 258
    → length (heard_all stamp mirror all book).history ≤ length book.history + (258 + riding book)
told_few stamp mirror all book good quiet few = heard_rows stamp mirror all book 258 (orderly book good) quiet few

pub told_room : (stamp : Stamp) (mirror : MirrorState) (all : List LinkIndication) (book : Book) (at : Kept) (rows : ℕ) → IsGoodBook book → list_any tells_report all ≡ false → length all ≤ 258
    → rows ≡ 258 + riding book → at.book ≡ book → length at.book.history + rows ≤ at.most_rows → MayHold at (heard_all stamp mirror all at.book)
told_room stamp mirror all book at rows good quiet few many same room =
    let rows_few = told_few stamp mirror all book good quiet few in
    let as_long = ap (λ (b : Book). length (heard_all stamp mirror all b).history) same in
    let before = ap (λ (b : Book). length b.history) same in
    omega (arith, rows_few, many, as_long, before, room)

pub told_end : (stamp : Stamp) (mirror : MirrorState) (all : List LinkIndication) (book before after : Book) (rows : ℕ) → IsGoodBook book → list_any tells_report all ≡ false → length all ≤ 258
    → rows ≡ 258 + riding book → before ≡ book → after ≡ heard_all stamp mirror all before → length after.history ≤ length book.history + rows
told_end stamp mirror all book before after rows good quiet few many same is =
    let rows_few = told_few stamp mirror all book good quiet few in
    let as_long = ap (λ (b : Book). length b.history) is ∙ ap (λ (b : Book). length (heard_all stamp mirror all b).history) same in
    omega (arith, rows_few, many, as_long)

-- whatever comes down
pub down_few : (stamp : Stamp) (mirror : MirrorState) (all : List LinkIndication) (book : Book) → IsGoodBook book → ComesAlone all → length all ≤ 258
    → length (heard_all stamp mirror all book).history ≤ length book.history + (258 + riding book + min (length mirror.activities) 65535)
down_few stamp mirror all book good alone few = down_rows stamp mirror all book 258 (orderly book good) alone few (omega arith)

pub down_room : (stamp : Stamp) (mirror : MirrorState) (all : List LinkIndication) (book : Book) (at : Kept) (rows : ℕ) → IsGoodBook book → ComesAlone all → length all ≤ 258
    → rows ≡ 258 + riding book + min (length mirror.activities) 65535 → at.book ≡ book → length at.book.history + rows ≤ at.most_rows → MayHold at (heard_all stamp mirror all at.book)
down_room stamp mirror all book at rows good alone few many same room =
    let rows_few = down_few stamp mirror all book good alone few in
    let as_long = ap (λ (b : Book). length (heard_all stamp mirror all b).history) same in
    let before = ap (λ (b : Book). length b.history) same in
    omega (arith, rows_few, many, as_long, before, room)

pub down_end : (stamp : Stamp) (mirror : MirrorState) (all : List LinkIndication) (book before after : Book) (rows : ℕ) → IsGoodBook book → ComesAlone all → length all ≤ 258
    → rows ≡ 258 + riding book + min (length mirror.activities) 65535 → before ≡ book → after ≡ heard_all stamp mirror all before → length after.history ≤ length book.history + rows
down_end stamp mirror all book before after rows good alone few many same is =
    let rows_few = down_few stamp mirror all book good alone few in
    let as_long = ap (λ (b : Book). length b.history) is ∙ ap (λ (b : Book). length (heard_all stamp mirror all b).history) same in
    omega (arith, rows_few, many, as_long)

-- a release, also behind a record
pub departed_few : (stamp : Stamp) (mirror : MirrorState) (all : List LinkIndication) (book : Book) (n : ℕ) → IsOrderly book → stands book n (place.Approved ∷ []) ≡ true → list_any tells_report all ≡ false → length all ≤ 258
    → length (heard_all stamp mirror all (released stamp (link_act.Release n) book)).history ≤ length book.history + (17 + 258 + riding book)
departed_few stamp mirror all book n is here quiet few = departed_rows stamp mirror all book n 258 is here quiet few

pub departed_room : (stamp : Stamp) (mirror : MirrorState) (all : List LinkIndication) (book : Book) (n : ℕ) (at : Kept) (rows : ℕ) → IsOrderly book → stands book n (place.Approved ∷ []) ≡ true → list_any tells_report all ≡ false → length all ≤ 258
    → rows ≡ 17 + 258 + riding book → at.book ≡ book → length at.book.history + rows ≤ at.most_rows → MayHold at (heard_all stamp mirror all (released stamp (link_act.Release n) at.book))
departed_room stamp mirror all book n at rows is here quiet few many same room =
    let rows_few = departed_few stamp mirror all book n is here quiet few in
    let as_long = ap (λ (b : Book). length (heard_all stamp mirror all (released stamp (link_act.Release n) b)).history) same in
    let before = ap (λ (b : Book). length b.history) same in
    omega (arith, rows_few, many, as_long, before, room)

pub departed_end : (stamp : Stamp) (mirror : MirrorState) (all : List LinkIndication) (book before after : Book) (n : ℕ) (rows : ℕ) → IsOrderly book → stands book n (place.Approved ∷ []) ≡ true → list_any tells_report all ≡ false → length all ≤ 258
    → rows ≡ 17 + 258 + riding book → before ≡ book → after ≡ heard_all stamp mirror all (released stamp (link_act.Release n) before) → length after.history ≤ length book.history + rows
departed_end stamp mirror all book before after n rows orderly here quiet few many same is =
    let rows_few = departed_few stamp mirror all book n orderly here quiet few in
    let as_long = ap (λ (b : Book). length b.history) is ∙ ap (λ (b : Book). length (heard_all stamp mirror all (released stamp (link_act.Release n) b)).history) same in
    omega (arith, rows_few, many, as_long)

pub noted_orderly : (stamp : Stamp) (given : StepAct) (book : Book) → IsGoodBook book → IsOrderly (recorded stamp given book)
noted_orderly stamp given book good = let is = orderly book good in record { once = is.once; few = is.few; short = is.short }

pub noted_riding : (stamp : Stamp) (given : StepAct) (book : Book) → riding (recorded stamp given book) ≡ riding book
unfolding riding
noted_riding stamp given book = refl

-- ---- a draft

-- there is room for the moves
pub flown_room : {A B : Type 0} (old : Book) (before after : Kept) (rows : ℕ) (moves : Vec Move A) (batch : Vec Row B)
    → HasRoomFor rows moves → HasRoomFor (batch_rows 0 rows + 1) batch → before.book ≡ old → OnlyMoves before after → length after.book.history ≤ length old.history + rows → HoldsRoom old after.book moves batch
flown_room old before after rows moves batch for_moves for_batch is only few =
    let m = for_moves.1 in
    let b = for_batch.1 in
    let requests = ap length only.requests ∙ ap (λ (x : Book). length x.requests) is in
    let cargo = ap cargo_length only.requests ∙ ap (λ (x : Book). cargo_length x.requests) is in
    let approvals = ap length only.approvals ∙ ap (λ (x : Book). length x.approvals) is in
    let stack_approvals = ap length only.stack_approvals ∙ ap (λ (x : Book). length x.stack_approvals) is in
    let log = ap log_length only.log ∙ ap (λ (x : Book). log_length x.log) is in
    record {
      moves_empty = for_moves.0;
      moves_room = omega (arith, m, few);
      batch_empty = for_batch.0;
      approvals = omega (arith, approvals);
      stack_approvals = omega (arith, stack_approvals);
      batch_room = omega (arith, requests, cargo, b, log, few);
    }

-- a record comes first, and moves behind it
pub beside_room : {A B : Type 0} (stamp : Stamp) (given : StepAct) (book : Book) (noted new : Kept) (rows : ℕ) (moves : Vec Move A) (batch : Vec Row B)
    → HasRoomFor rows moves → HasRoomFor (batch_rows 0 rows + 1) batch → noted.book ≡ recorded stamp given book → OnlyMoves noted new → length new.book.history ≤ length book.history + rows → HoldsRoom book new.book moves batch
beside_room stamp given book noted new rows moves batch for_moves for_batch is only few =
    record_room book new.book (record_made stamp given) rows moves batch
    (only.requests ∙ ap (λ (x : Book). x.requests) is)
    (only.approvals ∙ ap (λ (x : Book). x.approvals) is)
    (only.stack_approvals ∙ ap (λ (x : Book). x.stack_approvals) is)
    (only.log ∙ ap (λ (x : Book). x.log) is) few for_moves for_batch

-- ---- what came since a mark

longer_behind : {X : Type 0} (xs ys : List X) → HasBehind xs ys → length ys ≡ length xs + length (drop (length xs) ys)
longer_behind xs ys behind = ap length behind ∙ length-append xs (drop (length xs) ys)

-- a draft with room for what came has room for it since the mark
pub room_behind : {A B : Type 0} (mark : Mark) (old new : Book) (moves : Vec Move A) (batch : Vec Row B) → mark ≡ mark_of old → GoesOn old new → HoldsRoom old new moves batch → HasRoomBehind mark new moves batch
room_behind mark old new moves batch is on room = subst (λ (m : Mark). HasRoomBehind m new moves batch) (sym is) (record {
  of_moves = (room.moves_empty, let m = room.moves_room in omega (arith, m));
  of_batch = (room.batch_empty, let b = room.batch_room in omega (arith, b, requests, cargo, history, loaded, steps, executions, records));
})
  where
    requests : length new.requests ≡ length old.requests + length (drop (length old.requests) new.requests)
    requests = longer_behind old.requests new.requests on.requests

    cargo : cargo_length new.requests ≡ cargo_length old.requests + cargo_length (drop (length old.requests) new.requests)
    cargo =
        ap cargo_length on.requests ∙ ap length (flat_map-append cargo_of old.requests (drop (length old.requests) new.requests))
        ∙ length-append (flat_map cargo_of old.requests) (flat_map cargo_of (drop (length old.requests) new.requests))

    history : length new.history ≡ length old.history + length (drop (length old.history) new.history)
    history = longer_behind old.history new.history on.history

    loaded : length new.log.loaded ≡ length old.log.loaded + length (drop (length old.log.loaded) new.log.loaded)
    loaded = longer_behind old.log.loaded new.log.loaded on.log.loaded

    steps : length new.log.steps ≡ length old.log.steps + length (drop (length old.log.steps) new.log.steps)
    steps = longer_behind old.log.steps new.log.steps on.log.steps

    executions : length new.log.executions ≡ length old.log.executions + length (drop (length old.log.executions) new.log.executions)
    executions = longer_behind old.log.executions new.log.executions on.log.executions

    records : length new.log.records ≡ length old.log.records + length (drop (length old.log.records) new.log.records)
    records = longer_behind old.log.records new.log.records on.log.records
