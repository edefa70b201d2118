-- An opening changes the history alone, and there is room for its rows.
use Rattle.std.proofs.Common.{◌≡◌, ◌+◌, ◌≤◌, ◌∙◌, length, ap, sym, subst, arith}
use Rattle.std.specs.Prelude.{count_by}
use Rattle.tc_types.specs.declared.requests.Request.{Request}
use Rattle.tc_book.specs.declared.marks.Mark.{Mark}
use Rattle.tc_book.specs.Batch.{GoesOn}
use Rattle.tc_book.specs.Book.{Book, stands}
use Rattle.tc_book.specs.Opening.{opened_places, opened_book}
use Rattle.tc_book.proofs.CarriedLemmas.{cargo_past}
use Rattle.tc_book.proofs.OpeningLemmas.{opened-goes_on, fits_mark, same_mark}
use Rattle.tc_book.proofs.openings.write_opening.Goals as goal

pub fill-requires-clause-mark : goal.fill-requires-clause-mark
fill-requires-clause-mark g c =
    let made : c.open_again.new.self.book ≡ opened_book c.args.moment c.args.records.now.book = c.open_again.ensures.becomes.book ∙ ap (opened_book c.args.moment) c.make_room.ensures.same.book in
    fits_mark c.args.moment c.args.records.now.book c.open_again.new.self.book c.mark-mark.result c.mark-mark.ensures.mark made

pub fill-requires-clause-room : goal.fill-requires-clause-room
fill-requires-clause-room g c =
    let made : c.open_again.new.self.book ≡ opened_book c.args.moment c.args.records.now.book = c.open_again.ensures.becomes.book ∙ ap (opened_book c.args.moment) c.make_room.ensures.same.book in
    let same = same_mark c.args.moment c.args.records.now.book c.open_again.new.self.book c.mark-mark.result c.mark-mark.ensures.mark made in
    let rows : length c.open_again.new.self.book.history ≤ length c.args.records.now.book.history + count_by (λ (r : Request). stands c.args.records.now.book r.number opened_places) c.args.records.now.book.requests =
    subst (λ (b : Book). length c.open_again.new.self.book.history ≤ length b.history + count_by (λ (r : Request). stands b r.number opened_places) b.requests) c.make_room.ensures.same.book c.open_again.ensures.rows in
    let count = c.count_opened-count.ensures.count in
    let before = ap (λ (m : Mark). m.rows) c.mark-mark.ensures.mark in
    let requests = same.requests in
    let procedures = same.procedures in
    let steps = same.steps in
    let executions = same.executions in
    let records = same.records in
    let moves = c.in_ok-draft.ensures.moves.1 in
    let batch = c.in_ok-draft.ensures.batch.1 in
    let none = cargo_past c.mark-mark.result.requests c.open_again.new.self.book.requests (omega (arith, requests)) in
    record {
      of_moves = (c.in_ok-draft.ensures.moves.0, omega (arith, rows, count, before, moves));
      of_batch = (c.in_ok-draft.ensures.batch.0, omega (arith, rows, count, before, requests, procedures, steps, executions, records, batch, none));
    }

pub returns-clause-batch : goal.returns-clause-batch
returns-clause-batch g c =
    let made : c.open_again.new.self.book ≡ opened_book c.args.moment c.args.records.now.book = c.open_again.ensures.becomes.book ∙ ap (opened_book c.args.moment) c.make_room.ensures.same.book in
    c.fill.ensures.batch c.args.records.now.book c.mark-mark.ensures.good c.mark-mark.ensures.mark (subst (GoesOn c.args.records.now.book) (sym made) (opened-goes_on c.args.moment c.args.records.now.book))
