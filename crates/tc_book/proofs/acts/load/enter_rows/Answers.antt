-- The next row may follow those that were entered.
use Rattle.std.proofs.Common.{◌≡◌, ◌+◌, length, take, sym, ◌∙◌, ap, arith}
use Rattle.std.proofs.lemmas.List.{length-take}
use Rattle.tc_book.specs.Loads.{with_row, origin_of, entry_from}
use Rattle.tc_book.proofs.CountLemmas.{kept_on}
use Rattle.tc_book.proofs.LoadLemmas.{rows_requests, rows_history, next_rows}
use Rattle.tc_book.proofs.GoesOnLemmas.{rows_made}
use Rattle.tc_book.proofs.RowLemmas.{next_named, next_targets, next_origin}
use Rattle.tc_book.proofs.StepLemmas.{entered_more}
use Rattle.tc_book.proofs.acts.load.enter_rows.Goals as goal

pub enter_row-requires-clause-named : goal.enter_row-requires-clause-named
enter_row-requires-clause-named g c = next_named c.args.rows.now c.requires.stack c.loop-at.at c.index-rows-at.result c.loop-at-test.true c.index-rows-at.is

pub enter_row-requires-clause-request_room : goal.enter_row-requires-clause-request_room
enter_row-requires-clause-request_room g c =
    let so_far = rows_requests c.args.stamp.now c.args.name.now (length c.args.records.now.book.requests + 1) 1 c.args.records.now.book (take c.loop-at.at c.args.rows.now) in
    let taken = length-take c.loop-at.at c.args.rows.now in
    let room = c.requires.request_room in
    let low = c.loop-at-test.true in
    let kept = c.loop-at.invariant.1.requests in
    rw (c.loop-at.invariant.0) (grind (arith, so_far, taken, room, low, kept))

pub enter_row-requires-clause-room : goal.enter_row-requires-clause-room
enter_row-requires-clause-room g c =
    let so_far = rows_history c.args.stamp.now c.args.name.now (length c.args.records.now.book.requests + 1) 1 c.args.records.now.book (take c.loop-at.at c.args.rows.now) in
    let taken = length-take c.loop-at.at c.args.rows.now in
    let room = c.requires.room in
    let low = c.loop-at-test.true in
    let kept = c.loop-at.invariant.1.rows in
    rw (c.loop-at.invariant.0) (grind (arith, so_far, taken, room, low, kept))

pub enter_row-requires-clause-stack_room : goal.enter_row-requires-clause-stack_room
enter_row-requires-clause-stack_room g c = λ first.
    let at : c.loop-at.at ≡ 0 = omega (arith, first) in
    let room = c.requires.stack_room in
    let wider = c.loop-at.invariant.1.stacks in
    rw (c.loop-at.invariant.0, at) (omega (arith, room, wider))

pub enter_row-requires-clause-targets : goal.enter_row-requires-clause-targets
enter_row-requires-clause-targets g c =
    rw (c.loop-at.invariant.0, c.count-start.ensures.count)
    (next_targets c.args.stamp.now c.args.name.now c.args.records.now.book c.args.rows.now c.requires.stack c.loop-at.at c.index-rows-at.result c.loop-at-test.true c.index-rows-at.is)

pub enter_row-requires-clause-origin : goal.enter_row-requires-clause-origin
enter_row-requires-clause-origin g c =
    rw (c.loop-at.invariant.0)
    (next_origin c.args.stamp.now c.args.name.now c.args.records.now.book c.args.rows.now c.requires.stack c.loop-at.at c.index-rows-at.result c.loop-at-test.true c.index-rows-at.is c.requires.unused c.keeps_form.ensures)

pub enter_row-requires-clause-unapproved : goal.enter_row-requires-clause-unapproved
enter_row-requires-clause-unapproved g c =
    let made = rows_made c.args.stamp.now c.args.name.now (length c.args.records.now.book.requests + 1) 1 c.args.records.now.book (take c.loop-at.at c.args.rows.now) in
    rw (c.loop-at.invariant.0, made.stack_approvals) c.requires.unapproved

pub loop-at-preserved : goal.loop-at-preserved
loop-at-preserved g c =
    let so_far = c.loop-at.invariant.2 in (
      c.enter_row.ensures.becomes.book
          ∙ ap (λ n. with_row c.args.stamp.now c.args.name.now (n + 1) (c.loop-at.at + 1) c.loop-at.records.book c.index-rows-at.result) c.count-start.ensures.count
          ∙ ap (λ b. with_row c.args.stamp.now c.args.name.now (length c.args.records.now.book.requests + 1) (c.loop-at.at + 1) b c.index-rows-at.result) c.loop-at.invariant.0
          ∙ sym (next_rows c.args.stamp.now c.args.name.now (length c.args.records.now.book.requests + 1) c.args.records.now.book c.args.rows.now c.loop-at.at c.index-rows-at.result c.loop-at-test.true c.index-rows-at.is),
      kept_on _ _ _ c.loop-at.invariant.1 c.enter_row.ensures.becomes.kept,
      entered_more c.args.stamp.now c.args.records.now.book c.loop-at.records.book c.enter_row.new.records.book
          (origin_of c.args.name.now (c.loop-at.at + 1) c.index-rows-at.result) (entry_from (c.count-start.result + 1) c.index-rows-at.result.entry) c.enter_row.ensures.good c.enter_row.ensures.becomes.book so_far,
    )
