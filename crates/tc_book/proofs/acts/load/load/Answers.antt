-- There is room for all rows, no stack that stood has more, and each row is a request that waits for the line that it names.
use Rattle.std.proofs.Common.{rules, sym, ◌∙◌}
use Rattle.tc_book.proofs.GoesOnLemmas.{loaded-goes_on, loaded-room}
use Rattle.tc_book.proofs.InterlockLemmas.{rows_loaded, rows_stay}
use Rattle.tc_book.proofs.NameLemmas.{room_for_stack}
use Rattle.tc_book.proofs.acts.load.load.Goals as goal

pub returns-clause-loaded : goal.returns-clause-loaded
returns-clause-loaded g c = record {
  answers = search rules;
  room = rw (c.enter_rows.ensures.book, c.make_room.ensures.same.book)
      (loaded-room c.args.stamp c.args.name c.rows-rows.result.now c.args.records.now.book c.in_ok-draft.draft.moves c.in_ok-draft.draft.batch c.in_ok-draft.ensures.moves (rw (c.count_cargo.ensures.count) at c.in_ok-draft.ensures.batch));
  goes_on = rw (c.enter_rows.ensures.book, c.make_room.ensures.same.book) (loaded-goes_on c.args.stamp c.args.name c.rows-rows.result.now c.args.records.now.book (sym c.is_loaded.ensures.loaded ∙ c.if-is_loaded.false));
  steps = search rules;
}

pub returns-clause-rows : goal.returns-clause-rows
returns-clause-rows g c = rw (c.enter_rows.ensures.book, c.make_room.ensures.same.book, c.rows-rows.ensures.value) (rows_loaded c.args.stamp c.args.name c.args.stack.now c.args.records.now.book)

pub returns-clause-stays : goal.returns-clause-stays
returns-clause-stays g c = λ later on. rows_stay _ _ _ later on (returns-clause-rows g c)

pub enter_rows-requires-clause-stack_room : goal.enter_rows-requires-clause-stack_room
enter_rows-requires-clause-stack_room g c =
    let few = room_for_stack c.args.records.now.book _ _ (sym c.has_no_room.ensures ∙ c.if-has_no_room.false) in
    c.in_ok-draft.ensures.room.stacks (rw c.make_room.ensures.same.book few)
