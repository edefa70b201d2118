-- There is room for the procedure and its steps, and no request is touched.
use Rattle.std.proofs.Common.{rules}
use Rattle.tc_book.proofs.GoesOnLemmas.{procedure-goes_on}
use Rattle.tc_book.proofs.LogLemmas.{procedure-room}
use Rattle.tc_book.proofs.StepLemmas.{procedure_steps}
use Rattle.tc_book.proofs.acts.load_procedure.load_procedure.Goals as goal

pub returns : goal.returns
returns g c = record {
  answers = search rules;
  room = rw (c.in_ok-load_procedure.ensures.loaded, c.make_room.ensures.same.book)
      (procedure-room c.args.stamp c.args.name c.args.procedure.now c.args.records.now.book c.in_ok-draft.draft.moves c.in_ok-draft.draft.batch c.in_ok-draft.ensures.moves (rw (c.steps-steps.ensures.value) at c.in_ok-draft.ensures.batch));
  goes_on = rw (c.in_ok-load_procedure.ensures.loaded, c.make_room.ensures.same.book) (procedure-goes_on c.args.stamp c.args.name c.args.procedure.now c.args.records.now.book);
  steps = rw (c.in_ok-load_procedure.ensures.loaded, c.make_room.ensures.same.book) (procedure_steps c.args.stamp c.args.name c.args.procedure.now c.args.records.now.book);
}
