-- The batch is what came since the mark: argued as in load_procedure, over the names of its own calls.
use Rattle.std.proofs.Common.{◌≡◌, ◌∙◌, [], Err, ap, arith, subst, sym, rules}
use Rattle.tc_types.specs.Tables.{applied}
use Rattle.tc_book.specs.Batch.{mark_of, GoesOn}
use Rattle.tc_book.specs.Good.{IsGoodBook}
use Rattle.tc_book.specs.Steps.{HasSteps}
use Rattle.tc_book.specs.Tables.{image_of}
use Rattle.tc_desk.specs.State.{State}
use Rattle.tc_desk.proofs.RoomLemmas.{room_behind}
use Rattle.tc_desk.proofs.parts.Parts.load_stack.Goals as goal

pub fill-filled-requires-clause-room : goal.fill-filled-requires-clause-room
fill-filled-requires-clause-room g c =
    room_behind c.mark-mark.result c.self.inside.records.book c.load.new.records.book c.in_ok-draft.draft.moves c.in_ok-draft.draft.batch c.mark-mark.ensures.mark c.in_ok-draft.ensures.loaded.goes_on c.in_ok-draft.ensures.loaded.room

pub returns : goal.returns
returns g c =
    let mark = c.mark-mark.ensures.mark ∙ ap (λ (at : State g.row.U.Denot g.row.D.Denot). mark_of at.book) c.self.view_is in
    let good = subst (λ (at : State g.row.U.Denot g.row.D.Denot). IsGoodBook at.book) c.self.view_is c.mark-mark.ensures.good in
    let on = subst (λ (at : State g.row.U.Denot g.row.D.Denot). GoesOn at.book c.load.new.records.book) c.self.view_is c.in_ok-draft.ensures.loaded.goes_on in
    record {
      answers = search rules;
      steps = subst (λ (at : State g.row.U.Denot g.row.D.Denot). HasSteps c.args.stamp at.book c.load.new.records.book) c.self.view_is c.in_ok-draft.ensures.loaded.steps;
      made = record {
        moves = search rules;
        batch = ap (λ items. applied items (image_of c.args.self.now.book)) c.answer.ensures.batch ∙ c.fill-filled.ensures.batch c.args.self.now.book good mark on;
      };
      good = search rules;
    }

-- a refusal changes nothing
pub returns-in_err-draft : goal.returns-in_err-draft
returns-in_err-draft g c = record {
  answers = search rules;
  steps = subst (λ (at : State g.row.U.Denot g.row.D.Denot). HasSteps c.args.stamp at.book c.load.new.records.book) c.self.view_is (record { over = []; steps = c.in_err-draft.ensures.loaded.answers.1 });
  made = let gone : c.from_residual.result ≡ Err c.in_err-draft.field-0.0 = grind arith in rw gone tt;
  good = subst IsGoodBook (sym c.in_err-draft.ensures.loaded.answers.1) c.mark-mark.ensures.good;
}
