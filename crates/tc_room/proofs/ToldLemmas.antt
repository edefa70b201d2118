-- The columns of a good book's tables tell their rows: each number and name is in form, and the row of an insert has its first activity alone.
use Rattle.std.proofs.Common.{◌≡◌, ◌≢◌, ℕ, ◌<◌, ◌≤◌, Option, Some, None, List, [], ◌∷◌, ◌++◌, length, map, ap, arith}
use Rattle.std.specs.Prelude.{IfSome}
use Rattle.std.specs.List.{AllByRecursion}
use Rattle.tc_types.specs.declared.history.moves.Move.{Move}
use Rattle.tc_types.specs.declared.requests.Command.{Command}
use Rattle.tc_types.specs.declared.requests.Command.TheVariants as command
use Rattle.tc_types.specs.declared.requests.Origin.{Origin}
use Rattle.tc_types.specs.declared.requests.Request.{Request}
use Rattle.tc_types.specs.declared.tables.rows.ProcedureStep.{ProcedureStep}
use Rattle.tc_types.specs.declared.tables.rows.StepRecord.{StepRecord}
use Rattle.tc_types.specs.Grammar.{IsCommand}
use Rattle.tc_types.specs.History.{AllAfter}
use Rattle.tc_types.specs.Names.{IsPerson}
use Rattle.tc_stack.specs.Stacks.{IsEarlier}
use Rattle.tc_book.specs.Book.{Book}
use Rattle.tc_book.specs.Cargoes.{alone, first_alone}
use Rattle.tc_book.specs.Good.{IsGoodBook, IsGoodOrigin, IsGoodRequest}
use Rattle.tc_book.specs.Persons.{NamesRecorders}
use Rattle.tc_book.specs.Tables.{image_of, placed}
use Rattle.tc_store.specs.Told.{IsTold, IsToldCommand, IsToldOrigin, IsToldRecord, IsToldRequest, IsToldStep}

command_told : (c : Command) → IsCommand c → IsToldCommand (first_alone c)
command_told (command.Plain service subtype) known = record { known = known; alone = omega arith }
command_told command.EnableSchedule known = record { known = known; alone = omega arith }
command_told command.DisableSchedule known = record { known = known; alone = omega arith }
command_told command.ResetSchedule known = record { known = known; alone = omega arith }
command_told (command.InsertActivities []) known = absurd (omega (arith, known.0.some))
command_told (command.InsertActivities (ride ∷ rides)) known = record { known = (record { some = omega arith; few = omega arith }, (known.1.0, tt)); alone = omega arith }
command_told (command.DeleteActivity target) known = record { known = known; alone = omega arith }
command_told (command.ShiftActivity target offset) known = record { known = known; alone = omega arith }
command_told (command.ShiftAll offset) known = record { known = known; alone = omega arith }
command_told command.SummarizeAll known = record { known = known; alone = omega arith }

requests_told : (history : List Move) (before xs : List Request) → AllAfter IsGoodRequest before xs → AllByRecursion IsToldRequest (map (placed history) (map alone xs))
requests_told history before [] all = tt
requests_told history before (r ∷ xs) all = (
  record { command = command_told r.body.command all.0.entry.command; outcome = all.0.entry.outcome; origin = by_origin r.origin all.0.origin },
  requests_told history (before ++ r ∷ []) xs all.1,
)
  where
    by_after : (line : ℕ) (after : Option ℕ) → IfSome after (IsEarlier line) → after ≢ Some 0
    by_after line None earlier = λ is. cc
    by_after line (Some named) earlier = λ is. let same : named ≡ 0 = cc in let low = earlier.0 in absurd (omega (arith, same, low))

    by_origin : (origin : Option Origin) → IfSome origin (IsGoodOrigin before r.author) → IfSome origin IsToldOrigin
    by_origin None good = tt
    by_origin (Some o) good = record {
      stack = λ empty. let none = ap length empty in let some = good.named.not_empty in absurd (omega (arith, none, some));
      after = by_after o.line o.after good.after;
    }

steps_told : (k : ℕ) (steps : List ProcedureStep) → AllByRecursion (λ (s : ProcedureStep). IfSome s.request (λ n. (0 < n) × (n ≤ k))) steps → AllByRecursion IsToldStep steps
steps_told k [] all = tt
steps_told k (s ∷ steps) all = (by_request s.request all.0, steps_told k steps all.1)
  where
    by_request : (request : Option ℕ) → IfSome request (λ n. (0 < n) × (n ≤ k)) → request ≢ Some 0
    by_request None named = λ is. cc
    by_request (Some n) named = λ is. let same : n ≡ 0 = cc in let low = named.0 in absurd (omega (arith, same, low))

records_told : (records : List StepRecord) → AllByRecursion NamesRecorders records → AllByRecursion IsToldRecord records
records_told [] all = tt
records_told (r ∷ records) all = (by_second r.second all.0.1, records_told records all.1)
  where
    by_second : (second : Option (List ℕ)) → IfSome second IsPerson → second ≢ Some []
    by_second None person = λ is. cc
    by_second (Some name) person = λ is.
        let same : name ≡ [] = cc in
        let none = ap length same in
        let some = person.0.not_empty in
        absurd (omega (arith, none, some))

pub good_told : (book : Book) → IsGoodBook book → IsTold (image_of book)
good_told book good = record {
  requests = requests_told book.history [] book.requests good.requests;
  steps = steps_told (length book.requests) book.log.steps good.log_named;
  records = records_told book.log.records good.persons.recorders;
}
