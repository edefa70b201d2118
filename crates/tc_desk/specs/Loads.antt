-- The load of a stack or of a procedure: what is answered, and what becomes of the desk. The link and the spacecraft have no part in
-- it.
use Rattle.std.specs.Prelude.{◌≡◌, ◌⊎◌, ℕ, Bool, Some, None, IfOk, Ok, Err, Result, List, []}
use Rattle.tc_types.specs.declared.refusals.Refusal.{Refusal}
use Rattle.tc_types.specs.declared.refusals.Refusal.TheVariants.{Memory}
use Rattle.tc_stack.specs.declared.stacks.StackRow.{StackRow}
use Rattle.tc_proc.specs.declared.procedures.Step.{Step}
use Rattle.tc_world.specs.declared.events.LinkIndication.{LinkIndication}
use Rattle.tc_book.specs.declared.stamps.Stamp.{Stamp}
use Rattle.tc_book.specs.declared.firsts.First.{First as BookFirst}
use Rattle.tc_book.specs.Book.{Book}
use Rattle.tc_book.specs.Good.{IsGoodBook}
use Rattle.tc_book.specs.Steps.{HasSteps}
use Rattle.tc_book.specs.Acts.{first_refusal}
use Rattle.tc_book.specs.Loads.{load_tests, loaded, load_first}
use Rattle.tc_book.specs.Logs.{procedure_tests, procedure_loaded, procedure_first}
use Rattle.tc_desk.specs.declared.firsts.FirstLine.{FirstLine}
use Rattle.tc_desk.specs.declared.firsts.FirstLine.TheVariants as first
use Rattle.tc_desk.specs.declared.dones.Done.{Done}
use Rattle.tc_desk.specs.Machine.{MakesRows, rows_new}
use Rattle.tc_desk.specs.Replies.{Reply, act_reply, refusal_reply}
use Rattle.tc_desk.specs.State.{State}

-- what is loaded under a name: the rows of a stack, or the steps of a procedure
pub data Loading : Type 0 where
  Stack : List ℕ → List StackRow → Loading
  Procedure : List ℕ → List Step → Loading

-- its tests, in order; what the book becomes; how the reply begins
abbrev pub tests_of_load : Stamp → Book → Loading → List (Bool × Refusal)
tests_of_load stamp book (Stack name rows) = load_tests stamp book name rows
tests_of_load stamp book (Procedure name steps) = procedure_tests book name steps

abbrev pub loaded_with : Stamp → Loading → Book → Book
loaded_with stamp (Stack name rows) book = loaded stamp name rows book
loaded_with stamp (Procedure name steps) book = procedure_loaded stamp name steps book

abbrev pub first_of_load : Book → Loading → BookFirst
first_of_load book (Stack name rows) = load_first book name rows
first_of_load book (Procedure name steps) = procedure_first name steps

-- No test refuses the load. The book has what was loaded, and nothing else changed; nothing is told, and the reply begins so.
pub record HasLoaded {U D : Type 0} (stamp : Stamp) (given : Loading) (old new : State U D) (all : List LinkIndication) (line : FirstLine) : Type 0 where
  pub free : first_refusal (tests_of_load stamp old.book given) ≡ None
  pub is : new ≡ record old { book = loaded_with stamp given old.book }
  pub silent : all ≡ []
  pub begins : line ≡ first.Book (first_of_load old.book given)

-- Why a load is refused: the first of its tests that holds says so, or memory was refused where none holds. Nothing changed.
pub record RefusesLoad {U D : Type 0} (stamp : Stamp) (given : Loading) (old new : State U D) (refused : Refusal) : Type 0 where
  pub why : (first_refusal (tests_of_load stamp old.book given) ≡ Some refused)
      ⊎ ((first_refusal (tests_of_load stamp old.book given) ≡ None) × (refused ≡ Memory))
  pub same : new ≡ old

-- a load is refused, or no test of it holds and it is carried out
abbrev pub LoadAnswers : {X U D : Type 0} → (X → List LinkIndication) → (X → FirstLine) → State U D → Stamp → Loading → State U D → Result X Refusal → Type 0
LoadAnswers all first old stamp given new (Ok done) = HasLoaded stamp given old new (all done) (first done)
LoadAnswers all first old stamp given new (Err refused) = RefusesLoad stamp given old new refused

-- What a load does, whatever is answered: the book goes on by steps to a good one; and what was made are the rows that came, and the
-- batch that writes what was loaded.
pub record TakesLoad {A U D : Type 0} (stamp : Stamp) (given : Loading) (old new : State U D) (result : Result (Done A) Refusal) : Type 0 where
  pub answers : LoadAnswers (λ done. done.said) (λ done. done.first) old stamp given new result
  pub steps : HasSteps stamp old.book new.book
  pub made : IfOk result (λ done. MakesRows old new done.moves.items done.batch.items)
  pub good : IsGoodBook new.book

-- a load was carried out, and its reply tells so, and the rows that came
pub record CarriesLoad {U D : Type 0} (old : State U D) (stamp : Stamp) (given : Loading) (told : Reply) (new : State U D) : Type 0 where
  pub line : FirstLine
  pub all : List LinkIndication
  pub has : HasLoaded stamp given old new all line
  pub reply : told ≡ act_reply line all (rows_new old new)

-- One step of the desk machine: something is loaded, or refused.
abbrev pub LoadStep : {U D : Type 0} → State U D → Stamp → Loading → Reply → State U D → Type 0
LoadStep old stamp given reply new =
    CarriesLoad old stamp given reply new
    ⊎ ((refused : Refusal) × RefusesLoad stamp given old new refused × (reply ≡ refusal_reply refused))
