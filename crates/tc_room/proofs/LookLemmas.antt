-- What calls keep to that only look into the tables, and what is called after such a look.
use Rattle.std.proofs.Common.{◌≡◌, Result, sym, subst, ap}
use Rattle.sqlite_trees.specs.declared.store.Store.{Ghosts}
use Rattle.sqlite.specs.Held.{state}
use Rattle.sqlite.specs.State.{HasCleanDisk}
use Rattle.tc_types.specs.declared.refusals.Refusal.{Refusal}
use Rattle.tc_book.specs.Good.{IsGoodBook}
use Rattle.tc_world.specs.EitherLink.{either}
use Rattle.tc_desk.specs.Promise.{KeepsPromise}
use Rattle.tc_room.specs.declared.calls.Called.{Called}
use Rattle.tc_room.specs.Calls.{KeepsCall, StopsCalled}
use Rattle.tc_room.specs.Joined.{IsKept, Standing, desk_in}
use Rattle.tc_room.specs.Room.{LooksOnly, Stops}
use Rattle.tc_room.proofs.RoomLemmas.{kept_book}

-- a look leaves the desk, and what is true of it
pub looks_by : {X S : Type 0} (g : Ghosts S) (old new : Standing S) (result : Result X Refusal) → Stops old result new → desk_in new ≡ desk_in old
    → (HasCleanDisk (state g new.tables) → HasCleanDisk (state g old.tables)) → KeepsPromise either (desk_in old) → IsGoodBook old.desk.book → LooksOnly g old result new
looks_by g old new result stops same clean promise good = record {
  keeps = record {
    stops = stops;
    opened = ap (λ desk. desk.opened) same;
    promise = subst (KeepsPromise either) (sym same) promise;
    kept = subst (λ desk. IsKept desk.parts.book) (sym same) (kept_book old.desk.book good);
  };
  leaves = record { desk = same; clean = clean };
}

-- what the look answers is what is told
pub keeps_told : {X S : Type 0} (g : Ghosts S) (old new : Standing S) (called : Called) (result : Result X Refusal) → LooksOnly g old result new → StopsCalled old called new
    → KeepsCall g old called new
keeps_told g old new called result looks stops = record { stops = stops; promise = looks.keeps.promise; kept = looks.keeps.kept; clean = looks.leaves.clean }

-- nothing was found, and it is asked anew
pub keeps_anew : {X S : Type 0} (g : Ghosts S) (old found new : Standing S) (called : Called) (result : Result X Refusal) → LooksOnly g old result found → StopsCalled old called new
    → KeepsCall g found called new → KeepsCall g old called new
keeps_anew g old found new called result looks stops keeps =
    record { stops = stops; promise = keeps.promise; kept = keeps.kept; clean = λ clean. looks.leaves.clean (keeps.clean clean) }
