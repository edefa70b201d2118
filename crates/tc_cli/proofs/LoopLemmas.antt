-- A loop's exchanges.
use Rattle.std.proofs.Common.{refl, Option, [], ◌∷◌}
use Rattle.sqlite_trees.specs.declared.store.Store.{Ghosts}
use Rattle.tc_desk.specs.Promise.{KeepsPromise}
use Rattle.tc_world.specs.EitherLink.{either}
use Rattle.tc_front.specs.Front.{Asked}
use Rattle.tc_room.specs.Joined.{Standing, desk_in}
use Rattle.tc_api.specs.Kept.{ServesOne}
use Rattle.tc_api.proofs.KeptLemmas.{all_keep}
use Rattle.tc_api.proofs.OnceLemmas.{calls_once}
use Rattle.tc_cli.specs.Looping.{ServesLoop, ServesSome}

-- one exchange
pub serves_one : {S : Type 0} (g : Ghosts S) (old new : Standing S) → (read : Option Asked) × ServesOne g old read new → ServesSome g old new
serves_one g old new one = record { reads = one.0 ∷ []; serves = (new, one.1, refl) }

-- exchanges keep the promise that was kept before, and do calls once
pub loop_serves : {S : Type 0} (g : Ghosts S) (start end : Standing S) → KeepsPromise either (desk_in start) → ServesSome g start end
    → ServesLoop g start end
loop_serves g start end promise some = record {
  reads = some.reads;
  serves = some.serves;
  keeps = all_keep g start end some.reads promise some.serves;
  once = calls_once g start some.reads;
}
