-- What a loop leaves of the room that it serves.
use Rattle.std.specs.Prelude.{Option, List, [], ◌∷◌, ◌++◌, refl}
use Rattle.std.proofs.Common.{subst}
use Rattle.sqlite_trees.specs.declared.store.Store.{Ghosts}
use Rattle.tc_front.specs.Front.{Asked}
use Rattle.tc_room.specs.Joined.{Standing}
use Rattle.tc_api.specs.Each.{CallsOnce}
use Rattle.tc_api.specs.Kept.{KeepsRoom, ServesAll}

-- A room came to another by exchanges, one after the other.
pub record ServesSome {S : Type 0} (g : Ghosts S) (old new : Standing S) : Type 0 where
  pub reads : List (Option Asked)
  pub serves : ServesAll g old reads new

-- A loop's exchanges, and what they leave of the room: the promise is kept, and tables that held the book hold it, with each reply that was
-- kept, until the database failed. Calls are done once.
pub record ServesLoop {S : Type 0} (g : Ghosts S) (start end : Standing S) : Type 0 where
  pub reads : List (Option Asked)
  pub serves : ServesAll g start reads end
  pub keeps : KeepsRoom g start reads end
  pub once : CallsOnce g start reads

-- The laws that a client cites.

-- no exchange
pub serves_none : {S : Type 0} (g : Ghosts S) (room : Standing S) → ServesSome g room room
serves_none g room = record { reads = []; serves = refl }

all_more : {S : Type 0} (g : Ghosts S) (start mid end : Standing S) (reads more : List (Option Asked)) → ServesAll g start reads mid
    → ServesAll g mid more end → ServesAll g start (reads ++ more) end
all_more {S} g start mid end [] more same later = subst (λ (s : Standing S). ServesAll g s more end) same later
all_more g start mid end (read ∷ reads) more (next, one, rest) later = (next, one, all_more g next mid end reads more rest later)

-- some exchanges, and then others
pub serves_more : {S : Type 0} (g : Ghosts S) (start mid end : Standing S) → ServesSome g start mid → ServesSome g mid end → ServesSome g start end
serves_more g start mid end first then =
    record { reads = first.reads ++ then.reads; serves = all_more g start mid end first.reads then.reads first.serves then.serves }
