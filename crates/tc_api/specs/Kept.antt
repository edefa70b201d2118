-- What exchanges leave of a room, one after the other.
use Rattle.std.specs.Prelude.{◌≡◌, ◌⊎◌, ℕ, true, false, Option, Some, None, Ok, List, [], ◌∷◌, ◌++◌}
use Rattle.sqlite_trees.specs.Tree.{Trees}
use Rattle.sqlite_trees.specs.declared.store.Store.{Ghosts}
use Rattle.sqlite.specs.Held.{state}
use Rattle.sqlite.specs.State.{HasCleanDisk}
use Rattle.tc_types.specs.declared.acts.Act.{Act}
use Rattle.tc_types.specs.declared.history.moves.Move.{Move}
use Rattle.tc_types.specs.declared.refusals.Refusal.TheVariants.{Store, Stopped}
use Rattle.tc_book.specs.declared.stamps.Stamp.{Stamp}
use Rattle.tc_desk.specs.Promise.{KeepsPromise}
use Rattle.tc_desk.specs.Replies.{Reply, refusal_reply}
use Rattle.tc_world.specs.declared.configs.Config.{Config}
use Rattle.tc_world.specs.EitherLink.{either}
use Rattle.tc_store.specs.Ledgers.{KeptAnswer, Ledger}
use Rattle.tc_store.specs.Told.{IsTold}
use Rattle.tc_front.specs.declared.paths.Post.TheVariants as paths
use Rattle.tc_front.specs.Front.{Asked, asks, posts, refuses, shows, tells}
use Rattle.tc_room.specs.Calls.{FailsOnce, KeepsAll, Makes, Making, kept_for}
use Rattle.tc_room.specs.Crash.{HasRows, Leaves, ledger_of}
use Rattle.tc_room.specs.Joined.{HoldsBook, IsKept, Standing, desk_in}
use Rattle.tc_room.specs.Replies.{ended}
use Rattle.tc_room.specs.Opening.{OpensLeft, OpensTo}
use Rattle.tc_room.specs.Room.{FailsStore}
use Rattle.tc_room.specs.declared.callers.Caller.{Caller}
use Rattle.tc_api.specs.Acts.{ActCall, JudgesActPost}
use Rattle.tc_api.specs.Exchange.{response_to}
use Rattle.tc_api.specs.Loads.{JudgesLoadPost, LoadCall}
use Rattle.tc_api.specs.Serving.{FindsNoMemory, Outcome, Serves}

-- The database failed at what was asked, be it a question or what was called: the tables hold the book and the replies as they were before, where the database is
-- still open, and after a crash they hold that, or what was called is there as a whole with its reply.
abbrev pub FailsTables : {S : Type 0} → Ghosts S → List KeptAnswer → Standing S → Standing S → Type 0
FailsTables g replies old new =
    ((stamp : Stamp) × (given : Act) × (reply : Reply) × FailsStore g replies old stamp given reply new)
    ⊎ ((caller : Caller) × (making : Making) × (reply : Reply) × FailsOnce g replies caller (Makes old.desk making) old reply new)

-- What an exchange leaves of the tables of a room: those that held its book hold it, and each reply that was kept is kept still, or the database failed; and a
-- room that had stopped is as it was.
pub record KeepsTables {S : Type 0} (g : Ghosts S) (old new : Standing S) : Type 0 where
  pub held : (replies : List KeptAnswer) → HoldsBook g old replies → (after : List KeptAnswer) × KeepsAll replies after × HoldsBook g new after
  pub failed : (replies : List KeptAnswer) → HoldsBook g old replies → HasCleanDisk (state g new.tables) → old.stopped ≡ false → new.stopped ≡ true → FailsTables g replies old new
  pub stays : HasCleanDisk (state g new.tables) → old.stopped ≡ true → new ≡ old

-- what was read of a connection is served, and where nothing was read the room is as it was
abbrev pub ServesRead : {S : Type 0} → Ghosts S → Standing S → Option Asked → Standing S → Type 0
ServesRead g old None new = new ≡ old
ServesRead g old (Some asked) new = (since : ℕ) × (outcome : Outcome) × Serves since g old asked outcome new

-- One exchange, whatever it answers: what was read is served, the promise is kept, and the book is one that a room keeps.
pub record ServesOne {S : Type 0} (g : Ghosts S) (old : Standing S) (read : Option Asked) (new : Standing S) : Type 0 where
  pub served : ServesRead g old read new
  pub opened : new.opened ≡ old.opened
  pub promise : KeepsPromise either (desk_in new)
  pub kept : IsKept new.desk.book

-- exchanges, one after the other, of which these were read
abbrev pub ServesAll : {S : Type 0} → Ghosts S → Standing S → List (Option Asked) → Standing S → Type 0
ServesAll g old [] new = new ≡ old
ServesAll {S} g old (read ∷ others) new = (next : Standing S) × ServesOne g old read next × ServesAll g next others new

-- The database failed at one of them: until then the promise was kept, and of the tables it is as after any answer 31.
pub record FailedAt {S : Type 0} (g : Ghosts S) (replies : List KeptAnswer) (start : Standing S) (reads : List (Option Asked)) (end : Standing S) : Type 0 where
  pub before : List (Option Asked)
  pub read : Option Asked
  pub after : List (Option Asked)
  pub among : reads ≡ before ++ read ∷ after
  pub last : Standing S
  pub next : Standing S
  pub to_last : ServesAll g start before last
  pub one : ServesOne g last read next
  pub to_end : ServesAll g next after end
  pub held : List KeptAnswer
  pub keeps : KeepsAll replies held
  pub promise : KeepsPromise either (desk_in last)
  pub going : last.stopped ≡ false
  pub stopped : next.stopped ≡ true
  pub failed : HasCleanDisk (state g next.tables) → FailsTables g held last next

-- After these exchanges the promise is kept; and tables that held the book hold it, with each reply that was kept, until the database failed.
pub record KeepsRoom {S : Type 0} (g : Ghosts S) (start : Standing S) (reads : List (Option Asked)) (end : Standing S) : Type 0 where
  pub opened : end.opened ≡ start.opened
  pub promise : KeepsPromise either (desk_in end)
  pub held : (replies : List KeptAnswer) → HoldsBook g start replies → (after : List KeptAnswer) × KeepsAll replies after × HoldsBook g end after
  pub failed : (replies : List KeptAnswer) → HoldsBook g start replies → start.stopped ≡ false → end.stopped ≡ true → FailedAt g replies start reads end

-- ---- a call that comes twice

-- what was posted was called by this caller: an act or a question, or a load
abbrev pub IsCallOf : Caller → Asked → Type 0
IsCallOf caller (refuses why) = ⊥
IsCallOf caller (asks query) = ⊥
IsCallOf caller shows = ⊥
IsCallOf caller tells = ⊥
IsCallOf caller (posts paths.Acts body) = (call : ActCall) × JudgesActPost body (Ok call) × (call.caller ≡ caller)
IsCallOf caller (posts paths.Stacks body) = (call : LoadCall) × JudgesLoadPost body (Ok call) × (call.caller ≡ caller)
IsCallOf caller (posts paths.Procedures body) = (call : LoadCall) × JudgesLoadPost body (Ok call) × (call.caller ≡ caller)

-- an exchange that called so, over a disk that gave back what was written; its book is one that a room keeps, as each exchange has it (`ServesOne`)
pub record Called {S : Type 0} (g : Ghosts S) (caller : Caller) (old : Standing S) (outcome : Outcome) (new : Standing S) : Type 0 where
  pub since : ℕ
  pub asked : Asked
  pub serves : Serves since g old asked outcome new
  pub calls : IsCallOf caller asked
  pub clean : HasCleanDisk (state g new.tables)
  pub kept : IsKept new.desk.book

-- what comes between: exchanges, and openings of the next room over what the one before left
pub data Stage : Type 0 where
  exchange : Option Asked → Stage
  opening : Stage

-- an opening that was refused: with which choice and at which moment it was tried
pub record Refused : Type 0 where
  pub config : Config
  pub moment : ℕ

-- These openings were refused one after the other. Each left what it found, or, if a crash ended it, the whole of what it makes of the rows that it found.
abbrev pub RefusesAll : Trees → List Refused → Trees → Type 0
RefusesAll from [] left = left ≡ from
RefusesAll from (refused ∷ others) left =
    (mid : Trees) × ((mid ≡ from) ⊎ ((ledger : Ledger) → HasRows from ledger → OpensTo refused.config refused.moment ledger mid)) × RefusesAll mid others left

-- The next room was opened at a moment over tables that a crash, or the end of the program, may have left of the last one's, and openings that were refused of these,
-- whichever rows they are read as. The disk had given back what was written. Its book is one that a room keeps, as that of each room is.
pub record OpensNext {S : Type 0} (g : Ghosts S) (last next : Standing S) : Type 0 where
  pub config : Config
  pub moment : ℕ
  pub moves : List Move
  pub from : Trees
  pub clean : HasCleanDisk (state g last.tables)
  pub left : ∥ (state g last.tables).may_leave from ∥₁
  pub refused : List Refused
  pub trees : Trees
  pub refuses_all : RefusesAll from refused trees
  pub opened : (ledger : Ledger) → IsTold ledger.image → HasRows trees ledger → OpensLeft g config moment ledger moves next
  pub kept : IsKept next.desk.book

-- from one room to another, one stage after the other
abbrev pub GoesThrough : {S : Type 0} → Ghosts S → Standing S → List Stage → Standing S → Type 0
GoesThrough g start [] end = end ≡ start
GoesThrough {S} g start (exchange read ∷ others) end = (next : Standing S) × ServesOne g start read next × GoesThrough g next others end
GoesThrough {S} g start (opening ∷ others) end = (next : Standing S) × OpensNext g start next × GoesThrough g next others end

-- The database failed as the kept replies were looked for: the room stops, its desk is as it was, and its files hold what they held, so nothing was done.
pub record StopsWithNothing {S : Type 0} (g : Ghosts S) (replies : List KeptAnswer) (old : Standing S) (told : Reply) (new : Standing S) : Type 0 where
  pub reply : told ≡ refusal_reply Store
  pub stopped : new.stopped ≡ true
  pub desk : desk_in new ≡ desk_in old
  pub files : Leaves g new.tables (λ ledger. ledger ≡ ledger_of old.desk.book replies)

-- The answer to a call that came again is the response of the first, byte for byte; or the room has stopped, or stops here, and says so; or there was no memory to read
-- what was posted. Nothing is done in any of these.
abbrev pub IsTheSame : {S : Type 0} → Ghosts S → List KeptAnswer → Outcome → Standing S → Outcome → Standing S → Type 0
IsTheSame g replies first old again new =
    ((response_to again ≡ response_to first) × (new.desk ≡ old.desk))
    ⊎ (((again.reply ≡ refusal_reply Stopped) × (new ≡ old)) ⊎ (StopsWithNothing g replies old again.reply new ⊎ FindsNoMemory old again new))

-- where the reply of the first is among the replies that are kept
abbrev pub IsRepeated : {S : Type 0} → Ghosts S → Caller → Outcome → Standing S → Outcome → Standing S → Type 0
IsRepeated g caller first old again new = (replies : List KeptAnswer) × (kept_for replies caller ≡ Some (ended first.reply)) × IsTheSame g replies first old again new

-- A call was accepted: whatever comes then, if it comes again it is not done again.
pub record IsDoneOnce {S : Type 0} (g : Ghosts S) (caller : Caller) (first : Outcome) (next : Standing S) : Type 0 where
  pub again : (stages : List Stage) (last : Standing S) → GoesThrough g next stages last → (again : Outcome) (end : Standing S) → Called g caller last again end
      → ∥ IsRepeated g caller first last again end ∥₁
