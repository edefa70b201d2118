-- The loads of a room.
use Rattle.std.proofs.Common.{◌≡◌, inl, inr, ℕ, Bool, true, false, Ok, Err, Result, List, refl, ap}
use Rattle.std.specs.Prelude.{MatchBool}
use Rattle.sqlite_trees.specs.declared.store.Store.{Ghosts}
use Rattle.sqlite.specs.Held.{state}
use Rattle.sqlite.specs.State.{HasCleanDisk}
use Rattle.tc_types.specs.declared.loads.LoadKind.{LoadKind}
use Rattle.tc_types.specs.declared.history.moves.Move.{Move}
use Rattle.tc_types.specs.declared.refusals.Refusal.{Refusal}
use Rattle.tc_world.specs.declared.events.LinkIndication.{LinkIndication}
use Rattle.tc_book.specs.declared.stamps.Stamp.{Stamp}
use Rattle.tc_desk.specs.declared.firsts.FirstLine.{FirstLine}
use Rattle.tc_desk.specs.Loads.{Loading, HasLoaded, RefusesLoad, LoadStep}
use Rattle.tc_desk.specs.Machine.{rows_new}
use Rattle.tc_desk.specs.Replies.{Reply, act_reply, refusal_reply}
use Rattle.tc_store.specs.Ledgers.{KeptAnswer}
use Rattle.tc_room.specs.Joined.{HoldsBook, LinkState, Standing}
use Rattle.tc_room.specs.Loads.{SpellsLoading, IsNotRead, LoadsRead, LoadsText, RoomLoad, AnswersRead, AnswersLoad}

pub on_false : (b : Bool) (A B : Type 0) → b ≡ false → B → MatchBool b A B
on_false false A B is h = h
on_false true A B is h = absurd (let e : true ≡ false = is in cc)

-- a text that spells nothing of its kind
pub load_unread : {S : Type 0} (g : Ghosts S) (old : Standing S) (stamp : Stamp) (kind : LoadKind) (name text : List ℕ) (refusal : Refusal) → old.stopped ≡ false → IsNotRead kind text refusal
    → RoomLoad g old stamp kind name text (refusal_reply refusal) old
load_unread g old stamp kind name text refusal going why = λ replies held clean. rw going (inl (refusal, why, refl, refl))

-- what one spells that does
load_read : {S : Type 0} (g : Ghosts S) (replies : List KeptAnswer) (old new : Standing S) (stamp : Stamp) (kind : LoadKind) (name text : List ℕ) (given : Loading) (reply : Reply) → SpellsLoading kind name text given
    → LoadsRead g replies old stamp given reply new → LoadsText g replies old stamp kind name text reply new
load_read g replies old new stamp kind name text given reply spells (inl steps) = inr (given, spells, inl (record { desk = steps.desk; tables = steps.tables; opened = steps.opened; whole = steps.whole; going = steps.going }))
load_read g replies old new stamp kind name text given reply spells (inr fails) =
    inr (given, spells, inr (record { free = fails.free; reply = fails.reply; stopped = fails.stopped; tables = fails.tables; crash = fails.crash; opened = fails.opened; whole = fails.whole }))

-- and the answer to it
pub load_answered : {X S : Type 0} (lines : X → Reply) (g : Ghosts S) (old new : Standing S) (stamp : Stamp) (kind : LoadKind) (name text : List ℕ) (given : Loading) (answer : Result X Refusal) → old.stopped ≡ false
    → SpellsLoading kind name text given → ((replies : List KeptAnswer) → HoldsBook g old replies → HasCleanDisk (state g new.tables) → AnswersRead lines g replies old stamp given new answer) → AnswersLoad lines g old stamp kind name text new answer
load_answered lines g old new stamp kind name text given (Ok done) going spells loads = λ replies held clean. on_false old.stopped _ _ going (load_read g replies old new stamp kind name text given (lines done) spells (loads replies held clean))
load_answered lines g old new stamp kind name text given (Err refusal) going spells loads = λ replies held clean. on_false old.stopped _ _ going (load_read g replies old new stamp kind name text given (refusal_reply refusal) spells (loads replies held clean))

-- the desk refused
pub load_refused : (old new : LinkState) (stamp : Stamp) (given : Loading) (refusal : Refusal) → RefusesLoad stamp given old new refusal
    → LoadStep old stamp given (refusal_reply refusal) new
load_refused old new stamp given refusal why = inr (refusal, why, refl)

-- the desk loaded it
pub load_carried : (old new : LinkState) (stamp : Stamp) (given : Loading) (line : FirstLine) (said : List LinkIndication) (moves : List Move)
    → HasLoaded stamp given old new said line → moves ≡ rows_new old new → LoadStep old stamp given (act_reply line said moves) new
load_carried old new stamp given line said moves has are = inl (record { line = line; all = said; has = has; reply = ap (act_reply line said) are })
