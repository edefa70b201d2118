-- The wall of a room.
use Rattle.std.specs.Prelude.{◌≡◌, ℕ, false, MatchBool, List}
use Rattle.tc_types.specs.declared.refusals.Refusal.{Refusal}
use Rattle.tc_types.specs.declared.refusals.Refusal.TheVariants.{Memory, Stopped}
use Rattle.tc_world.specs.EitherLink.{either}
use Rattle.tc_view.specs.Shown.{IsDeskPage}
use Rattle.tc_room.specs.Joined.{Standing}

-- a room that goes on tells the page of its desk, which was opened at a moment
pub record TellsWall {S : Type 0} (since : ℕ) (room : Standing S) (page : List ℕ) : Type 0 where
  pub going : room.stopped ≡ false
  pub told : IsDeskPage either either (record { since = since; stood = room.opened }) room.desk page

-- it refuses to: one that has stopped says so, and else memory was refused
abbrev pub RefusesWall : {S : Type 0} → Standing S → Refusal → Type 0
RefusesWall room refusal = MatchBool room.stopped (refusal ≡ Stopped) (refusal ≡ Memory)
