-- What is true of the link, the spacecraft and the mirror once something came to a room, whatever its tables hold and its disk gives back.
use Rattle.std.specs.Prelude.{◌≡◌, ◌⊎◌, ℕ, List, [], ◌∷◌}
use Rattle.tc_types.specs.declared.acts.Act.{Act}
use Rattle.tc_types.specs.declared.history.moves.Move.{Move}
use Rattle.tc_types.specs.declared.link.reports.Report.TheVariants as report
use Rattle.tc_types.specs.declared.link.reports.Telemetry.TheVariants as telemetry
use Rattle.tc_types.specs.declared.refusals.Refusal.TheVariants.{Store}
use Rattle.tc_types.specs.ActGrammar.{SpellsAct}
use Rattle.tc_world.specs.declared.events.LinkIndication.{LinkIndication}
use Rattle.tc_world.specs.EitherLink.{either}
use Rattle.tc_world.specs.World.{IsAsBefore}
use Rattle.tc_board.specs.Schedule.{ScheduleState, IsSchedule, summary_of}
use Rattle.tc_board.specs.Mirror.{mirror_of}
use Rattle.tc_desk.specs.declared.firsts.FirstLine.{FirstLine}
use Rattle.tc_desk.specs.Downlink.{KeepsWhole, came_down}
use Rattle.tc_desk.specs.Fair.{IsFairlyTold}
use Rattle.tc_desk.specs.Headline.{TakesAccepted, clean_after}
use Rattle.tc_desk.specs.Replies.{Reply, act_reply, refusal_reply}
use Rattle.tc_room.specs.Joined.{Standing, desk_in}

-- the link, the spacecraft and the mirror are as they were; at most the link has more room
pub record LeavesLink {S : Type 0} (old new : Standing S) : Type 0 where
  pub world : IsAsBefore either either old.desk.world new.desk.world
  pub board : new.desk.board ≡ old.desk.board
  pub mirror : new.desk.mirror ≡ old.desk.mirror
  pub whole : new.whole ≡ old.whole

-- What is true of an act that was carried out, and of what was said of the link then: no alert was told but one that may come, the spacecraft was given what the FARM
-- accepted then, and nothing of the downlink was lost, or the desk is whole no longer. A summary makes the mirror what it carries.
pub record ActsTrue {S : Type 0} (given : Act) (said : List LinkIndication) (old new : Standing S) : Type 0 where
  pub fair : IsFairlyTold old.desk new.desk said
  pub taken : TakesAccepted given old.desk new.desk
  pub clean : new.desk.world.clean ≡ clean_after either either old.desk given
  pub whole : KeepsWhole either given (desk_in old) (desk_in new) said
  pub summary : (s : ScheduleState) → IsSchedule s.activities → came_down said ≡ report.Telemetry (telemetry.Summary (summary_of s)) ∷ [] → new.desk.mirror ≡ mirror_of s

-- An act was carried out. The reply tells what was said of the link, or, if the database failed at the act, that it failed.
pub record CarriesOut {S : Type 0} (given : Act) (reply : Reply) (old new : Standing S) : Type 0 where
  pub first : FirstLine
  pub said : List LinkIndication
  pub moves : List Move
  pub told : (reply ≡ act_reply first said moves) ⊎ (reply ≡ refusal_reply Store)
  pub is_true : ActsTrue given said old new

-- An act left the link, the spacecraft and the mirror as they were, or it was carried out.
abbrev pub TellsTrue : {S : Type 0} → Act → Reply → Standing S → Standing S → Type 0
TellsTrue given reply old new = LeavesLink old new ⊎ CarriesOut given reply old new

-- So it is of the act that a text spells, if it spells one.
abbrev pub TellsTextTrue : {S : Type 0} → List ℕ → Reply → Standing S → Standing S → Type 0
TellsTextTrue text reply old new = LeavesLink old new ⊎ ((given : Act) × SpellsAct text given × CarriesOut given reply old new)
