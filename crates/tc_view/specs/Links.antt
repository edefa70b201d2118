-- How the link stands, in the words of the wall; and the on-board schedule.
use Rattle.std.specs.Prelude.{◌≡◌, length, IsPermutation, IsSortedBy}
use Rattle.tc_farm.specs.declared.farms.FarmState.{FarmState}
use Rattle.tc_farm.specs.declared.farms.FarmState.TheVariants as farm
use Rattle.tc_farm.specs.declared.farms.FarmView.{FarmView}
use Rattle.tc_fop.specs.declared.signals.FopState.{FopState}
use Rattle.tc_fop.specs.declared.signals.FopState.TheVariants as fop
use Rattle.tc_fop.specs.declared.views.FopView.{FopView}
use Rattle.tc_board.specs.Mirror.{MirrorState}
use Rattle.tc_board.specs.Schedule.{is_before}
use Rattle.tc_desk.specs.declared.statuses.LinkStatus.{LinkStatus}
use Rattle.tc_wall.specs.declared.walls.ShownSchedule.{ShownSchedule}
use Rattle.tc_wall.specs.declared.links.FarmLine.{FarmLine}
use Rattle.tc_wall.specs.declared.links.FarmWord.{FarmWord}
use Rattle.tc_wall.specs.declared.links.FarmWord.TheVariants as farm_word
use Rattle.tc_wall.specs.declared.links.FopLine.{FopLine}
use Rattle.tc_wall.specs.declared.links.FopWord.{FopWord}
use Rattle.tc_wall.specs.declared.links.FopWord.TheVariants as fop_word
use Rattle.tc_wall.specs.declared.links.LinkLines.{LinkLines}

abbrev pub fop_word_of : FopState → FopWord
fop_word_of fop.Active = fop_word.Active
fop_word_of fop.RetransmitWithoutWait = fop_word.RetransmitWithoutWait
fop_word_of fop.RetransmitWithWait = fop_word.RetransmitWithWait
fop_word_of fop.InitialisingWithoutBc = fop_word.InitialisingWithoutBc
fop_word_of fop.InitialisingWithBc = fop_word.InitialisingWithBc
fop_word_of fop.Initial = fop_word.Initial

abbrev pub farm_word_of : FarmState → FarmWord
farm_word_of farm.Open = farm_word.Open
farm_word_of farm.Wait = farm_word.Wait
farm_word_of farm.Lockout = farm_word.Lockout

abbrev pub fop_line_of : FopView → FopLine
fop_line_of v = record {
  state = fop_word_of v.state;
  vs = v.vs;
  nn = v.nn;
  sent = v.sent;
  waiting = v.waiting;
  count = v.count;
  timer = v.timer;
  k = v.k;
  t1 = v.t1;
  limit = v.limit;
}

abbrev pub farm_line_of : FarmView → FarmLine
farm_line_of v = record {
  state = farm_word_of v.state;
  vr = v.vr;
  farm_b = v.farm_b;
  lockout = v.lockout;
  wait = v.wait;
  retransmit = v.retransmit;
  window = v.window;
}

-- what the question `link` is answered
abbrev pub link_of : LinkStatus → LinkLines
link_of s = record {
  fop = fop_line_of s.fop;
  farm = farm_line_of s.farm;
  up = s.up;
  down = s.down;
  clean = s.clean;
}

-- what the question `schedule` is answered: the activities of the mirror by time, application process and count
pub record IsScheduleOf (mirror : MirrorState) (told : ShownSchedule) : Type 0 where
  pub enabled : told.enabled ≡ mirror.enabled
  pub all : IsPermutation mirror.activities told.activities.now
  pub ordered : IsSortedBy (λ a b. is_before a.time a.identity b.time b.identity) told.activities.now
  pub laid_in : told.laid_in ≡ length mirror.activities
