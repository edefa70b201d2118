-- What the world's frames and control words stand for in the session as sequence control means it.
use Rattle.std.specs.Prelude.{ℕ, ◌+◌, ◌%◌, ◌==◌, if◌then◌else◌, List, [], ◌∷◌, length}
use Rattle.tc_types.specs.declared.link.frames.Frame.{Frame}
use Rattle.tc_types.specs.declared.link.frames.Frame.TheVariants.{Ad, Unlock, SetVr}
use Rattle.tc_types.specs.declared.link.reports.Report.{Report}
use Rattle.tc_types.specs.declared.link.reports.Report.TheVariants.{Word, Telemetry}
use Rattle.tc_farm.specs.Farm.{distance}
use Rattle.tc_world.specs.Links.{Kind}
use Rattle.tc_world.specs.Logs.{Log}
use Rattle.tc_world.specs.Session.{Session}
use Rattle.tc_world.specs.World.{Whole}

-- a world whose links are seen as what is in flight
abbrev pub Bare : Type 0
Bare = Whole (List Frame) (List Report)

abbrev pub seen : {U D : Type 0} → Kind U Frame → Kind D Report → Whole U D → Bare
seen uplink downlink w = record {
  fop = w.fop;
  farm = w.farm;
  up = uplink.content w.up;
  down = downlink.content w.down;
  past = w.past;
  newest = w.newest;
  clean = w.clean;
  fits = w.fits;
  level = w.level;
  vc = w.vc;
}

-- the first place where a request stands
abbrev pub position_of : ℕ → List ℕ → ℕ
position_of request [] = 0
position_of request (first ∷ others) = if first == request then 0 else position_of request others + 1

-- A frame stands for the position of its request in `sent`; a control command stands for nothing.
abbrev pub positions_in : List ℕ → List Frame → List ℕ
positions_in sent [] = []
positions_in sent (Ad ns request body ∷ frames) = position_of request sent ∷ positions_in sent frames
positions_in sent (Unlock ∷ frames) = positions_in sent frames
positions_in sent (SetVr v ∷ frames) = positions_in sent frames

-- the report value of the 32 bits of a control word
abbrev pub report_value : ℕ → ℕ
report_value word = word % 256

-- A control word stands for the least number from `confirmed` on that, counted from the base, has its report value
-- modulo 256; a report of the spacecraft stands for nothing.
abbrev pub values_in : ℕ → ℕ → List Report → List ℕ
values_in base confirmed [] = []
values_in base confirmed (Word word ∷ items) =
    (confirmed + distance (report_value word) ((base + confirmed) % 256)) ∷ values_in base confirmed items
values_in base confirmed (Telemetry telemetry ∷ items) = values_in base confirmed items

-- a log, with what is in flight
abbrev pub session_with : Log → List ℕ → List ℕ → Session
session_with log up down =
    record { sent = log.sent; accepted = log.accepted; confirmed = log.confirmed; up = up; down = down }

-- The newest session. Until it has started nothing in flight stands for anything.
abbrev pub session_of : Bare → Session
session_of w = session_with w.newest
    (if w.newest.started then positions_in w.newest.sent w.up else [])
    (if w.newest.started then values_in w.newest.base (length w.newest.confirmed) w.down else [])
