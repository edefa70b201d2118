-- The FOP's side of the link: the room for one call of the FOP, what such a call writes, and what a control word makes of
-- it.
use Rattle.std.specs.Prelude.{◌≡◌, ℕ, ◌+◌, ◌≤◌, Option, Ok, List, ◌∷◌, ◌++◌, length}
use Rattle.tc_types.specs.declared.link.frames.Frame.{Frame}
use Rattle.tc_types.specs.declared.link.reports.Report.TheVariants as report
use Rattle.tc_farm.specs.declared.clcws.Clcw.{Clcw}
use Rattle.tc_fop.specs.Machine.{Out}
use Rattle.tc_fop.specs.Calls.{Answers, reported}
use Rattle.tc_world.specs.declared.events.LinkIndication.{LinkIndication}
use Rattle.tc_world.specs.declared.events.LinkIndication.TheVariants.{Received}
use Rattle.tc_world.specs.declared.fop_side.FopSide.{FopSide}
use Rattle.tc_world.specs.Links.{Kind, PutsAll}
use Rattle.tc_world.specs.Logs.{noted}
use Rattle.tc_world.specs.Marks.{AreMarked}
use Rattle.tc_world.specs.World.{Reads, told_by_fop}

-- room for what one call of the FOP puts on the uplink and tells, and all marks
pub record HasRoom {U A : Type 0} (covered : U → ℕ) (side : FopSide U A) : Type 0 where
  pub frames : 256 ≤ covered side.up
  pub sent : 257 ≤ side.newest.sent_room
  pub confirmed : 257 ≤ side.newest.confirmed_room
  pub all : 65536 ≤ length side.marks.items

-- what a call writes: what it tells to be sent is marked, and at most 256 frames are put on the uplink
pub record WritesWithin {U A : Type 0} (uplink : Kind U Frame) (old new : FopSide U A) : Type 0 where
  pub marks : (earlier : List ℕ) → AreMarked (earlier ++ old.newest.log.sent) old.marks.items → AreMarked (earlier ++ new.newest.log.sent) new.marks.items
  pub most : length (uplink.content new.up) ≤ length (uplink.content old.up) + 256

-- The word was read on this channel and the FOP answered it: its frames were put on the uplink in order, what it tells
-- was written down and is told behind the word.
pub record Passes {U A : Type 0} (uplink : Kind U Frame) (vc word : ℕ) (old new : FopSide U A) (answer : List LinkIndication) : Type 0 where
  pub heard : Option Clcw
  pub out : Out
  pub reads : Reads word vc heard
  pub answers : Answers (reported old.fop.machine heard) old.fop.machine new.fop.machine (Ok out)
  pub frames : PutsAll uplink old.up out.frames new.up
  pub log : new.newest.log ≡ noted out old.newest.log
  pub answered : answer ≡ Received (report.Word word) ∷ told_by_fop out
