-- What flies while every start was good, in the words of the session that is on.
use Rattle.std.specs.Prelude.{◌≡◌, ◌+◌, ◌%◌, ◌<◌, true, false, List, [], ◌∷◌, length}
use Rattle.tc_types.specs.declared.link.frames.Frame.{Frame}
use Rattle.tc_types.specs.declared.link.reports.Report.{Report}
use Rattle.tc_farm.specs.Farm.{is_locked_out}
use Rattle.tc_types.specs.declared.link.frames.Frame.TheVariants.{Ad, Unlock, SetVr}
use Rattle.tc_world.specs.Logs.{Log}
use Rattle.tc_world.specs.Session.{nothing_yet}
use Rattle.tc_world.specs.Abstraction.{Bare, position_of, seen, session_of}
use Rattle.tc_world.specs.Kept.{AreControls, IsInWindow}
use Rattle.tc_world.specs.Links.{Kind}
use Rattle.tc_world.specs.Window.{IsClaimed}
use Rattle.tc_world.specs.World.{Whole}

-- Each type-AD frame carries a request that was sent in this session, under its number: that of the request's position,
-- counted from the base, modulo 256.
abbrev pub AreNumbered : Log → List Frame → Type 0
AreNumbered log [] = Unit {0}
AreNumbered log (Ad number request body ∷ frames) =
    (position_of request log.sent < length log.sent) × (number ≡ (log.base + position_of request log.sent) % 256)
    × AreNumbered log frames
AreNumbered log (Unlock ∷ frames) = AreNumbered log frames
AreNumbered log (SetVr v ∷ frames) = AreNumbered log frames

-- Frames have their numbers. Before the service begins only control commands of this start fly, and nothing stands for
-- anything. What was sent, accepted and confirmed, and the positions and reports in flight, lie within the window.
pub record FliesInOrder (w : Bare) : Type 0 where
  pub numbered : AreNumbered w.newest w.up
  pub unstarted : w.newest.started ≡ false → AreControls w.newest.base w.up × (session_of w ≡ nothing_yet)
  pub bounds : IsInWindow 255 (session_of w)

-- What holds at every moment while every start was good: the claims, and what flies stands in order; and where K fitted besides, the FARM is not in Lockout.
pub record KeepsClaims {U D : Type 0} (up : Kind U Frame) (down : Kind D Report) (w : Whole U D) : Type 0 where
  pub claims : w.clean ≡ true → IsClaimed w
  pub flight : w.clean ≡ true → FliesInOrder (seen up down w)
  pub never_locked_out : w.clean ≡ true → w.fits ≡ true → is_locked_out w.farm.state ≡ false
