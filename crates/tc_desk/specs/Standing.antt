-- What stands of a desk between two acts.
use Rattle.std.specs.Prelude.{◌≡◌, true}
use Rattle.tc_types.specs.declared.link.frames.Frame.{Frame}
use Rattle.tc_types.specs.declared.link.reports.Report.{Report}
use Rattle.tc_world.specs.Links.{Kind}
use Rattle.tc_world.specs.Window.{IsClaimed}
use Rattle.tc_book.specs.Good.{IsGoodBook}
use Rattle.tc_book.specs.Sound.{IsSound}
use Rattle.tc_book.specs.Tables.{image_of}
use Rattle.tc_desk.specs.Fair.{IsOpen}
use Rattle.tc_desk.specs.Followed.{IsFollowed}
use Rattle.tc_desk.specs.Promise.{GivesAccepted, KeepsPromise}
use Rattle.tc_desk.specs.State.{DeskState}
use Rattle.tc_desk.specs.Tied.{IsTied}

pub record IsStanding {U D : Type 0} (up : Kind U Frame) (down : Kind D Report) (desk : DeskState U D) : Type 0 where
  pub tied : IsTied desk.opened desk.parts
  pub good : IsGoodBook desk.parts.book
  -- while every start was good, what the link claims of its sessions
  pub claims : desk.parts.world.clean ≡ true → IsClaimed desk.parts.world
  -- K fitted at every moment, so that while every start was good the FARM is not in Lockout
  pub fits : desk.parts.world.fits ≡ true
  pub open_farm : IsOpen desk.parts
  -- the spacecraft was given what the FARM accepted, as the book has it, and nothing else
  pub given : GivesAccepted desk.parts
  -- while nothing of the downlink was lost, the mirror follows the spacecraft
  pub followed : IsFollowed up down desk

-- What is true of a desk after any call, whatever was answered: it was made over as many rows as before, its book is good, an opening
-- takes its tables, and the promise is kept.
pub record StaysTrue {U D : Type 0} (down : Kind D Report) (old new : DeskState U D) : Type 0 where
  pub opened : new.opened ≡ old.opened
  pub good : IsGoodBook new.parts.book
  pub sound : IsSound (image_of new.parts.book)
  pub promise : KeepsPromise down new
