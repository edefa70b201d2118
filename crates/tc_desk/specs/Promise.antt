-- What is true of a desk at any moment. The first promise of README.md is the fields `places`, `moves`, `once` and `given` of `KeepsPromise`.
use Rattle.std.specs.Prelude.{◌≡◌, ℕ, true, false, map}
use Rattle.std.specs.List.{AllByRecursion}
use Rattle.tc_types.specs.declared.link.reports.Report.{Report}
use Rattle.tc_types.specs.declared.link.telecommands.Telecommand.{Telecommand}
use Rattle.tc_types.specs.History.{IsGoodHistory}
use Rattle.tc_farm.specs.Farm.{is_locked_out}
use Rattle.tc_world.specs.Links.{Kind}
use Rattle.tc_world.specs.Sublist.{IsSublist}
use Rattle.tc_world.specs.Window.{Distinct, IsClaimed, all_accepted, all_confirmed}
use Rattle.tc_world.specs.World.{all_sent}
use Rattle.tc_book.specs.Conserved.{IsConserved}
use Rattle.tc_desk.specs.Followed.{IsMirrored, IsTelecommandOf}
use Rattle.tc_desk.specs.Rows.{confirm_rows, transmit_rows}
use Rattle.tc_desk.specs.State.{DeskState, State}

-- ---- what the spacecraft was given

-- Since the desk was made the spacecraft was given the telecommand of each request that the FARM accepted, as often as it was accepted, in that
-- order, and no other.
pub record GivesAccepted {U D : Type 0} (at : State U D) : Type 0 where
  -- what it was given has the numbers of the requests that the FARM accepted
  pub requests : map (λ (t : Telecommand). t.request) at.board.given ≡ all_accepted at.world
  -- and each is the telecommand that the book makes of that request
  pub bodies : AllByRecursion (IsTelecommandOf at.book) at.board.given

-- ---- what a row that says Confirmed means

-- Of the rows that came after the first `opened`: each request that one of them calls confirmed was accepted on board; none was accepted
-- twice; and they were accepted in the order of the rows of their transmission.
pub record TakenOnce {U D : Type 0} (opened : ℕ) (at : State U D) : Type 0 where
  pub accepted : IsSublist (confirm_rows opened at.book) (all_accepted at.world)
  pub once : Distinct (all_accepted at.world)
  pub in_order : IsSublist (all_accepted at.world) (transmit_rows opened at.book)

-- ---- the promise

-- Of a desk at any moment. `opened` rows of the history stood when it was made or opened; its link is new since then.
pub record KeepsPromise {U D : Type 0} (down : Kind D Report) (desk : DeskState U D) : Type 0 where
  -- Each request that was entered stands in one place, and the counts of the places sum to those entered.
  pub places : IsConserved desk.parts.book.history
  -- Each move is one row of the history: it has the next number, it is lawful, and it says where its request stood.
  pub moves : IsGoodHistory desk.parts.book.history
  -- The rows say what was transmitted, in order, ..
  pub transmitted : transmit_rows desk.opened desk.parts.book ≡ all_sent desk.parts.world
  -- .. and call confirmed only what the link confirmed, in order.
  pub confirmed : IsSublist (confirm_rows desk.opened desk.parts.book) (all_confirmed desk.parts.world)
  -- While every start was good, what was confirmed was accepted in its session, in order, ..
  pub window : desk.parts.world.clean ≡ true → IsClaimed desk.parts.world
  -- .. each request that a row calls confirmed was accepted on board exactly once, in the order of the rows of transmission, ..
  pub once : desk.parts.world.clean ≡ true → TakenOnce desk.opened desk.parts
  -- .. and the FARM is not in Lockout.
  pub open_farm : desk.parts.world.clean ≡ true → is_locked_out desk.parts.world.farm.state ≡ false
  -- The spacecraft was given the telecommands of the requests that the FARM accepted, as the book has them, in order, and no others.
  pub given : GivesAccepted desk.parts
  -- While nothing of the downlink was lost, the schedule that the desk shows is the one on board, once what flies is read.
  pub mirror : IsMirrored down desk
