-- That every report names a request that the spacecraft was given.
use Rattle.std.specs.Prelude.{◌≡◌, ℕ}
use Rattle.std.specs.List.{AllByRecursion}
use Rattle.tc_types.specs.declared.link.activities.Activity.{Activity}
use Rattle.tc_types.specs.declared.link.reports.Telemetry.{Telemetry}
use Rattle.tc_types.specs.declared.link.reports.Telemetry.TheVariants as telemetry
use Rattle.tc_types.specs.declared.link.telecommands.Telecommand.{Telecommand}
use Rattle.tc_board.specs.Board.{BoardState}
use Rattle.tc_board.specs.Follows.{Roll, command_in, inserted, Event, Accept, Work, Clock}

-- a report of verification names a request of which K holds; a summary names none
abbrev pub IsNamed : (ℕ → Type 0) → Telemetry → Type 0
IsNamed K (telemetry.Verification verification request identity) = K request
IsNamed K (telemetry.Summary summary) = Unit {0}

-- K holds of a request that came on board, and of the activities that it inserts
pub record Knows (K : ℕ → Type 0) (t : Telecommand) : Type 0 where
  pub request : K t.request
  pub inserts : AllByRecursion (λ (a : Activity). K a.request) (inserted (command_in t.task))

-- K holds of all that the spacecraft holds
pub record AreNamed (K : ℕ → Type 0) (b : BoardState) : Type 0 where
  pub buffer : AllByRecursion (Knows K) b.buffer
  pub activities : AllByRecursion (λ (a : Activity). K a.request) b.schedule.activities

-- what it meets
abbrev pub IsGivenOf : (ℕ → Type 0) → Event → Type 0
IsGivenOf K (Accept t) = Knows K t
IsGivenOf K Work = Unit {0}
IsGivenOf K (Clock time) = Unit {0}

-- what the ground knows may grow: two rolls that agree on each request of which K holds
pub record Agrees (K : ℕ → Type 0) (old new : Roll) : Type 0 where
  pub rides : (n : ℕ) → K n → new.rides n ≡ old.rides n
  pub identity : (n : ℕ) → K n → new.identity_of n ≡ old.identity_of n
  pub command : (n : ℕ) → K n → new.command_of n ≡ old.command_of n
