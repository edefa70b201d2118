-- What stands in a FOP between its calls.
use Rattle.std.specs.Prelude.{◌≡◌, ℕ, ◌+◌, ◌%◌, ◌<◌, ◌≤◌, Bool, true, false, is_some, Some, None, List, [], length, slice_get}
use Rattle.tc_fop.specs.declared.signals.FopState.{FopState}
use Rattle.tc_fop.specs.declared.signals.FopState.TheVariants.{Active, RetransmitWithoutWait, RetransmitWithWait, InitialisingWithoutBc, InitialisingWithBc, Initial}
use Rattle.tc_fop.specs.Machine.{Machine, Held, flagged_of}
use Rattle.tc_fop.specs.Calls.{is_taking, is_initial}

-- S4 and S5
abbrev pub is_starting : FopState → Bool
is_starting Active = false
is_starting RetransmitWithoutWait = false
is_starting RetransmitWithWait = false
is_starting InitialisingWithoutBc = true
is_starting InitialisingWithBc = true
is_starting Initial = false

-- S5
abbrev pub has_control : FopState → Bool
has_control Active = false
has_control RetransmitWithoutWait = false
has_control RetransmitWithWait = false
has_control InitialisingWithoutBc = false
has_control InitialisingWithBc = true
has_control Initial = false

-- the frames of the Sent_Queue are numbered one after the other, modulo 256, from this number on
pub record AreNumbered (n : ℕ) (sent : List Held) : Type 0 where
  pub each : (i : ℕ) (held : Held) → slice_get sent i ≡ Some held → held.ns ≡ (n + i) % 256

-- a FOP that a start and the calls can reach
pub record IsFop (m : Machine) : Type 0 where
  pub few : length m.sent ≤ 255
  -- in S1 to S3 the next number follows those of the Sent_Queue
  pub next : is_taking m.state ≡ true → m.vs ≡ (m.nn + length m.sent) % 256
  pub numbered : AreNumbered m.nn m.sent
  -- the queues are empty but in S1 to S3
  pub no_sent : is_taking m.state ≡ false → m.sent ≡ []
  pub no_waiting : is_taking m.state ≡ false → m.waiting ≡ None
  -- in S4 and S5 nothing is out
  pub starting : is_starting m.state ≡ true → m.vs ≡ m.nn
  -- a copy of the BC frame is there exactly in S5
  pub control : is_some m.control ≡ has_control m.state
  -- in S6 the timer does not run
  pub no_timer : is_initial m.state ≡ true → m.timer ≡ 0
  -- no flag is set between calls
  pub no_flag : flagged_of m.sent ≡ []
  pub vs : m.vs < 256
  pub nn : m.nn < 256
  pub k_least : 1 ≤ m.k
  pub k_most : m.k ≤ 255
  pub t1_least : 1 ≤ m.t1
  pub t1_most : m.t1 ≤ 65535
  pub timer_most : m.timer ≤ 65535
  pub limit_least : 1 ≤ m.limit
  pub limit_most : m.limit ≤ 255
  pub count_least : 1 ≤ m.count
  pub count_most : m.count ≤ 255
