-- What callers see of a FOP.
use Rattle.std.specs.Prelude.{◌≡◌, ◌≢◌, ℕ, ◌<◌, ◌≤◌, Bool, true, IfOk, IfErr, IsOk, Result, Option, Some, None, List, length}
use Rattle.tc_types.specs.declared.refusals.Refusal.{Refusal}
use Rattle.tc_types.specs.declared.refusals.Refusal.TheVariants.{Memory}
use Rattle.tc_fop.specs.declared.views.FopView.{FopView}
use Rattle.tc_fop.specs.declared.fop_rows.FopRow.{FopRow}
use Rattle.tc_fop.specs.declared.fop_rows.FopRow.TheVariants.{P1, P2, P3, P4, P5, P6, P7, P8, P9, P10, P11, P12, P13, P14, P15, P16}
use Rattle.tc_fop.specs.Machine.{Machine, Out, Action, after, output, joined, option_list, nothing}
use Rattle.tc_fop.specs.Calls.{Given, Answers, is_taking}
use Rattle.tc_fop.specs.Standing.{IsFop}

-- a FOP as contracts see it: its machine, and whether the memory of the next call was taken
pub record FopModel : Type 0 where
  pub machine : Machine
  pub ready : Bool

-- what was drawn up, or nothing
abbrev pub drawn : Option Out → Out
drawn None = nothing
drawn (Some out) = out

-- How a call responds: it answers as given; where the memory of the call was taken it is not refused memory; an error leaves
-- that memory as it was; and the machine is one that calls can reach.
pub record Responds (given : Given) (old new : FopModel) (result : Result Out Refusal) : Type 0 where
  pub answers : Answers given old.machine new.machine result
  pub ready : old.ready ≡ true → IfErr result (λ (e : Refusal). e ≢ Memory)
  pub kept : IfErr result (λ (e : Refusal). new.ready ≡ old.ready)
  pub fop : IsFop new.machine

-- what a status line prints
abbrev pub view_of : Machine → FopView
view_of m = record {
  state = m.state;
  vs = m.vs;
  nn = m.nn;
  sent = length m.sent;
  waiting = length (option_list m.waiting);
  count = m.count;
  timer = m.timer;
  k = m.k;
  t1 = m.t1;
  limit = m.limit;
}

-- the call is not refused, and its memory was taken
pub record MayAnswer (given : Given) (fop : FopModel) : Type 0 where
  pub taken : IsOk given
  pub ready : fop.ready ≡ true

-- the machine after these actions, which is one that calls can reach
pub record Becomes (actions : List Action) (old new : Machine) : Type 0 where
  pub machine : new ≡ after actions old
  pub fop : IsFop new

-- the same, and this was put out behind what was there
pub record Acts (actions : List Action) (more : Out) (old new : Machine) (before result : Out) : Type 0 where
  pub machine : new ≡ after actions old
  pub fop : IsFop new
  pub out : result ≡ joined before more

-- the same, where all that is put out is what these actions put out
pub record Performs (actions : List Action) (old new : Machine) (result : Out) : Type 0 where
  pub machine : new ≡ after actions old
  pub fop : IsFop new
  pub out : result ≡ output actions old

-- what was given is carried out
pub record Carried (given : Given) (old new : Machine) (result : Out) : Type 0 where
  pub carried : IfOk given (λ (actions : List Action). (new ≡ after actions old) × (result ≡ output actions old))
  pub fop : IsFop new

-- one more frame and one more indication have their room in a draft
pub record HasRoom (out : Out) : Type 0 where
  pub frame : length out.frames < 256
  pub indication : length out.indications < 257

-- in S1 to S3 so many are in the Sent_Queue
pub record MayRemove (acknowledged : ℕ) (m : Machine) : Type 0 where
  pub taking : is_taking m.state ≡ true
  pub there : acknowledged ≤ length m.sent

-- What a row asks of the variables: so many are in the Sent_Queue, and once more may be counted.
abbrev pub Fits : FopRow → Machine → Type 0
Fits P1 m = Unit {0}
Fits (P2 d) m = d ≤ length m.sent
Fits P3 m = Unit {0}
Fits P4 m = Unit {0}
Fits P5 m = Unit {0}
Fits (P6 d) m = d ≤ length m.sent
Fits P7 m = Unit {0}
Fits (P8 d) m = d ≤ length m.sent
Fits (P9 d) m = d ≤ length m.sent
Fits (P10 d) m = d ≤ length m.sent
Fits P11 m = m.count < m.limit
Fits P12 m = Unit {0}
Fits P13 m = Unit {0}
Fits P14 m = Unit {0}
Fits P15 m = Unit {0}
Fits P16 m = Unit {0}
