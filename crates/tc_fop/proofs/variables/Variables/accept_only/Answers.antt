-- The request waits, and nothing else.
use Rattle.std.proofs.Common.{◌≡◌, IfOk, List, subst, sym}
use Rattle.tc_fop.specs.Machine.{Machine, Action, nothing, after, output}
use Rattle.tc_fop.specs.Calls.{offered}
use Rattle.tc_fop.specs.Queued.{waiting_of}
use Rattle.tc_fop.proofs.WaitLemmas.{waits_only}
use Rattle.tc_fop.proofs.variables.Variables.accept_only.Goals as goal

pub returns : goal.returns
returns g c = record {
  carried = subst (λ (m : Machine). IfOk (offered c.args.self.now (waiting_of c.args.offer)) (λ (actions : List Action). (m ≡ after actions c.args.self.now) × (nothing ≡ output actions c.args.self.now)))
      (sym c.accept.ensures.machine.machine)
      (waits_only c.args.self.now (waiting_of c.args.offer) c.state-state.ensures.fop c.requires.closed c.requires.taken);
  fop = c.accept.ensures.machine.fop;
}
