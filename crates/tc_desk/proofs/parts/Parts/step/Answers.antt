-- A test of the record refuses the step.
use Rattle.std.proofs.Common.{◌∙◌, inl, sym, rules}
use Rattle.tc_desk.specs.State.{State}
use Rattle.tc_desk.proofs.StepLemmas.{step_refused}
use Rattle.tc_desk.proofs.parts.Parts.step.Goals as goal

pub returns-in-Some : goal.returns-in-Some
returns-in-Some g c =
    let at : State g.row.U.Denot g.row.D.Denot = record { book = c.self.inside.records.book; world = c.self.inside.world; board = c.self.inside.board; mirror = c.self.inside.mirror.told } in
    record {
      answers = rw (← c.self.view_is) (record { why = inl (step_refused c.args.stamp at c.args.given c.in-Some.refusal (sym c.record_refusal.ensures ∙ c.in-Some.is)); same = search rules });
      put = tt;
      room = tt;
    }
