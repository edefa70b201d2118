-- What was carried out is the answer.
use Rattle.std.proofs.Common.{rules, ◌≡◌, IfOk, List, sym, ◌∙◌, ap, subst}
use Rattle.tc_fop.specs.Machine.{Machine, Out, Action, after, output}
use Rattle.tc_fop.specs.Calls.{directed}
use Rattle.tc_fop.specs.Views.{FopModel}
use Rattle.tc_fop.proofs.Carrying.{carried_answers}
use Rattle.tc_fop.proofs.fops.Fop.directive_reserved.Goals as goal

pub returns : goal.returns
returns g c =
    let given = λ (m : Machine). directed m c.args.directive.now in
    let before : Machine = c.self.inside.variables in
    let same : before ≡ c.args.self.now.machine = ap (λ (f : FopModel). f.machine) c.self.view_is ∙ c.take_spare-blank.ensures.machine in
    let done = subst (λ (out : Out). IfOk (given before) (λ (actions : List Action). (c.carry_out.new.self ≡ after actions before) × (out ≡ output actions before)))
    (sym c.of.ensures) c.carry_out.ensures.carried in
    record {
      answers = carried_answers (given c.args.self.now.machine) c.args.self.now.machine c.carry_out.new.self c.of.result c.requires.taken
          (subst (λ (m : Machine). IfOk (given m) (λ (actions : List Action). (c.carry_out.new.self ≡ after actions m) × (c.of.result ≡ output actions m))) same done);
      ready = search rules;
      kept = search rules;
      fop = c.carry_out.ensures.fop;
    }
