use Rattle.std.proofs.Common.{Some, ap, ◌∙◌, arith}
use Rattle.tc_front.proofs.DeskLaws.{not_found, found}
use Rattle.tc_front.proofs.routes.Routes.path_of.Goals as goal

pub returns-in_default-at-clause-text : goal.returns-in_default-at-clause-text
returns-in_default-at-clause-text c =
    λ utf8. not_found _ c.args.target.now c.in-Ok.text.now c.self.invariant c.in-Ok.ensures.cases.0 (λ i. omega (arith, c.type_inv.target i)) utf8 c.in_default-at.ensures.missing

pub returns-clause-text : goal.returns-clause-text
returns-clause-text c =
    λ utf8. ap Some c.path_at.ensures ∙ found _ c.args.target.now c.in-Ok.text.now _ _ _ _ _ _ c.self.invariant c.in-Ok.ensures.cases.0 c.in-Ok-at.ensures.path (λ i. omega (arith, c.type_inv.target i)) utf8
    c.in-Ok-at.ensures.found c.texts.ensures c.as_bytes.ensures.value c.as_bytes-2.ensures.value
