use Rattle.std.proofs.Common.{◌∙◌, ◌∷◌, ◌++◌, [], ap, refl}
use Rattle.tc_check.proofs.FindingLemmas.{shows_more}
use Rattle.tc_check.proofs.findings.Findings.show.Goals as goal

pub returns : goal.returns
returns c = λ lines shows.
    shows_more lines c.args.line.now c.args.self.now _ shows c.requires (rw c.front_of.ensures at c.in_ok-push_str.ensures.bytes)
    (c.in_ok-push_str-3.ensures.bytes ∙ ap (λ text. text ++ 10 ∷ []) c.in_ok-push_str-2.ensures.bytes) refl
