-- The last line is put back, or one for both.
use Rattle.std.proofs.Common.{◌≡◌, ◌++◌, ◌∷◌, [], ap, subst, sym, ◌∙◌}
use Rattle.std.specs.Option.{option_to_list}
use Rattle.std.specs.Result.{OnOk}
use Rattle.tc_urgent.specs.Folds.{with_next}
use Rattle.tc_urgent.proofs.FoldLemmas.{with_next_last}
use Rattle.tc_urgent.proofs.folds.add_next.Goals as goal

pub returns-in-Some : goal.returns-in-Some
returns-in-Some g c =
    subst (λ l. OnOk c.add_joined.result (c.add_joined.new.lines.items ≡ l))
    (sym (ap (λ l. with_next l c.args.next.now) (c.pop.ensures.items ∙ ap (λ o. c.pop.new.self.items ++ option_to_list o) c.in-Some.is) ∙ with_next_last c.pop.new.self.items c.in-Some.line c.args.next.now))
    c.add_joined.ensures
