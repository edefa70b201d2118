-- As many names are kept as there are stacks.
use Rattle.std.proofs.Common.{◌≡◌, length, ◌∙◌, ap, arith}
use Rattle.std.specs.Prelude.{count_by}
use Rattle.std.proofs.lemmas.Bool.Decides.{nat_tests}
use Rattle.tc_book.specs.Stacks.{begins_stack}
use Rattle.tc_book.proofs.NameLemmas.{names_counted}
use Rattle.tc_book.proofs.records.Records.has_all_stacks.Goals as goal

pub returns : goal.returns
returns g c =
    let kept : length c.self.inside.stacks.items ≡ count_by begins_stack c.self.inside.requests.items = ap length c.self.invariant.3 ∙ names_counted c.self.inside.requests.items in
    rw (← c.self.view_is) (grind (arith, nat_tests, kept, c.len.ensures))
