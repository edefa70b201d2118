-- A stack was loaded where its name is kept, and nobody approved one that was not loaded.
use Rattle.std.proofs.Common.{◌≡◌, ◌∙◌, sym, ap}
use Rattle.std.specs.List.{list_any}
use Rattle.tc_types.specs.Names.{is_same_name}
use Rattle.tc_book.specs.Stacks.{has_stack}
use Rattle.tc_book.proofs.NameLemmas.{stack_named}
use Rattle.tc_book.proofs.RowLemmas.{nobody_yet}
use Rattle.tc_book.proofs.records.Records.is_loaded.Goals as goal

pub returns-clause-loaded : goal.returns-clause-loaded
returns-clause-loaded g c =
    let told = rw (c.deref.ensures.value) at c.has_name.ensures in
    let named = stack_named c.args.name.now c.self.inside.requests.items c.self.invariant.0.requests in
    rw (← c.self.view_is) (told ∙ ap (list_any (λ known. is_same_name known c.args.name.now)) c.self.invariant.3 ∙ sym named)

pub returns-clause-unapproved : goal.returns-clause-unapproved
returns-clause-unapproved g c = λ unused.
    let told = rw (c.deref.ensures.value) at c.has_name.ensures in
    let named = stack_named c.args.name.now c.self.inside.requests.items c.self.invariant.0.requests in
    let loaded : c.has_name.result ≡ has_stack c.args.name.now c.self.inside.requests.items = told ∙ ap (list_any (λ known. is_same_name known c.args.name.now)) c.self.invariant.3 ∙ sym named in
    rw (← c.self.view_is) (nobody_yet c.self.inside.requests.items c.self.inside.stack_approvals.items c.args.name.now c.self.invariant.0.stacks_named (sym loaded ∙ unused))
