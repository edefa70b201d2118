-- From line 1 on.
use Rattle.std.proofs.Common.{◌-◌, Bool, [], ◌∷◌, ap, ◌∙◌}
use Rattle.std.specs.Prelude.{count_by}
use Rattle.std.specs.List.{take_while}
use Rattle.tc_types.specs.declared.history.places.Place.TheVariants.{Entered}
use Rattle.tc_types.specs.declared.requests.Request.{Request}
use Rattle.tc_types.specs.History.{place_of}
use Rattle.tc_types.specs.Lawful.{is_among}
use Rattle.tc_book.specs.Stacks.{is_in_stack}
use Rattle.tc_book.proofs.CopyLemmas.{rest_of}
use Rattle.tc_book.proofs.StackRowLemmas.{rows_counted}
use Rattle.tc_book.proofs.records.waiting.count_from_first.Goals as goal

pub returns-clause-count : goal.returns-clause-count
returns-clause-count g c =
    let test : Request → Bool = λ r. is_among (Entered ∷ []) (place_of c.args.history.now.rows r.number) in
    c.count_entered.ensures.count
    ∙ ap (λ l. count_by test (take_while (is_in_stack c.args.name.now) l)) (rest_of (c.args.n - 1) c.args.requests.now)
    ∙ rows_counted c.args.name.now test c.args.requests.now c.args.n c.requires.good c.requires.begun
