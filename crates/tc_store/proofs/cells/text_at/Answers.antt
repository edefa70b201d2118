use Rattle.std.proofs.Common.{rules, ◌≡◌, ◌<◌, length, sym, ◌∙◌}
use Rattle.tc_store.proofs.BackLemmas.{stands, only_memory}
use Rattle.tc_store.proofs.cells.text_at.Goals as goal

pub returns-in_err-get-clause-back : goal.returns-in_err-get-clause-back
returns-in_err-get-clause-back c was text shows =
    let here : c.args.at < length c.args.row.now = stands c.args.row.now c.args.at (λ none. absurd (let f = sym shows ∙ none in cc)) in
    search (rules, only_memory c.args.at _ _ _ (λ other. c.in_err-get.ensures.kind other here) c.in_err-get.ensures.named (was, shows, text))
