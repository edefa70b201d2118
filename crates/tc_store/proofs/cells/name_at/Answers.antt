use Rattle.std.proofs.Common.{rules, ◌≡◌, ◌<◌, length, sym, ◌∙◌}
use Rattle.tc_types.proofs.NameLaws.{IsUtf8-name}
use Rattle.tc_store.proofs.cells.name_at.Goals as goal

pub returns-in_err-text-clause-back : goal.returns-in_err-text-clause-back
returns-in_err-text-clause-back c was named shows =
    search (rules, c.in_err-text.ensures.back was (IsUtf8-name was named) shows)
