use Rattle.std.proofs.Common.{rules, ◌≡◌, ◌<◌, length, sym, ◌∙◌}
use Rattle.tc_store.specs.Records.{second_text}
use Rattle.tc_store.proofs.BackLemmas.{utf8_second}
use Rattle.tc_store.proofs.cells.second_at.Goals as goal

pub returns-in_err-text-clause-back : goal.returns-in_err-text-clause-back
returns-in_err-text-clause-back c was named shows =
    search (rules, c.in_err-text.ensures.back (second_text was) (utf8_second was named) shows)
