use Rattle.std.proofs.Common.{sym, rules}
use Rattle.tc_store.proofs.FindLemmas.{first_kept}
use Rattle.tc_store.proofs.replies.first_text.Goals as goal

pub returns-in_err-kept_text_at-in-Some-clause-back : goal.returns-in_err-kept_text_at-in-Some-clause-back
returns-in_err-kept_text_at-in-Some-clause-back c kept all are =
    let found = first_kept c.args.rows.now kept c.in-Some.row.now all are (sym c.in-Some.ensures.value) in
    search (rules, c.in_err-kept_text_at-in-Some.ensures.back found.0.body found.1.text found.1.lines found.2)
