use Rattle.std.proofs.Common.{inl}
use Rattle.std.proofs.lemmas.Result.{err_from_is_err_and}
use Rattle.tc_words.proofs.MatchLemmas.{told_as}
use Rattle.tc_words.proofs.reading.read_words.Goals as goal

pub returns-in_err-matches-clause-fault : goal.returns-in_err-matches-clause-fault
returns-in_err-matches-clause-fault c =
    let left = err_from_is_err_and c.from_residual.result c.from_residual.ensures.1 in
    rw left.1 (λ is_taken. inl (left.2.refused.0 (c.in_err-matches.ensures.fault is_taken)))

pub returns-in_err-matches-clause-told : goal.returns-in_err-matches-clause-told
returns-in_err-matches-clause-told c =
    let left = err_from_is_err_and c.from_residual.result c.from_residual.ensures.1 in
    rw left.1 (told_as _ _ _ _ left.2 c.in_err-matches.ensures.kind)
