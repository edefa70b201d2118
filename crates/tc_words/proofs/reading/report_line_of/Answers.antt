use Rattle.std.proofs.Common.{inl, inr}
use Rattle.std.proofs.lemmas.Result.{err_from_is_err_and}
use Rattle.tc_words.proofs.reading.report_line_of.Goals as goal

pub returns-in_err-from-clause-fault : goal.returns-in_err-from-clause-fault
returns-in_err-from-clause-fault c =
    let left = err_from_is_err_and c.from_residual.result c.from_residual.ensures.1 in
    let fault = c.in_err-from.ensures.fault in
    rw (left.1, left.2, fault.0) (inl c.text_of.ensures, fault.1)

pub returns-in_err-to-clause-fault : goal.returns-in_err-to-clause-fault
returns-in_err-to-clause-fault c =
    let left = err_from_is_err_and c.from_residual-in_err-to.result c.from_residual-in_err-to.ensures.1 in
    let fault = c.in_err-to.ensures.fault in
    rw (left.1, left.2, fault.0) (inr c.text_of-2.ensures, fault.1)
