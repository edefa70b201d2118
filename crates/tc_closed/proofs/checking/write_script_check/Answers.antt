use Rattle.std.proofs.Common.{◌≡◌, [], Err, refl}
use Rattle.std.proofs.KnownBytes.{Appends-nil}
use Rattle.tc_closed.specs.declared.scripts.ScriptFault.TheVariants.{Memory}
use Rattle.tc_closed.proofs.CheckingLemmas.{checked_so}
use Rattle.tc_closed.proofs.EndsLemmas.{ends_by, is_fault, memory_is_other}
use Rattle.tc_closed.proofs.checking.write_script_check.Goals as goal

pub returns-in_err-checked : goal.returns-in_err-checked
returns-in_err-checked g c =
    let gone : c.from_residual.result ≡ Err Memory = is_fault _ _ c.from_residual.ensures.1 in
    rw gone (ends_by _ _ _ _ _ ([], refl, Appends-nil _) memory_is_other (λ none. none))

pub returns : goal.returns
returns g c = checked_so _ _ _ _ _ _ _ c.write_checked.result c.in_ok-checked.ensures c.write_checked.ensures
