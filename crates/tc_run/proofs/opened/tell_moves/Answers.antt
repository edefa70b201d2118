use Rattle.std.proofs.Common.{◌≡◌, ◌∙◌, [], Err, refl}
use Rattle.std.proofs.KnownBytes.{Appends-nil}
use Rattle.tc_closed.specs.declared.scripts.ScriptFault.TheVariants.{Memory}
use Rattle.tc_closed.proofs.EndsLemmas.{ends_by, is_fault, memory_is_other}
use Rattle.tc_run.proofs.KeptLemmas.{opening_told}
use Rattle.tc_run.proofs.opened.tell_moves.Goals as goal

pub returns-in_err-told : goal.returns-in_err-told
returns-in_err-told g c =
    let gone : c.from_residual.result ≡ Err Memory = is_fault _ _ c.from_residual.ensures.1 in
    rw gone (ends_by _ _ _ _ _ ([], refl, Appends-nil _) memory_is_other (λ none. none))

pub returns : goal.returns
returns g c = opening_told _ _ _ _ c.put.result (c.as_bytes.ensures.value ∙ c.in_ok-told.ensures.text) c.put.ensures.writes c.put.ensures.fault c.put.ensures.counted
