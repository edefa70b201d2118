use Rattle.std.proofs.Common.{◌≡◌, ◌∙◌, Err, refl}
use Rattle.tc_types.specs.declared.refusals.Refusal.TheVariants.{WriteFault}
use Rattle.tc_api.proofs.ExchangeLemmas.{all_put, held_text, is_err, lines_told, not_made, part_put, response_told}
use Rattle.tc_api.proofs.exchange.respond.Goals as goal

pub returns-in_default : goal.returns-in_default
returns-in_default g c = λ reply has. not_made _ _ _ _ refl (c.untold.ensures reply)

pub returns-in_default-response_of : goal.returns-in_default-response_of
returns-in_default-response_of g c = λ reply has. not_made _ _ _ _ refl (c.untold-in_default-response_of.ensures reply)

pub returns-in_err-write_whole : goal.returns-in_err-write_whole
returns-in_err-write_whole g c = λ reply has.
    let gone : c.from_residual.result ≡ Err WriteFault = is_err _ _ c.from_residual.ensures.1 in
    part_put _ c.from_residual.result _ _ _ c.args.served.now reply gone c.in_err-write_whole.ensures
    (response_told c.args.served.now _ reply _ c.in-Some.is (c.as_bytes.ensures.value ∙ c.in-Ok.ensures reply (held_text _ _ reply c.in-Some.is has)))

pub returns : goal.returns
returns g c = λ reply has.
    let tells = held_text _ _ reply c.in-Some.is has in
    all_put tt _ _ _ c.args.served.now reply c.in_ok-write_whole.ensures
    (response_told c.args.served.now _ reply _ c.in-Some.is (c.as_bytes.ensures.value ∙ c.in-Ok.ensures reply tells)) (lines_told _ reply tells)
