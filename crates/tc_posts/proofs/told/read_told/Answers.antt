use Rattle.std.proofs.Common.{arith, ◌≡◌, Err}
use Rattle.tc_posts.specs.declared.told.Untellable.TheVariants.{NoResponse}
use Rattle.tc_posts.proofs.ToldLemmas.{found_none, found_some, found_why, not_told}
use Rattle.tc_posts.proofs.told.read_told.Goals as goal

pub returns-clause-untold : goal.returns-clause-untold
returns-clause-untold c =
    let found = rw (found_some _ _ _ c.ok_or.ensures.ok_part c.in_ok-body.was) at c.body_of.ensures.some in
    not_told c.told_in.result c.args.response.now c.in_ok-body.body.now found.0 found.1 c.told_in.ensures.untold

pub returns-in_err-body-clause-untold : goal.returns-in_err-body-clause-untold
returns-in_err-body-clause-untold c =
    let none = found_none _ _ _ c.ok_or.ensures.ok_part c.in_err-body.was in
    let gone : c.from_residual.result ≡ Err c.in_err-body.field-0.0 = grind arith in
    let why : c.in_err-body.field-0.0 ≡ NoResponse = found_why _ _ _ _ c.ok_or.ensures.value none c.in_err-body.was in
    let missing = rw none at c.body_of.ensures.none in
    rw (gone, why) (λ answer tells. missing tells.body tells.found tells.utf8)
