use Rattle.std.proofs.Common.{rules, ◌≡◌, [], ◌∷◌, false}
use Rattle.std.proofs.lemmas.Result.{IfOk-weaker}
use Rattle.tc_posts.specs.Steps.{said}
use Rattle.tc_posts.proofs.SendLemmas.{sends_used}
use Rattle.tc_posts.proofs.sending.send_numbered.Goals as goal

pub returns : goal.returns
returns g c =
    let some : ¬ (c.args.used.now ≡ []) = search rules in
    let is : c.args.only_new ≡ false = search rules in
    IfOk-weaker c.send_all-2.result _ _
    (λ refused sends. (
      said c.args.used.now ∷ sends.0,
      g.met.C.Client.joined _ _ _ (said c.args.used.now ∷ []) sends.0 c.in_ok-say_used.ensures sends.1,
      sends_used c.args.only_new c.args.port _ c.args.used.now sends.0 refused some is sends.2,
    ))
    c.send_all-2.ensures
