use Rattle.std.proofs.Common.{rules, ◌≡◌, ◌++◌, ℕ, List, map, refl, subst}
use Rattle.std.proofs.lemmas.Result.{IfOk-weaker}
use Rattle.tc_posts.specs.Numbered.{shown}
use Rattle.tc_posts.specs.Sending.{Sends}
use Rattle.tc_posts.proofs.sending.send_script.Goals as goal

pub returns : goal.returns
returns g c =
    let asked = c.in_ok-used.ensures in
    let used : c.deref.result.now ≡ c.in_ok-used.used.items = search rules in
    IfOk-weaker c.send_numbered.result _ _
    (λ refused sends. (
      asked.0 ++ sends.0,
      g.met.C.Client.joined _ _ _ asked.0 sends.0 asked.1 sends.1,
      (asked.0, sends.0, c.in_ok-used.used.items, refl, asked.2, subst (λ (u : List ℕ). Sends c.args.only_new c.args.port (map shown c.args.lines.now) u sends.0 refused) used sends.2),
    ))
    c.send_numbered.ensures
