use Rattle.std.proofs.Common.{◌++◌, refl}
use Rattle.tc_posts.proofs.SendLemmas.{refused_both}
use Rattle.tc_posts.proofs.sending.send_all.Goals as goal

pub returns : goal.returns
returns g c =
    let first = c.in_ok-refused.ensures in
    let last = c.in_ok-last.ensures in (
      first.0 ++ last.0,
      g.met.C.Client.joined _ _ _ first.0 last.0 first.1 last.1,
      (first.0, last.0, refl, first.2, last.2, refused_both _ _ first.0 last.0 first.3 last.3),
    )
