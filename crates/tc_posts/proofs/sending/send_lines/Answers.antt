use Rattle.std.proofs.Common.{rules, ◌<◌, ◌++◌, length}
use Rattle.tc_posts.proofs.SendLemmas.{refused_both, sent_next}
use Rattle.tc_posts.proofs.sending.send_lines.Goals as goal

pub loop-line-preserved : goal.loop-line-preserved
loop-line-preserved g c =
    let earlier = c.loop-line.invariant in
    let last = c.in_ok-refused.ensures in
    let low : c.loop-line.line-index < length c.args.lines.now = search rules in (
      earlier.0 ++ last.0,
      g.met.C.Client.joined _ _ _ earlier.0 last.0 earlier.1 last.1,
      sent_next c.args.port c.args.lines.now c.loop-line.line-index _ earlier.0 last.0 low earlier.2 last.2,
      refused_both _ _ earlier.0 last.0 earlier.3 last.3,
    )
