use Rattle.std.proofs.Common.{◌≡◌, ℕ, List, [], ◌∷◌, ◌++◌, ap, ◌∙◌}
use Rattle.tc_posts.specs.Numbered.{shown}
use Rattle.tc_posts.specs.Posting.{post_bytes}
use Rattle.tc_posts.specs.Steps.{answered, sent}
use Rattle.tc_posts.specs.Told.{answer_of}
use Rattle.tc_posts.proofs.CompletingLemmas.{refuses_at_end}
use Rattle.tc_posts.proofs.sending.send_line.Goals as goal

pub returns : goal.returns
returns g c =
    let asked = c.in_ok-first.ensures in
    let completed = c.in_ok-told.ensures in
    let first = answer_of c.in_ok-first.first in
    let last = answer_of c.in_ok-told.told in
    let post = c.in-Ok.ensures in
    let shows = answered (shown c.args.line.now) last ∷ [] in
    let bytes : c.as_bytes.result.now ≡ post_bytes c.args.port post.0 c.args.line.now.number = c.as_bytes.ensures.value ∙ post.2 in (
      sent c.as_bytes.result.now asked.0 ∷ completed.0 ++ shows,
      g.met.C.Client.joined _ _ _ (sent c.as_bytes.result.now asked.0 ∷ []) (completed.0 ++ shows) asked.1
          (g.met.C.Client.joined _ _ _ completed.0 shows completed.1 c.in_ok-show_answer.ensures),
      (post.0, asked.0, first, last, completed.0, post.1, asked.2, completed.2, ap (λ (b : List ℕ). sent b asked.0 ∷ completed.0 ++ shows) bytes),
      refuses_at_end c.args.port first last completed.0 (shown c.args.line.now) completed.2,
    )
