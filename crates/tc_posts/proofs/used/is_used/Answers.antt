use Rattle.std.proofs.Common.{◌≡◌, ℕ, List, [], ◌∷◌, ap, refl, ◌∙◌}
use Rattle.tc_posts.specs.Posting.{post_bytes}
use Rattle.tc_posts.specs.Steps.{sent}
use Rattle.tc_posts.specs.Told.{answer_of}
use Rattle.tc_posts.proofs.used.is_used.Goals as goal

pub returns : goal.returns
returns g c =
    let asked = c.in_ok-told.ensures in
    let post = c.in-Ok.ensures in
    let bytes : c.as_bytes.result.now ≡ post_bytes c.args.port post.0 c.args.line.now.number = c.as_bytes.ensures.value ∙ post.2 in (
      sent c.as_bytes.result.now asked.0 ∷ [],
      asked.1,
      (post.0, asked.0, answer_of c.in_ok-told.told, post.1, asked.2, ap (λ (b : List ℕ). sent b asked.0 ∷ []) bytes, refl),
    )
