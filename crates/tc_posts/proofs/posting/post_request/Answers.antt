use Rattle.std.proofs.lemmas.Result.{IfOk-weaker}
use Rattle.tc_posts.proofs.posting.post_request.Goals as goal

pub returns : goal.returns
returns c = IfOk-weaker c.request_of.result _ _ (λ request is. (c.in_ok-post.post, c.in_ok-post.ensures, is)) c.request_of.ensures
