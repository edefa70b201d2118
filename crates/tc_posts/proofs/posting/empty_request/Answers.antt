use Rattle.std.proofs.Common.{refl}
use Rattle.std.proofs.lemmas.Result.{IfOk-weaker}
use Rattle.tc_posts.specs.declared.posting.Posting.{Posting}
use Rattle.tc_posts.specs.declared.posting.PostedMoment.TheVariants.{Number}
use Rattle.tc_posts.proofs.posting.empty_request.Goals as goal

pub returns : goal.returns
returns c =
    let asked : Posting = record { act = c.new.result; by = c.in_ok-post.post.by; moment = Number 0 } in
    IfOk-weaker c.request_of.result _ _
    (λ request is. (asked, (c.in_ok-post.post, c.in_ok-post.ensures, c.new.ensures.bytes, refl, refl), is))
    c.request_of.ensures
