use Rattle.std.proofs.Common.{◌≡◌, ℕ, List, [], ◌∷◌, ap, ◌∙◌}
use Rattle.tc_posts.specs.Posting.{places_bytes}
use Rattle.tc_posts.specs.Steps.{placed, sent}
use Rattle.tc_posts.specs.Told.{answer_of}
use Rattle.tc_posts.proofs.SendLemmas.{or_false}
use Rattle.tc_posts.proofs.sending.ask_places.Goals as goal

pub returns : goal.returns
returns g c =
    let asked = c.in_ok-told.ensures in
    let answer = answer_of c.in_ok-told.told in
    let last = placed answer ∷ [] in
    let bytes : c.as_bytes.result.now ≡ places_bytes c.args.port = c.as_bytes.ensures.value ∙ c.in-Ok.ensures in (
      sent c.as_bytes.result.now asked.0 ∷ last,
      g.met.C.Client.joined _ _ _ (sent c.as_bytes.result.now asked.0 ∷ []) last asked.1 c.in_ok-show_places.ensures,
      (asked.0, answer, asked.2, ap (λ (b : List ℕ). sent b asked.0 ∷ last) bytes),
      or_false _,
    )
