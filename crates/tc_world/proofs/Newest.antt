-- The newest session among all.
use Rattle.std.proofs.Common.{◌≡◌, ℕ, List, ◌++◌, sym, ◌∙◌, ap, subst}
use Rattle.std.specs.List.{flat_map}
use Rattle.tc_world.specs.Logs.{Log}
use Rattle.tc_world.specs.Sublist.{IsSublist-behind}
use Rattle.tc_world.specs.Abstraction.{Bare}
use Rattle.tc_world.specs.World.{all_sent}
use Rattle.tc_world.specs.Window.{Distinct}
use Rattle.tc_world.proofs.Requests.{all_sent_is, distinct_front, distinct_sub}

-- the same sessions have sent the same
pub same_sent : (w v : Bare) → v.past ≡ w.past → v.newest.sent ≡ w.newest.sent → all_sent v ≡ all_sent w
same_sent w v past sent =
    all_sent_is v
    ∙ ap (λ logs. flat_map (λ (log : Log). log.sent) logs ++ v.newest.sent) past
    ∙ ap (λ l. flat_map (λ (log : Log). log.sent) w.past ++ l) sent
    ∙ sym (all_sent_is w)

-- no request stands twice in the newest session
pub distinct_newest : (w : Bare) (more : List ℕ) → Distinct (all_sent w ++ more) → Distinct w.newest.sent
distinct_newest w more d =
    let earlier = flat_map (λ (log : Log). log.sent) w.past in
    distinct_sub w.newest.sent (earlier ++ w.newest.sent) (IsSublist-behind earlier w.newest.sent)
    (subst (λ l. Distinct l) (all_sent_is w) (distinct_front (all_sent w) more d))
