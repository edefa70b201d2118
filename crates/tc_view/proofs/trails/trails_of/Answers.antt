-- One more.
use Rattle.std.proofs.Common.{rules, ◌≡◌, ◌∙◌, ◌<◌, ◌+◌, ◌++◌, ◌∷◌, [], length, take, ap, sym}
use Rattle.std.proofs.lemmas.List.{take_more}
use Rattle.tc_view.proofs.WayLemmas.{trails_more}
use Rattle.tc_view.proofs.trails.trails_of.Goals as goal

pub loop-request-preserved : goal.loop-request-preserved
loop-request-preserved g c =
    let i = c.loop-request.request-index in
    let requests = c.args.requests.now in
    let low : i < length requests = search rules in
    let parts : take (i + 1) requests ≡ take i requests ++ c.request-item.result ∷ [] = take_more requests i c.request-item.result low ∙ ap (λ r. take i requests ++ r ∷ []) (sym c.request-item.is) in
    rw (parts, c.in_ok-add_held.ensures) (trails_more c.args.records.now.book (take i requests) c.loop-request.trails.items c.request-item.result _ c.loop-request.invariant c.in_ok-trail_of.ensures)
