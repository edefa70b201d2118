-- One more.
use Rattle.std.proofs.Common.{rules, ◌≡◌, ◌∙◌, ◌<◌, ◌+◌, ◌++◌, ◌∷◌, [], length, take, ap, sym, subst}
use Rattle.std.proofs.lemmas.List.{take_more}
use Rattle.tc_view.specs.Gathered.{AreTrailsOf}
use Rattle.tc_view.proofs.WayLemmas.{none_are, trails_end, ways_more}
use Rattle.tc_view.proofs.trails.ways_of.Goals as goal

pub loop-trail-init : goal.loop-trail-init
loop-trail-init g c = λ book requests are. rw c.new-ways.ensures.items (none_are _ book requests are)

pub loop-trail-preserved : goal.loop-trail-preserved
loop-trail-preserved g c = λ book requests are.
    let i = c.loop-trail.trail-index in
    let trails = c.args.trails.now in
    let low : i < length trails = search rules in
    let parts : take (i + 1) trails ≡ take i trails ++ c.trail-item.result ∷ [] = take_more trails i c.trail-item.result low ∙ ap (λ t. take i trails ++ t ∷ []) (sym c.trail-item.is) in
    let ends = trails_end book requests (take i trails) c.trail-item.result (subst (λ l. AreTrailsOf book requests l) parts are) in
    rw (ends.are, c.in_ok-add.ensures) (ways_more book ends.front c.loop-trail.ways.items ends.last c.way_of.result (c.loop-trail.invariant book ends.front ends.before) (c.way_of.ensures book ends.last ends.one))
