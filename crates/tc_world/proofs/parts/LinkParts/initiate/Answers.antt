-- The initiation was carried out.
use Rattle.std.proofs.Common.{◌≡◌, ◌++◌, List, [], ◌∷◌, map, refl, sym, ap, ◌∙◌}
use Rattle.std.proofs.lemmas.List.{map-append}
use Rattle.tc_fop.specs.declared.views.FopView.{FopView}
use Rattle.tc_fop.specs.Machine.{Machine}
use Rattle.tc_world.specs.Logs.{Log, blank}
use Rattle.tc_world.specs.Pages.{Page}
use Rattle.tc_world.proofs.CarryLemmas.{begun}
use Rattle.tc_world.proofs.MarkLemmas.{marks_same, marks_begun}
use Rattle.tc_world.proofs.parts.LinkParts.initiate.Goals as goal

pub returns-clause-begins : goal.returns-clause-begins
returns-clause-begins g c =
    let good = rw (← c.self.view_is) at c.stays_clean-clean.ensures in
    let queued : c.push_reserved.new.self.items ≡ c.self.inside.past.items ++ c.reserve-2.new.self.newest ∷ [] =
    c.push_reserved.ensures.items ∙ rw (c.reserve.ensures.items, c.replace-ended.ensures.value) refl in
    let earlier = ap (λ (pages : List Page). map (λ (page : Page). page.log) pages) queued ∙ map-append (λ (page : Page). page.log) c.self.inside.past.items (c.reserve-2.new.self.newest ∷ [])
    ∙ ap (λ (log : Log). map (λ (page : Page). page.log) c.self.inside.past.items ++ log ∷ []) c.reserve-2.ensures.log in
    let based = c.begin.ensures.log ∙ ap (λ (v : FopView). blank v.vs) c.view.ensures.view ∙ ap (λ (m : Machine). blank m.vs) (sym c.carry.ensures.machine) in
    let written = rw (c.replace-ended.ensures.after, based) at c.carry.ensures.log in
    rw (← c.self.view_is)
    (begun g.U.Carrier.kind g.D.Carrier.kind _ _ _ _ _ _ _ _ _ _ (rw (c.reserve-2.ensures.machine, ← c.carry.ensures.machine) at c.directive_reserved-output.ensures.answers) c.reserve-2.ensures.readied c.carry.ensures.frames earlier written good (c.many.ensures ∙ rw c.in_ok-answer.ensures.answer.0 at c.carry.ensures.answer))

pub invariant_of-self-2 : goal.invariant_of-self-2
invariant_of-self-2 g c =
    let queued : c.push_reserved.new.self.items ≡ c.self.inside.past.items ++ c.reserve-2.new.self.newest ∷ [] =
    c.push_reserved.ensures.items ∙ rw (c.reserve.ensures.items, c.replace-ended.ensures.value) refl in
    let before = marks_same _ _ (rw (← c.reserve-2.ensures.log) at (c.reserve-2.ensures.marks _ c.self.invariant.3)) in
    let carried = c.carry.ensures.within.marks _ (rw (c.replace-ended.ensures.after, c.begin.ensures.log) before) in (
      c.self.invariant.0,
      rw c.carry.ensures.machine c.directive_reserved-output.ensures.fop,
      c.self.invariant.2,
      rw queued (marks_begun c.self.inside.past.items c.reserve-2.new.self.newest _ _ carried),
    )
