-- What is told of the desk is what it says of the link and of the schedule.
use Rattle.std.proofs.Common.{rules, ◌≡◌, ◌∙◌, length, map, refl, ap, subst, sym}
use Rattle.std.specs.Prelude.{vec_len, IsPermutation, IsSortedBy}
use Rattle.std.proofs.lemmas.List.Sorted.{length_permutation}
use Rattle.tc_board.specs.Schedule.{is_before}
use Rattle.tc_types.specs.declared.link.activities.ListedActivity.{ListedActivity}
use Rattle.tc_view.specs.Links.{link_of}
use Rattle.tc_view.proofs.PageLemmas.{desk_made}
use Rattle.tc_view.proofs.pages.desk_page.Goals as goal

pub returns-clause-page : goal.returns-clause-page
returns-clause-page g c =
    let known = c.in_ok-schedule.schedule in
    let counted : vec_len known.activities ≡ length known.activities.items = search rules in
    let all = c.in_ok-schedule.ensures.all in
    let requests = ap (map (λ (a : ListedActivity). a.request)) (c.deref.ensures.value ∙ sym c.deref-2.ensures.value) in
    desk_made g.U.Carrier.kind g.D.Carrier.kind c.args.opening c.args.desk.now.parts _ _ _ _ _ _ c.page_of.result c.records.ensures refl (c.deref-3.ensures.value ∙ c.in_ok-scheduled.ensures ∙ requests) refl refl (record {
      link = c.link_of.ensures ∙ ap link_of c.link.ensures;
      schedule = record {
        enabled = c.in_ok-schedule.ensures.enabled;
        all = subst (λ shown. IsPermutation c.args.desk.now.parts.mirror.activities shown) (sym c.deref-2.ensures.value) all;
        ordered = subst (λ shown. IsSortedBy (λ a b. is_before a.time a.identity b.time b.identity) shown) (sym c.deref-2.ensures.value) c.in_ok-schedule.ensures.ordered;
        laid_in = c.len.ensures ∙ counted ∙ length_permutation c.args.desk.now.parts.mirror.activities known.activities.items all;
      };
    }) c.page_of.ensures.page
