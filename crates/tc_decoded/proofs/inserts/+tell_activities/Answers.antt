-- An activity that is cut, and one with others after it.
use Rattle.std.proofs.Common.{◌∙◌, ap, sym}
use Rattle.std.specs.Prelude.{drop}
use Rattle.std.proofs.lemmas.Result.{on_ok_weaker}
use Rattle.tc_decoded.specs.Places.{later}
use Rattle.tc_decoded.proofs.AddedLemmas.{activities_cut, activities_more}
use Rattle.tc_decoded.proofs.inserts.+tell_activities.Goals as goal

pub returns-then-is_cut : goal.returns-then-is_cut
returns-then-is_cut g t c =
    on_ok_weaker c.tell_cut.result
    (λ added. activities_cut c.args.number c.args.place.now c.args.word c.args.profile.now c.args.octets.now c.args.out.now.items
    c.tell_cut.new.out.items c.if-number-eq0.false (sym c.is_cut.ensures ∙ c.if-is_cut.true) added)
    c.tell_cut.ensures

pub returns : goal.returns
returns g t c =
    on_ok_weaker c.tell_activities.result
    (λ others. activities_more c.args.number c.args.place.now c.later-place.result c.args.word c.args.profile.now c.args.octets.now
    c.octets_from-others.result.now c.args.out.now.items c.tell_activity.new.out.items c.tell_activities.new.out.items c.if-number-eq0.false
    (sym c.is_cut.ensures ∙ c.if-is_cut.false)
    (c.later-place.ensures ∙ ap (later c.args.place.now) c.activity_length-taken.ensures.value)
    (c.octets_from-others.ensures ∙ ap (λ k. drop k c.args.octets.now) c.activity_length-taken.ensures.value)
    c.in_ok-tell_activity.ensures others)
    c.tell_activities.ensures
