use Rattle.std.proofs.Common.{rules, ◌≡◌, ◌∙◌, Err, map, refl, sym}
use Rattle.serde_json.specs.View.{view}
use Rattle.tc_posts.specs.declared.told.Untellable.TheVariants.{Memory}
use Rattle.tc_posts.specs.Told.{Answer, lines_text}
use Rattle.tc_posts.proofs.ToldLemmas.{found_some, is_err}
use Rattle.tc_posts.proofs.told.told_by.Goals as goal

pub returns-in_err-text-clause-untold : goal.returns-in_err-text-clause-untold
returns-in_err-text-clause-untold c =
    let gone : c.from_residual-in_err-text.result ≡ Err Memory = is_err _ _ c.from_residual-in_err-text.ensures.1 in
    let lines = map view c.in_ok-lines.lines.now.items in
    let refusal_is = found_some _ _ _ c.ok_or.ensures.ok_part c.in_ok-refusal.was in
    let more_is = found_some _ _ _ c.ok_or-2.ensures.ok_part c.in_ok-more.was in
    let lines_are = found_some _ _ _ c.ok_or-3.ensures.ok_part c.in_ok-lines.was in
    let answer : Answer = record { text = lines_text lines; refusal = c.in_ok-refusal.refusal; more = c.in_ok-more.more; last = c.last_move-last.result } in
    rw gone (answer, (lines, sym (rw lines_are at c.lines_in.ensures), refl, sym c.refusal_in.ensures ∙ refusal_is, sym c.more_in.ensures ∙ more_is, (search rules)))
