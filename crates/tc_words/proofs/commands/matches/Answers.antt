use Rattle.std.proofs.Common.{map, ap, ◌∙◌, refl}
use Rattle.std.proofs.lemmas.Result.{IfErr-weaker, IfOk-weaker}
use Rattle.clap.specs.Words.{App, takes}
use Rattle.tc_words.proofs.MatchLemmas.{fails_of, kind_of_fault, matches_of}
use Rattle.tc_words.proofs.commands.matches.Goals as goal

pub returns-clause-rows : goal.returns-clause-rows
returns-clause-rows c =
    let parse = c.try_get_matches_from in
    IfOk-weaker parse.result _ _ (λ found has. matches_of _ _ _ found (c.desk.view_is ∙ c.in_ok-desk.ensures) refl has) parse.ensures.matches

pub returns-clause-taken : goal.returns-clause-taken
returns-clause-taken c =
    let parse = c.try_get_matches_from in
    fails_of _ _ _ parse.result (c.desk.view_is ∙ c.in_ok-desk.ensures) refl parse.ensures.kinds

pub returns-clause-kind : goal.returns-clause-kind
returns-clause-kind c =
    let parse = c.try_get_matches_from in
    kind_of_fault _ _ _ parse.result (c.desk.view_is ∙ c.in_ok-desk.ensures) refl parse.ensures.kinds

pub returns-clause-fault : goal.returns-clause-fault
returns-clause-fault c =
    let parse = c.try_get_matches_from in
    IfErr-weaker parse.result _ _
    (λ error passes is_taken. passes (ap (λ (app : App). takes app (map (λ word. word.now) c.args.words.now)) (c.desk.view_is ∙ c.in_ok-desk.ensures) ∙ is_taken))
    parse.ensures.passes
