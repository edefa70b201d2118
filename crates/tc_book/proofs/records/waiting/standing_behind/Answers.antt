-- Past the last there is none.
use Rattle.std.proofs.Common.{Bool, List, [], ◌∷◌, drop, filter, take, ap, ◌∙◌, subst}
use Rattle.std.specs.Prelude.{◌≡◌, IfOk}
use Rattle.tc_types.specs.declared.requests.Request.{Request}
use Rattle.tc_types.specs.History.{place_of}
use Rattle.tc_types.specs.Lawful.{is_among}
use Rattle.tc_book.proofs.CopyLemmas.{rest_of}
use Rattle.tc_book.proofs.WaitingLemmas.{behind_all}
use Rattle.tc_book.proofs.records.waiting.standing_behind.Goals as goal

pub returns : goal.returns
returns g c =
    let test : Request → Bool = λ r. is_among (c.args.place ∷ []) (place_of c.args.history.now.rows r.number) in
    let all = c.args.requests.now in
    let behind = rest_of c.min.result all ∙ ap (λ m. drop m all) c.min.ensures ∙ behind_all all c.args.after in
    subst (λ (l : List Request). IfOk c.standing_among.result (λ found. found.items ≡ take c.args.most (filter test l))) behind c.standing_among.ensures
