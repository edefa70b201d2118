use Rattle.std.proofs.Common.{◌≡◌, OnOk, arith, ap, subst, rules, ◌∙◌}
use Rattle.tc_sql.specs.Builds.{no_schema}
use Rattle.tc_store.specs.Layouts.{IsLayoutOf}
use Rattle.tc_store.specs.Schema.{schema_of}
use Rattle.sqlite.specs.Effect.{Database}
use Rattle.sqlite.specs.State.{HasCleanDisk}
use Rattle.sqlite.specs.Held.{state}
use Rattle.tc_store.specs.Steps.{Defined}
use Rattle.tc_store.proofs.LoadLemmas.{on_ok}
use Rattle.tc_store.proofs.MetaLemmas.{made_as}
use Rattle.tc_store.proofs.creates.make_as.Goals as goal

pub returns : goal.returns
returns g c =
    let first = c.transaction-tx.result.conn.now in
    let mid = c.define_all.new.tx.conn.now in
    let last = c.commit.new.self.0 in
    let begun = c.transaction-tx.ensures.begun in
    let left : HasCleanDisk (state g.S.Store last) → OnOk c.commit.result (IsLayoutOf c.args.layout c.args.version → c.args.conn.now.schema ≡ no_schema → last.schema ≡ schema_of c.args.layout c.args.version) = λ clean.
    let earlier : HasCleanDisk (state g.S.Store mid) = omega (arith, clean, c.commit.ensures.survives.clean) in
    let made = subst (λ texts. Defined g.S.Store texts first mid) c.texts_of.ensures (c.in_ok-define_all.ensures.done earlier (ap (λ h. h.in_transaction) begun)) in
    on_ok c.commit.result _ _ (c.commit.ensures.ok clean) (λ ended fits none. ap (λ (db : Database). db.schema) ended.1.now_is ∙ made_as g.S.Store c.args.layout c.args.version first mid made fits (ap (λ h. h.schema) begun ∙ none)) in
    search (rules, left)
