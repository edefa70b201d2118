use Rattle.std.proofs.Common.{IsTrue, arith, ℕ, List, map, ◌∙◌}
use Rattle.std.specs.Borrow.{Bor}
use Rattle.std.proofs.lemmas.List.{length-map}
use Rattle.sqlite.specs.State.{HasCleanDisk}
use Rattle.sqlite.specs.Held.{state}
use Rattle.tc_store.proofs.StepLemmas.{survives_both, keeps_then}
use Rattle.tc_store.proofs.CreateLemmas.{leads_lent, leads_all}
use Rattle.tc_store.proofs.creates.define_all.Goals as goal

pub texts-preserved : goal.texts-preserved
texts-preserved g c =
    let first = c.args.tx.now.conn.now in
    let mid = c.texts.tx.conn.now in
    let last = c.run.new.tx.conn.now in
    let was = c.texts.invariant in
    let made = c.in_ok-run.ensures in
    let earlier : HasCleanDisk (state g.S.Store last) → HasCleanDisk (state g.S.Store mid) = λ clean. omega (arith, made.survives.clean) in
    let within : HasCleanDisk (state g.S.Store last) → IsTrue first.in_transaction → IsTrue mid.in_transaction = λ clean inside. (was.1 (earlier clean) inside).goes.mode ∙ inside in (
      made.same_reference ∙ was.0,
      λ clean inside. leads_lent g.S.Store c.args.texts.now c.texts.text-index c.in_ok-run.field-0 _ first mid last c.texts-test.true (was.1 (earlier clean) inside) (made.done clean (within clean inside)),
      λ clean inside. keeps_then (state g.S.Store first) (state g.S.Store mid) (state g.S.Store last) (was.2 (earlier clean) inside) (made.kept clean (within clean inside)),
      survives_both (state g.S.Store first) (state g.S.Store mid) (state g.S.Store last) was.3 made.survives,
    )

pub returns : goal.returns
returns g c =
    let first = c.args.tx.now.conn.now in
    let last = c.texts.tx.conn.now in
    let was = c.texts.invariant in
    record {
      same_reference = was.0;
      done = λ clean inside. leads_all g.S.Store (map (λ text. text.now) c.args.texts.now) c.texts.text-index first last
          (omega (arith, c.texts-test.false, length-map c.args.texts.now (λ (text : Bor (List ℕ)). text.now))) (was.1 clean inside);
      kept = was.2;
      survives = was.3;
    }
