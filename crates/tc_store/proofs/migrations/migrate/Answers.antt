use Rattle.std.proofs.Common.{arith, rules, subst, ◌∙◌}
use Rattle.sqlite.specs.State.{HasCleanDisk}
use Rattle.sqlite.specs.Held.{state}
use Rattle.tc_store.specs.Steps.{Defined}
use Rattle.tc_store.proofs.MigrationLemmas.{migrated}
use Rattle.tc_store.proofs.migrations.migrate.Goals as goal

pub returns : goal.returns
returns g c =
    let first = c.args.tx.now.conn.now in
    let made = c.define_all.new.tx.conn.now in
    let last = c.run.new.tx.conn.now in
    record {
      same_reference = search rules;
      done = λ clean inside.
          let earlier : HasCleanDisk (state g.S.Store made) = omega (arith, c.run.ensures.survives.clean, clean) in
          let one = c.in_ok-define_all.ensures.done earlier inside in
          migrated g.S.Store c.args.from first made last c.run.result (subst (λ texts. Defined g.S.Store texts first made) c.missing_texts.ensures one) (c.run.ensures.done clean (one.goes.mode ∙ inside));
      kept = search rules;
      survives = search rules;
    }
