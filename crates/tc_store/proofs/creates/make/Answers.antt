use Rattle.std.proofs.Common.{◌≡◌, ap, subst, rules}
use Rattle.sqlite.specs.State.{HasCleanDisk, Survives}
use Rattle.sqlite.specs.Held.{state}
use Rattle.tc_sql.specs.Builds.{no_schema}
use Rattle.tc_store.specs.Steps.{Filled}
use Rattle.tc_store.proofs.StepLemmas.{survives_filled}
use Rattle.tc_store.proofs.creates.make.Goals as goal

pub returns-in-Err-commit-clause-at_commit : goal.returns-in-Err-commit-clause-at_commit
returns-in-Err-commit-clause-at_commit g c clean =
    let last = c.fill.new.tx.conn.now in
    let begun = c.transaction-tx.ensures.begun in
    let earlier : HasCleanDisk (state g.S.Store last) = search rules in
    record { last = last; done = subst (λ h. Filled g.S.Store h last) begun (c.in_default.ensures.done earlier (ap (λ h. h.in_transaction) begun)); fails = search rules }

pub returns-in-Ok-clause-crash : goal.returns-in-Ok-clause-crash
returns-in-Ok-clause-crash g c =
    let first = c.args.conn.now in
    let last = c.fill.new.tx.conn.now in
    let begun = c.transaction-tx.ensures.begun in
    let none : first.schema ≡ no_schema = search rules in
    let left = survives_filled g.S.Store first last c.commit.new.self.0 (subst (λ h. Survives (state g.S.Store h) (state g.S.Store last) (λ _. ⊥)) begun c.fill.ensures.survives)
    (λ clean. subst (λ h. Filled g.S.Store h last) begun (c.in_default.ensures.done clean (ap (λ h. h.in_transaction) begun))) none c.commit.ensures.survives in
    search (rules, left)

pub returns-in-Err-commit-clause-crash : goal.returns-in-Err-commit-clause-crash
returns-in-Err-commit-clause-crash g c =
    let first = c.args.conn.now in
    let last = c.fill.new.tx.conn.now in
    let begun = c.transaction-tx.ensures.begun in
    let none : first.schema ≡ no_schema = search rules in
    let left = survives_filled g.S.Store first last c.commit.new.self.0 (subst (λ h. Survives (state g.S.Store h) (state g.S.Store last) (λ _. ⊥)) begun c.fill.ensures.survives)
    (λ clean. subst (λ h. Filled g.S.Store h last) begun (c.in_default.ensures.done clean (ap (λ h. h.in_transaction) begun))) none c.commit.ensures.survives in
    search (rules, left)
