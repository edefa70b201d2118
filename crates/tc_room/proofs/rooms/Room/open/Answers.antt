use Rattle.std.proofs.Common.{◌∙◌, ◌⊎◌, ap, subst, sym}
use Rattle.std.proofs.lemmas.Result.{IfErr-weaker, IfOk-weaker}
use Rattle.sqlite.specs.Held.{Held, state}
use Rattle.tc_store.specs.Ledgers.{empty_ledger}
use Rattle.tc_store.specs.Schema.{HoldsAs}
use Rattle.tc_room.specs.Crash.{HasRows}
use Rattle.tc_room.specs.Opening.{OpensTo}
use Rattle.tc_room.proofs.OpeningLemmas.{found_held, found_shown, keeps_same, not_empty, schema_held}
use Rattle.tc_room.proofs.rooms.Room.open.Goals as goal

pub returns-in-Ok-clause-opened : goal.returns-in-Ok-clause-opened
returns-in-Ok-clause-opened g c = IfOk-weaker c.open_left.result _ _
    (λ opened left. record {
      anew = λ none. absurd (not_empty c.in-Ok.version _ c.in-Ok.ensures.ours none);
      left = λ clean version ledger told held.
          left clean ledger told (found_held g.S.Store c.in-Ok.tables c.args.store c.in-Ok.version c.in-Ok.ensures.same c.in-Ok.ensures.ours version ledger held);
    })
    c.open_left.ensures.left

pub returns-in-Ok-clause-kept : goal.returns-in-Ok-clause-kept
returns-in-Ok-clause-kept g c = IfErr-weaker c.open_left.result _ _
    (λ e kept clean is_open. record {
      empty = λ none. absurd (not_empty c.in-Ok.version _ c.in-Ok.ensures.ours none);
      held = λ version ledger held. kept clean is_open version ledger (subst (λ (t : Held _). HoldsAs version (state g.S.Store t).now ledger) (sym c.in-Ok.ensures.same) held);
    })
    c.open_left.ensures.kept

pub returns-in-Err-Foreign-default-clause-kept : goal.returns-in-Err-Foreign-default-clause-kept
returns-in-Err-Foreign-default-clause-kept g c = IfErr-weaker c.open_new.result _ _
    (λ e kept clean is_open. keeps_same _ _ (kept clean is_open ∙ ap (λ (h : Held _). (state g.S.Store h).now) c.in-Err-Foreign-default.ensures.kept))
    c.open_new.ensures.kept

pub returns-in-Err-Foreign-default-clause-foreign : goal.returns-in-Err-Foreign-default-clause-foreign
returns-in-Err-Foreign-default-clause-foreign g c = IfErr-weaker c.open_new.result _ _
    (λ e untouched some other.
    untouched (λ none. some (sym (ap (λ (h : Held _). (state g.S.Store h).now.schema) c.in-Err-Foreign-default.ensures.kept) ∙ none)) ∙ c.in-Err-Foreign-default.ensures.kept)
    c.open_new.ensures.untouched

pub returns-in-Ok-clause-crash : goal.returns-in-Ok-clause-crash
returns-in-Ok-clause-crash g c = IfErr-weaker c.open_left.result _ _
    (λ e crash clean. record {
      anew = λ none. absurd (not_empty c.in-Ok.version _ c.in-Ok.ensures.ours none);
      held = λ version ledger held trees may.
          subst (λ (t : Held _). (state g.S.Store t).may_leave trees ⊎ OpensTo c.args.config c.args.moment ledger trees) c.in-Ok.ensures.same
          (crash clean ledger (found_held g.S.Store c.in-Ok.tables c.args.store c.in-Ok.version c.in-Ok.ensures.same c.in-Ok.ensures.ours version ledger held) trees may);
    })
    c.open_left.ensures.crash

pub returns-in-Err-Foreign-default-clause-crash : goal.returns-in-Err-Foreign-default-clause-crash
returns-in-Err-Foreign-default-clause-crash g c = IfErr-weaker c.open_new.result _ _
    (λ e crash clean. record {
      anew = λ none trees may.
          subst (λ (t : Held _). (state g.S.Store t).may_leave trees ⊎ HasRows trees empty_ledger) c.in-Err-Foreign-default.ensures.kept (crash clean trees may);
      held = λ version ledger held. absurd (c.in-Err-Foreign-default.ensures.foreign c.in-Err-Foreign-default.field-0-0-is version (schema_held version _ ledger held));
    })
    c.open_new.ensures.crash

pub returns-in-Ok-clause-memory : goal.returns-in-Ok-clause-memory
returns-in-Ok-clause-memory g c = IfErr-weaker c.open_left.result _ _
    (λ e shows memory clean version is. found_shown g.S.Store c.in-Ok.tables c.args.store c.in-Ok.version c.in-Ok.ensures.same c.in-Ok.ensures.ours version is (shows memory clean))
    c.open_left.ensures.memory

pub returns-in-Err-Foreign-default-clause-memory : goal.returns-in-Err-Foreign-default-clause-memory
returns-in-Err-Foreign-default-clause-memory g c = IfErr-weaker c.open_new.result _ _
    (λ e kind memory clean version ours. absurd (c.in-Err-Foreign-default.ensures.foreign c.in-Err-Foreign-default.field-0-0-is version ours))
    c.open_new.ensures.kind

pub returns-in-Ok-clause-shown : goal.returns-in-Ok-clause-shown
returns-in-Ok-clause-shown g c = IfOk-weaker c.open_left.result _ _
    (λ opened shows clean version is. found_shown g.S.Store c.in-Ok.tables c.args.store c.in-Ok.version c.in-Ok.ensures.same c.in-Ok.ensures.ours version is (shows clean))
    c.open_left.ensures.shown

pub returns-in-Err-Foreign-default-clause-shown : goal.returns-in-Err-Foreign-default-clause-shown
returns-in-Err-Foreign-default-clause-shown g c = IfOk-weaker c.open_new.result _ _
    (λ opened none clean version ours. absurd (c.in-Err-Foreign-default.ensures.foreign c.in-Err-Foreign-default.field-0-0-is version ours))
    c.open_new.ensures.none
