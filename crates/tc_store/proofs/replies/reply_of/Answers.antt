use Rattle.std.proofs.Common.{rules}
use Rattle.std.specs.String.{string_bytes}
use Rattle.sqlite.specs.Held.{state}
use Rattle.tc_store.specs.Ledgers.{newest}
use Rattle.tc_store.specs.Schema.{layout_in}
use Rattle.tc_store.proofs.ReadLemmas.{both_ok}
use Rattle.tc_store.proofs.FindLemmas.{find_quiet, reply_found, found_back}
use Rattle.tc_store.proofs.replies.reply_of.Goals as goal

pub rows_of-requires : goal.rows_of-requires
rows_of-requires g c = record { quiet = find_quiet }

pub returns : goal.returns
returns g c = record {
  reads = (record {
    finds = λ clean.
        both_ok c.first_text.result _ _ _ c.first_text.ensures.none c.first_text.ensures.some (λ found none some ledger.
        reply_found string_bytes c.args.person c.args.number ledger (state g.S.Store c.args.conn.now) (state g.S.Store c.rows_of.new.conn) c.in_ok-rows.rows.items _ found c.as_slice.ensures.value
        (rw (c.params-to_sql.ensures, c.params-to_sql-2.ensures, c.get-number.ensures.value, c.as_str.ensures.text, c.name-name.ensures.value) at (c.in_ok-rows.ensures.rows clean)) none some);
    same = search rules;
    left = search rules;
  });
  told = c.first_text.ensures.told;
  back = λ clean ledger held all.
      found_back c.args.person c.args.number ledger (state g.S.Store c.args.conn.now) (state g.S.Store c.rows_of.new.conn) c.in_ok-rows.rows.items _ c.first_text.result c.as_slice.ensures.value
      (rw (c.params-to_sql.ensures, c.params-to_sql-2.ensures, c.get-number.ensures.value, c.as_str.ensures.text, c.name-name.ensures.value) at (c.in_ok-rows.ensures.rows clean)) c.first_text.ensures.back held all;
}

pub returns-in_err-rows-clause-back : goal.returns-in_err-rows-clause-back
returns-in_err-rows-clause-back g c clean ledger held all = search (rules, c.in_err-rows.ensures.back clean (layout_in (state g.S.Store c.args.conn.now).now) newest held.schema)
