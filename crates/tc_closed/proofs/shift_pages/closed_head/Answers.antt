-- The head tells the tallies and how many moves were counted.
use Rattle.std.proofs.Common.{ℕ, List, length, subst}
use Rattle.tc_types.specs.History.{shift_rows}
use Rattle.tc_report.specs.ShiftReport.{IsReportHead}
use Rattle.tc_closed.specs.Closed.{closed_word}
use Rattle.tc_closed.proofs.ReadLemmas.{if_ok, on_ok}
use Rattle.tc_closed.proofs.shift_pages.closed_head.Goals as goal

pub returns-in-Ok-clause-head : goal.returns-in-Ok-clause-head
returns-in-Ok-clause-head g c = record {
  told = λ clean. if_ok c.head_of.result _ _ c.head_of.ensures.head (λ text told version ledger held.
      let counted = c.in-Ok.ensures.counted.told clean version ledger held in (
        told.0,
        subst (λ (counts : List ℕ). IsReportHead closed_word counts (length (shift_rows c.args.from c.args.to ledger.image.moves)) c.args.from c.args.to told.0) counted.0
            (subst (λ n. IsReportHead closed_word c.in-Ok.found.places n c.args.from c.args.to told.0) counted.1 told.1),
        told.2,
        told.3,
      ));
  reads = on_ok c.head_of.result _ c.in-Ok.ensures.counted.reads;
  left = c.in-Ok.ensures.counted.left;
}
