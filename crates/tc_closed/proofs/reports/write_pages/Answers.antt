-- A page more was written, and the last one is the end of the rows.
use Rattle.std.proofs.Common.{◌≡◌, ◌∙◌, ◌++◌, ℕ, List, [], refl, rules, sym, ap, subst, append-nil}
use Rattle.std.specs.Io.KnownBytes.{Appends}
use Rattle.std.specs.String.{string_bytes}
use Rattle.std.proofs.KnownBytes.{Appends-nil, Appends-trans}
use Rattle.tc_types.specs.Counts.{inner_of}
use Rattle.tc_types.specs.declared.history.moves.Move.{Move}
use Rattle.tc_types.specs.History.{shift_rows}
use Rattle.tc_report.specs.ShiftReport.{AreAdded}
use Rattle.tc_report.proofs.RowLemmas.{none_added}
use Rattle.tc_closed.proofs.ReadLemmas.{leaves_same, leaves_then, left_behind, left_none, reads_same, reads_then}
use Rattle.tc_front.specs.Write.{IsCutShort}
use Rattle.tc_closed.proofs.ReportLemmas.{ends_unread, on_err, page_added, page_cut, rows_written}
use Rattle.tc_closed.proofs.reports.write_pages.Goals as goal

pub pages-init : goal.pages-init
pages-init g c = (reads_same g.S.Store c.args.tables.now, leaves_same g.S.Store c.args.tables.now, (λ clean version ledger held. ([], [], refl, none_added [], Appends-nil (g.W.Write.contents (inner_of c.args.writer.now)))), (λ none. none))

pub pages-preserved : goal.pages-preserved
pages-preserved g c =
    let reads = c.in_ok-page.ensures.page.reads in (
      reads_then g.S.Store c.args.tables.now c.pages.tables c.closed_page.new.tables c.pages.invariant.0 reads,
      leaves_then g.S.Store c.args.tables.now c.pages.tables c.closed_page.new.tables c.pages.invariant.0 c.pages.invariant.1 c.in_ok-page.ensures.page.left,
      (λ clean version ledger held.
          let all : List Move = shift_rows c.args.from c.args.to ledger.image.moves in
          let was = c.pages.invariant.2 (reads.clean clean) version ledger held in
          let page = c.in_ok-page.ensures.page.told clean version ledger (c.pages.invariant.0.holds (reads.clean clean) version ledger held) in
          let text : List ℕ = string_bytes c.in_ok-page.page.text in
          let put = subst (λ bytes. Appends (g.W.Write.contents (inner_of c.pages.writer)) (g.W.Write.contents (inner_of c.put.new.writer)) bytes) c.as_bytes.ensures.value c.in_ok-put.ensures.writes.written in (
            was.0 ++ page.rows,
            was.1 ++ text,
            ap (λ l. (was.0 ++ page.rows) ++ l) (sym (left_behind c.in_ok-page.page.next all c.is_none.result c.is_none.ensures c.if-is_none.false)) ∙ page.goes_on was.0 was.2,
            page_added was.0 page.rows was.1 text was.3 page.added,
            Appends-trans _ _ _ was.1 text was.4 put,
          )),
      (λ none. c.in_ok-put.ensures.counted (c.pages.invariant.3 none)),
    )

pub returns-then-is_none-clause-told : goal.returns-then-is_none-clause-told
returns-then-is_none-clause-told g c clean version ledger held =
    let all : List Move = shift_rows c.args.from c.args.to ledger.image.moves in
    let reads = c.in_ok-page.ensures.page.reads in
    let was = c.pages.invariant.2 (reads.clean clean) version ledger held in
    let page = c.in_ok-page.ensures.page.told clean version ledger (c.pages.invariant.0.holds (reads.clean clean) version ledger held) in
    let text : List ℕ = string_bytes c.in_ok-page.page.text in
    let put = subst (λ bytes. Appends (g.W.Write.contents (inner_of c.pages.writer)) (g.W.Write.contents (inner_of c.put.new.writer)) bytes) c.as_bytes.ensures.value c.in_ok-put.ensures.writes.written in
    let whole : was.0 ++ page.rows ≡ all =
    sym (append-nil (was.0 ++ page.rows)) ∙ ap (λ l. (was.0 ++ page.rows) ++ l) (sym (left_none c.in_ok-page.page.next all c.is_none.result c.is_none.ensures c.if-is_none.true)) ∙ page.goes_on was.0 was.2 in (
      was.1 ++ text,
      subst (λ (rows : List Move). AreAdded rows [] (was.1 ++ text)) whole (page_added was.0 page.rows was.1 text was.3 page.added),
      Appends-trans _ _ _ was.1 text was.4 put,
    )

-- ---- where it fails

pub returns-in_err-page-clause-cut : goal.returns-in_err-page-clause-cut
returns-in_err-page-clause-cut g c clean = on_err c.from_residual.result _ (λ version ledger held.
    let was = c.pages.invariant.2 (c.in_err-page.ensures.page.left.clean clean) version ledger held in
    (was.1, rows_written ledger.image c.args.from c.args.to was.0 _ was.1 was.2 was.3, was.4))

pub returns-in_err-put-clause-cut : goal.returns-in_err-put-clause-cut
returns-in_err-put-clause-cut g c clean = on_err c.from_residual-in_err-put.result _ (λ version ledger held.
    let reads = c.in_ok-page.ensures.page.reads in
    let was = c.pages.invariant.2 (reads.clean clean) version ledger held in
    let page = c.in_ok-page.ensures.page.told clean version ledger (c.pages.invariant.0.holds (reads.clean clean) version ledger held) in
    let text : List ℕ = string_bytes c.in_ok-page.page.text in
    let cut = c.in_err-put.ensures.writes.cut in (
      was.1 ++ cut.0,
      page_cut ledger.image c.args.from c.args.to was.0 page.rows _ was.1 text cut.0 (page.goes_on was.0 was.2) was.3 page.added (subst (λ bytes. IsCutShort bytes cut.0) c.as_bytes.ensures.value cut.1),
      Appends-trans _ _ _ was.1 cut.0 was.4 cut.2,
    ))

pub returns-clause-cut : goal.returns-clause-cut
returns-clause-cut g c clean version ledger held =
    let was = c.pages.invariant.2 clean version ledger held in
    (was.1, rows_written ledger.image c.args.from c.args.to was.0 _ was.1 was.2 was.3, was.4)

pub returns-in_err-page-clause-prints : goal.returns-in_err-page-clause-prints
returns-in_err-page-clause-prints g c = record {
  reads = search rules;
  left = leaves_then g.S.Store c.args.tables.now c.pages.tables c.closed_page.new.tables c.pages.invariant.0 c.pages.invariant.1 c.in_err-page.ensures.page.left;
  fault = ends_unread _ _ c.in_err-page.ensures.kind c.from_residual.ensures.1;
  counted = search rules;
}

pub returns-in_err-put-clause-prints : goal.returns-in_err-put-clause-prints
returns-in_err-put-clause-prints g c = record {
  reads = search rules;
  left = leaves_then g.S.Store c.args.tables.now c.pages.tables c.closed_page.new.tables c.pages.invariant.0 c.pages.invariant.1 c.in_ok-page.ensures.page.left;
  fault = search rules;
  counted = search rules;
}

pub returns-then-is_none-clause-prints : goal.returns-then-is_none-clause-prints
returns-then-is_none-clause-prints g c = record {
  reads = reads_then g.S.Store c.args.tables.now c.pages.tables c.closed_page.new.tables c.pages.invariant.0 c.in_ok-page.ensures.page.reads;
  left = leaves_then g.S.Store c.args.tables.now c.pages.tables c.closed_page.new.tables c.pages.invariant.0 c.pages.invariant.1 c.in_ok-page.ensures.page.left;
  fault = search rules;
  counted = search rules;
}
