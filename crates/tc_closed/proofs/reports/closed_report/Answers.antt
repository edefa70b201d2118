-- The head, the rows and the last line were written.
use Rattle.std.proofs.Common.{◌++◌, [], inl, refl, rules, subst}
use Rattle.std.proofs.lemmas.Result.{IfOk-weaker}
use Rattle.std.specs.Prelude.{codes}
use Rattle.std.specs.Io.KnownBytes.{Appends}
use Rattle.std.specs.String.{string_bytes}
use Rattle.std.proofs.KnownBytes.{Appends-nil, Appends-trans}
use Rattle.tc_types.specs.Counts.{inner_of}
use Rattle.tc_front.specs.Write.{IsCutShort}
use Rattle.tc_closed.proofs.ReadLemmas.{leaves_then, reads_then}
use Rattle.tc_closed.proofs.ReportLemmas.{end_cut, head_cut, on_err, on_err_then, on_ok, rows_cut, whole}
use Rattle.tc_closed.proofs.reports.closed_report.Goals as goal

pub returns-clause-told : goal.returns-clause-told
returns-clause-told g c clean =
    IfOk-weaker c.put-2.result _ _ (λ done wrote version ledger held.
    let mid = c.in_ok-write_pages.ensures.prints.reads.clean clean in
    let head = c.in_ok-head.ensures.head.told mid version ledger held in
    let rows = c.in_ok-write_pages.ensures.told clean version ledger (c.in_ok-head.ensures.head.reads.holds mid version ledger held) in
    let first = subst (λ bytes. Appends (g.W.Write.contents (inner_of c.args.writer.now)) (g.W.Write.contents (inner_of c.put.new.writer)) bytes) c.as_bytes.ensures.value c.in_ok-put.ensures.writes.written in
    let last = subst (λ bytes. Appends (g.W.Write.contents (inner_of c.write_pages.new.writer)) (g.W.Write.contents (inner_of c.put-2.new.writer)) bytes) c.as_bytes-2.ensures.value wrote in (
      (string_bytes c.in_ok-head.head ++ rows.0) ++ codes "END\n",
      whole ledger.image c.args.from c.args.to (string_bytes c.in_ok-head.head) rows.0 head rows.1,
      Appends-trans _ _ _ (string_bytes c.in_ok-head.head ++ rows.0) (codes "END\n") (Appends-trans _ _ _ (string_bytes c.in_ok-head.head) rows.0 first rows.2) last,
    )) c.put-2.ensures.writes.written

-- ---- where it fails

pub returns-in_err-head-clause-cut : goal.returns-in_err-head-clause-cut
returns-in_err-head-clause-cut g c clean = on_err c.from_residual.result _ (λ version ledger held. ([], inl refl, Appends-nil _))

pub returns-in_err-put-clause-cut : goal.returns-in_err-put-clause-cut
returns-in_err-put-clause-cut g c clean = on_err c.from_residual-in_err-put.result _ (λ version ledger held.
    let cut = c.in_err-put.ensures.writes.cut in
    (cut.0, head_cut ledger.image c.args.from c.args.to (string_bytes c.in_ok-head.head) cut.0 (c.in_ok-head.ensures.head.told clean version ledger held) (subst (λ bytes. IsCutShort bytes cut.0) c.as_bytes.ensures.value cut.1), cut.2))

pub returns-in_err-write_pages-clause-cut : goal.returns-in_err-write_pages-clause-cut
returns-in_err-write_pages-clause-cut g c clean = on_err c.from_residual-in_err-write_pages.result _ (λ version ledger held.
    let mid = c.in_err-write_pages.ensures.prints.left.clean clean in
    let head = string_bytes c.in_ok-head.head in
    let rows = c.in_err-write_pages.ensures.cut clean version ledger (c.in_ok-head.ensures.head.reads.holds mid version ledger held) in
    let first = subst (λ bytes. Appends (g.W.Write.contents (inner_of c.args.writer.now)) (g.W.Write.contents (inner_of c.put.new.writer)) bytes) c.as_bytes.ensures.value c.in_ok-put.ensures.writes.written in
    (head ++ rows.0, rows_cut ledger.image c.args.from c.args.to head rows.0 (c.in_ok-head.ensures.head.told mid version ledger held) rows.1, Appends-trans _ _ _ head rows.0 first rows.2))

pub returns-clause-cut : goal.returns-clause-cut
returns-clause-cut g c clean = on_err_then c.put-2.result _ _ c.put-2.ensures.writes.cut (λ last version ledger held.
    let mid = c.in_ok-write_pages.ensures.prints.reads.clean clean in
    let head = string_bytes c.in_ok-head.head in
    let rows = c.in_ok-write_pages.ensures.told clean version ledger (c.in_ok-head.ensures.head.reads.holds mid version ledger held) in
    let first = subst (λ bytes. Appends (g.W.Write.contents (inner_of c.args.writer.now)) (g.W.Write.contents (inner_of c.put.new.writer)) bytes) c.as_bytes.ensures.value c.in_ok-put.ensures.writes.written in (
      (head ++ rows.0) ++ last.0,
      end_cut ledger.image c.args.from c.args.to head rows.0 last.0 (c.in_ok-head.ensures.head.told mid version ledger held) rows.1 (subst (λ bytes. IsCutShort bytes last.0) c.as_bytes-2.ensures.value last.1),
      Appends-trans _ _ _ (head ++ rows.0) last.0 (Appends-trans _ _ _ head rows.0 first rows.2) last.2,
    ))

-- ---- what it leaves, and what it tells of

pub returns-clause-judged : goal.returns-clause-judged
returns-clause-judged g c clean = on_ok c.put-2.result _ (c.in_ok-head.ensures.judged (c.in_ok-write_pages.ensures.prints.reads.clean clean))

pub returns-in_err-write_pages-clause-prints : goal.returns-in_err-write_pages-clause-prints
returns-in_err-write_pages-clause-prints g c = record {
  reads = search rules;
  left = leaves_then g.S.Store c.args.tables.now c.closed_head.new.tables c.write_pages.new.tables c.in_ok-head.ensures.head.reads c.in_ok-head.ensures.head.left c.in_err-write_pages.ensures.prints.left;
  fault = search rules;
  counted = search rules;
}

pub returns-clause-prints : goal.returns-clause-prints
returns-clause-prints g c = record {
  reads = on_ok c.put-2.result _ (reads_then g.S.Store c.args.tables.now c.closed_head.new.tables c.write_pages.new.tables c.in_ok-head.ensures.head.reads c.in_ok-write_pages.ensures.prints.reads);
  left = leaves_then g.S.Store c.args.tables.now c.closed_head.new.tables c.write_pages.new.tables c.in_ok-head.ensures.head.reads c.in_ok-head.ensures.head.left c.in_ok-write_pages.ensures.prints.left;
  fault = search rules;
  counted = search rules;
}
