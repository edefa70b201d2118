-- The head, the rows, and the last line.
use Rattle.std.proofs.Common.{ℕ, List, [], ◌∷◌, ◌++◌, refl, sym, ap, subst, ◌∙◌}
use Rattle.std.specs.Prelude.{codes}
use Rattle.tc_report.specs.Texts.{ended}
use Rattle.tc_report.specs.ShiftReport.{IsReportHead, premise_text}
use Rattle.tc_report.proofs.TextLemmas.{ended-append, lines-append}
use Rattle.tc_report.proofs.reports.report_text.Goals as goal

pub returns : goal.returns
returns g c =
    let head = c.in_ok-report.ensures in
    let rows = c.in_ok-add_rows_within.ensures in
    let last : List (List ℕ) = codes "END" ∷ [] in (
      head.0 ++ rows.0 ++ last,
      (head.0, rows.0, subst (λ many. IsReportHead (premise_text c.args.premise) c.args.places.now many c.args.from c.args.to head.0) c.count_within-many.ensures head.1, rows.1, refl),
      lines-append (head.0 ++ rows.0) last (lines-append head.0 rows.0 head.2 rows.2) refl,
      c.in_ok-push_str.ensures.bytes
          ∙ ap (λ text. text ++ codes "END\n") (rows.3 ∙ ap (λ text. text ++ ended rows.0) head.3)
          ∙ ap (λ text. text ++ ended last) (sym (ended-append head.0 rows.0))
          ∙ sym (ended-append (head.0 ++ rows.0) last),
    )
