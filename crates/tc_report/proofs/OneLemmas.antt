-- One text alone is the report of a shift.
use Rattle.std.proofs.Common.{◌≡◌, ℕ, List, [], ◌∷◌, ◌++◌, Some, false, length, refl, sym, ap, ap₂, ◌∙◌}
use Rattle.std.specs.Prelude.{sum, codes}
use Rattle.std.specs.Fmt.{decimal}
use Rattle.std.specs.List.{AllZip}
use Rattle.jiff_core.specs.declared.civil.datetime.DateTime.{DateTime}
use Rattle.jiff_core.specs.DateTime.{civil_nanos}
use Rattle.jiff_core.proofs.DateLemmas.{epoch_day_injective}
use Rattle.jiff_core.proofs.DateTimeLemmas.{civil_nanos_injective, time_nanos_injective}
use Rattle.jiff_fmt.specs.Text.{datetime_text}
use Rattle.tc_types.specs.declared.history.moves.Move.{Move}
use Rattle.tc_types.specs.History.{shift_rows}
use Rattle.tc_types.specs.Lines.{spaced, from_word, place_name, cause_name, places_line}
use Rattle.tc_report.specs.ShiftReport.{IsTimeText, IsReportLine, IsReportHead, IsReport, left_in, right_in}

same_text : (x y : DateTime) → civil_nanos x ≡ civil_nanos y → datetime_text false 32 (Some 0) x ≡ datetime_text false 32 (Some 0) y
same_text x y e =
    let days = civil_nanos_injective x y e in
    let date = epoch_day_injective x.date y.date days.0 in
    let time = time_nanos_injective x.time y.time days.1 in
    rw (date.0, date.1, date.2, time.0, time.1, time.2) refl

one_time : (moment : ℕ) (a b : List ℕ) → IsTimeText moment a → IsTimeText moment b → a ≡ b
one_time moment a b x y = x.2 ∙ same_text x.0 y.0 (x.1 ∙ sym y.1) ∙ sym y.2

one_line : (row : Move) (a b : List ℕ) → IsReportLine row a → IsReportLine row b → a ≡ b
one_line row a b x y =
    x.2
    ∙ ap (λ time. spaced (right_in 8 (decimal row.seq) ∷ time ∷ left_in 16 row.by ∷ right_in 6 (decimal row.request) ∷ left_in 9 (from_word row.from) ∷ left_in 9 (place_name row.to) ∷ cause_name row.cause ∷ [])) (one_time row.moment x.0 y.0 x.1 y.1)
    ∙ sym y.2

one_each : (rows : List Move) (a b : List (List ℕ)) → AllZip IsReportLine rows a → AllZip IsReportLine rows b → a ≡ b
one_each [] [] [] x y = refl
one_each [] [] (l ∷ b) x y = absurd y
one_each [] (l ∷ a) b x y = absurd x
one_each (row ∷ rows) [] b x y = absurd x
one_each (row ∷ rows) (l ∷ a) [] x y = absurd y
one_each (row ∷ rows) (l ∷ a) (m ∷ b) x y = ap₂ (λ line lines. line ∷ lines) (one_line row l m x.0 y.0) (one_each rows a b x.1 y.1)

one_head : (premise counts : List ℕ) (many from to : ℕ) (a b : List (List ℕ)) → IsReportHead premise counts many from to a → IsReportHead premise counts many from to b → a ≡ b
one_head premise counts many from to a b x y =
    x.4
    ∙ ap₂ (λ begins ends. codes "SHIFT REPORT" ∷ (codes "from " ++ begins) ∷ (codes "to   " ++ ends) ∷ (codes "premise " ++ premise) ∷ places_line (sum counts) counts ∷ (codes "moves " ++ decimal many) ∷ []) (one_time from x.0 y.0 x.2 y.2) (one_time to x.1 y.1 x.3 y.3)
    ∙ sym y.4

pub one_report : (premise counts : List ℕ) (moves : List Move) (from to : ℕ) (a b : List (List ℕ)) → IsReport premise counts moves from to a → IsReport premise counts moves from to b → a ≡ b
one_report premise counts moves from to a b x y =
    x.4
    ∙ ap₂ (λ head rows. head ++ rows ++ codes "END" ∷ []) (one_head premise counts (length (shift_rows from to moves)) from to x.0 y.0 x.2 y.2) (one_each (shift_rows from to moves) x.1 y.1 x.3 y.3)
    ∙ sym y.4
