-- The lines were added one after the other.
use Rattle.std.proofs.Common.{◌≡◌, ℕ, List, [], ◌∷◌, ◌++◌, refl, ap, subst, IsTrue, arith, ◌∙◌}
use Rattle.std.specs.Prelude.{codes, sum}
use Rattle.std.specs.Fmt.{decimal}
use Rattle.std.specs.String.{string_bytes}
use Rattle.tc_types.specs.Lines.{places_line}
use Rattle.tc_types.specs.Words.{is_one_line}
use Rattle.tc_report.specs.ShiftReport.{IsReportHead, premise_text}
use Rattle.tc_report.specs.Texts.{ended}
use Rattle.tc_report.proofs.LineLemmas.{premise_one, head_one}
use Rattle.tc_report.proofs.TextLemmas.{added}
use Rattle.tc_report.proofs.heads.head_text.Goals as goal

pub returns : goal.returns
returns g c =
    let title : List ℕ = codes "SHIFT REPORT" in
    let begins : List ℕ = codes "from " ++ c.time_text-begins.result.bytes in
    let ends : List ℕ = codes "to   " ++ c.time_text-ends.result.bytes in
    let premise : List ℕ = codes "premise " ++ premise_text c.args.premise in
    let places : List ℕ = places_line (sum c.args.places.now) c.args.places.now in
    let many : List ℕ = codes "moves " ++ decimal c.args.many in
    let first : string_bytes c.in_ok-head.head ≡ ended (title ∷ []) = c.in_ok-head.ensures.ok in
    let second : string_bytes c.add_line.new.text ≡ ended (title ∷ begins ∷ []) = added (title ∷ []) begins c.as_str-2.result.now first c.in_ok-add_line.ensures (c.as_str-2.ensures.value ∙ c.in_ok-line_of.ensures ∙ ap (λ text. codes "from " ++ text) c.as_str.ensures.value) in
    let third : string_bytes c.add_line-2.new.text ≡ ended (title ∷ begins ∷ ends ∷ []) = added (title ∷ begins ∷ []) ends c.as_str-4.result.now second c.in_ok-add_line-2.ensures (c.as_str-4.ensures.value ∙ c.in_ok-line_of-2.ensures ∙ ap (λ text. codes "to   " ++ text) c.as_str-3.ensures.value) in
    let fourth : string_bytes c.add_line-3.new.text ≡ ended (title ∷ begins ∷ ends ∷ premise ∷ []) = added (title ∷ begins ∷ ends ∷ []) premise c.as_str-5.result.now third c.in_ok-add_line-3.ensures (c.as_str-5.ensures.value ∙ c.in_ok-line_of-3.ensures ∙ ap (λ text. codes "premise " ++ text) c.name.ensures) in
    let fifth : string_bytes c.add_line-4.new.text ≡ ended (title ∷ begins ∷ ends ∷ premise ∷ places ∷ []) =
    added (title ∷ begins ∷ ends ∷ premise ∷ []) places c.as_str-6.result.now fourth c.in_ok-add_line-4.ensures (c.as_str-6.ensures.value ∙ c.in_ok-places_text.ensures.text ∙ ap (λ n. places_line n c.args.places.now) c.requires) in
    let last : string_bytes c.add_line-5.new.text ≡ ended (title ∷ begins ∷ ends ∷ premise ∷ places ∷ many ∷ []) =
    added (title ∷ begins ∷ ends ∷ premise ∷ places ∷ []) many c.as_str-7.result.now fifth c.in_ok-add_line-5.ensures (c.as_str-7.ensures.value ∙ c.in_ok-moves_line.ensures) in
    let lines : List (List ℕ) = title ∷ begins ∷ ends ∷ premise ∷ places ∷ many ∷ [] in
    let head : IsReportHead (premise_text c.args.premise) c.args.places.now c.args.many c.args.from c.args.to lines =
    (c.time_text-begins.result.bytes, c.time_text-ends.result.bytes, c.time_text-begins.ensures.text, c.time_text-ends.ensures.text, refl) in
    let counted : IsTrue (is_one_line places) = subst (λ n. IsTrue (is_one_line (places_line n c.args.places.now))) c.requires c.in_ok-places_text.ensures.one_line in
    (lines, head, head_one (premise_text c.args.premise) c.args.places.now c.args.many c.args.from c.args.to lines (premise_one c.args.premise) counted (omega (arith, c.ranges.many.fits)) head, last)
