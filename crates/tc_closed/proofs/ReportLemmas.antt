-- The report of tables alone, as it is written in pieces.
use Rattle.std.proofs.Common.{◌≡◌, ◌∙◌, ◌++◌, ◌∷◌, ◌⊎◌, [], inl, inr, ℕ, List, refl, sym, ap, append_assoc, append-nil}
use Rattle.std.specs.Prelude.{◌≢◌, codes, IfErr, IsErrAnd, OnErr, OnOk, Result, Ok, Err}
use Rattle.tc_types.specs.declared.history.moves.Move.{Move}
use Rattle.tc_types.specs.History.{shift_rows}
use Rattle.tc_types.specs.Tables.{Image}
use Rattle.tc_types.specs.declared.refusals.Refusal.{Refusal}
use Rattle.tc_types.specs.declared.refusals.Refusal.TheVariants as refusal
use Rattle.tc_report.specs.ShiftReport.{AreAdded}
use Rattle.tc_report.specs.Texts.{ended}
use Rattle.tc_report.proofs.RowLemmas.{more_added, none_added}
use Rattle.tc_report.proofs.TextLemmas.{ended-append, lines-append}
use Rattle.tc_closed.specs.Closed.{IsClosedHead, IsClosedReport}
use Rattle.tc_front.specs.Write.{IsCutShort}
use Rattle.tc_closed.specs.Reports.{CutsReport, CutsRows}
use Rattle.tc_closed.specs.declared.scripts.ScriptFault.{ScriptFault}
use Rattle.tc_closed.specs.declared.scripts.ScriptFault.TheVariants.{Output, Memory, Tables}
use Rattle.tc_closed.specs.Scripts.{fault_of}

-- lines that were made by themselves, behind a text
behind : (rows : List Move) (front text : List ℕ) → AreAdded rows [] text → AreAdded rows front (front ++ text)
behind rows front text added = (added.0, added.1, added.2, ap (λ t. front ++ t) added.3)

-- the lines of a page behind those that were written
pub page_added : (before rows : List Move) (written text : List ℕ) → AreAdded before [] written → AreAdded rows [] text → AreAdded (before ++ rows) [] (written ++ text)
page_added before rows written text first then = more_added before rows [] written (written ++ text) first (behind rows written text then)

-- the head, the rows and the last line are a report
pub whole : (image : Image) (from to : ℕ) (head rows : List ℕ) → IsClosedHead image from to head → AreAdded (shift_rows from to image.moves) [] rows → IsClosedReport image from to ((head ++ rows) ++ codes "END\n")
whole image from to head rows begins added =
    let last : List (List ℕ) = codes "END" ∷ [] in (
      begins.0 ++ added.0 ++ last,
      (begins.0, added.0, begins.1, added.1, refl),
      lines-append (begins.0 ++ added.0) last (lines-append begins.0 added.0 begins.2 added.2) refl,
      ap (λ t. (t ++ rows) ++ ended last) begins.3
          ∙ ap (λ t. (ended begins.0 ++ t) ++ ended last) added.3
          ∙ ap (λ t. t ++ ended last) (sym (ended-append begins.0 added.0))
          ∙ sym (ended-append (begins.0 ++ added.0) last),
    )

-- a read that fails ends the report as want of memory, or of tables
pub ends_unread : {X : Type 0} (result : Result X ScriptFault) (why : Refusal) → (why ≡ refusal.Memory) ⊎ (why ≡ refusal.Store) → IsErrAnd result (λ fault. fault ≡ fault_of why)
    → IfErr result (λ fault. (fault ≡ Output) ⊎ (fault ≡ Memory) ⊎ (fault ≡ Tables))
ends_unread (Ok x) why kind gives = absurd gives
ends_unread (Err fault) why (inl is) gives = inr (inl (gives ∙ ap fault_of is))
ends_unread (Err fault) why (inr is) gives = inr (inr (gives ∙ ap fault_of is))

-- ---- a report that fails

pub on_err : {X E : Type 0} (result : Result X E) (P : Type 0) → P → OnErr result P
on_err (Ok x) P p = tt
on_err (Err e) P p = p

pub on_ok : {X E : Type 0} (result : Result X E) (P : Type 0) → P → OnOk result P
on_ok (Ok x) P p = p
on_ok (Err e) P p = tt

pub on_err_then : {X E : Type 0} (result : Result X E) (P Q : Type 0) → OnErr result P → (P → Q) → OnErr result Q
on_err_then (Ok x) P Q p then = tt
on_err_then (Err e) P Q p then = then p

abbrev end_line : List ℕ
end_line = codes "END\n"

-- what is behind a text that is not all is not nothing
some_left : (rest more : List ℕ) → rest ≢ [] → (rest ++ more) ≢ []
some_left [] more some none = some refl
some_left (x ∷ rest) more some none = cc

some_behind : (rest more : List ℕ) → more ≢ [] → (rest ++ more) ≢ []
some_behind [] more some none = some none
some_behind (x ∷ rest) more some none = cc

end_is_some : end_line ≢ []
end_is_some none = cc

-- the head is cut short
pub head_cut : (image : Image) (from to : ℕ) (head part : List ℕ) → IsClosedHead image from to head → IsCutShort head part → CutsReport image from to part
head_cut image from to head part begins (rest, are, left) = inr (
  head,
  [],
  shift_rows from to image.moves,
  [],
  begins,
  refl,
  none_added [],
  (rest ++ end_line, ap (λ t. t ++ end_line) (append-nil head ∙ are) ∙ append_assoc part rest end_line, some_left rest end_line left),
)

-- the lines of the moves are, behind the head
pub rows_cut : (image : Image) (from to : ℕ) (head part : List ℕ) → IsClosedHead image from to head → CutsRows image from to part → CutsReport image from to (head ++ part)
rows_cut image from to head part begins (first, others, rows, rest, are, added, text) = inr (
  head,
  first,
  others,
  rows,
  begins,
  are,
  added,
  (
    rest ++ end_line,
    ap (λ t. (head ++ t) ++ end_line) text ∙ ap (λ t. t ++ end_line) (sym (append_assoc head part rest)) ∙ append_assoc (head ++ part) rest end_line,
    some_behind rest end_line end_is_some,
  ),
)

-- the last line is, behind all of them
pub end_cut : (image : Image) (from to : ℕ) (head rows part : List ℕ) → IsClosedHead image from to head → AreAdded (shift_rows from to image.moves) [] rows → IsCutShort end_line part
    → CutsReport image from to ((head ++ rows) ++ part)
end_cut image from to head rows part begins added (rest, are, left) = inr (
  head,
  shift_rows from to image.moves,
  [],
  rows,
  begins,
  append-nil (shift_rows from to image.moves),
  added,
  (rest, ap (λ t. (head ++ rows) ++ t) are ∙ sym (append_assoc (head ++ rows) part rest), left),
)

-- all lines that were written are a front of themselves
pub rows_written : (image : Image) (from to : ℕ) (first others : List Move) (rows : List ℕ) → first ++ others ≡ shift_rows from to image.moves → AreAdded first [] rows → CutsRows image from to rows
rows_written image from to first others rows are added = (first, others, rows, [], are, added, sym (append-nil rows))

-- a page is cut short behind those before
pub page_cut : (image : Image) (from to : ℕ) (before rows others : List Move) (written text part : List ℕ) → (before ++ rows) ++ others ≡ shift_rows from to image.moves
    → AreAdded before [] written → AreAdded rows [] text → IsCutShort text part → CutsRows image from to (written ++ part)
page_cut image from to before rows others written text part are first then (rest, cut, left) =
    (before ++ rows, others, written ++ text, rest, are, page_added before rows written text first then, ap (λ t. written ++ t) cut ∙ sym (append_assoc written part rest))
