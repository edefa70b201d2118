-- One step of each loop that does not add rows.
use Rattle.std.proofs.Common.{◌≡◌, ℕ, ◌+◌, ◌<◌, ◌≤◌, nat_le, ◌==◌, true, false, List, [], ◌∷◌, ◌++◌, length, drop, get_or, reverse, refl, sym, ap, ◌∙◌, arith, append_assoc, append-nil}
use Rattle.std.proofs.lemmas.List.{at_drop_more, at_drop_all, nil_from_length, reverse-append}
use Rattle.std.specs.List.{flat_map}
use Rattle.tc_types.specs.declared.history.moves.Move.{Move}
use Rattle.tc_wall.specs.declared.axes.Mark.{Mark}
use Rattle.tc_wall.specs.declared.axes.TheConstants.{APART}
use Rattle.tc_wall.specs.Parts.{Part, Adds}
use Rattle.tc_wall.specs.Axis.{gap, reach_on, place_on, marks_on, x_of, lines_before, lines_back, lines_of}
use Rattle.tc_wall.specs.Bars.{stage_parts, begin_of, end_of, bar_parts}
use Rattle.tc_wall.proofs.PartLemmas.{none_added, then_adds}

-- ---- how many seconds moments count

pub reach_next : (others : List ℕ) (k before far step moment whole : ℕ) → k < length others → moment ≡ get_or others k moment → step ≡ gap before moment → far + reach_on before (drop k others) ≡ whole
    → far + step + reach_on moment (drop (k + 1) others) ≡ whole
unfolding reach_on
reach_next others k before far step moment whole within is one h =
    let more : reach_on before (drop k others) ≡ gap before moment + reach_on moment (drop (k + 1) others) = at_drop_more (reach_on before) others k moment within ∙ ap (λ m. reach_on before (m ∷ drop (k + 1) others)) (sym is) in
    omega (arith, more, one, h)

pub reach_done : (others : List ℕ) (k before far whole : ℕ) → length others ≤ k → far + reach_on before (drop k others) ≡ whole → far ≡ whole
unfolding reach_on
reach_done others k before far whole all h =
    let none : reach_on before (drop k others) ≡ 0 = at_drop_all (reach_on before) others k all in
    omega (arith, none, h)

-- ---- the marks

pub marks_next : (reach : ℕ) (others : List ℕ) (k before far step moment x : ℕ) (axis new whole : List Mark) → k < length others → moment ≡ get_or others k moment → step ≡ gap before moment → x ≡ place_on reach (far + step)
    → new ≡ axis ++ record { moment = moment; x = x } ∷ [] → axis ++ marks_on reach before far (drop k others) ≡ whole → new ++ marks_on reach moment (far + step) (drop (k + 1) others) ≡ whole
unfolding marks_on
marks_next reach others k before far step moment x axis new whole within is one at pushed h =
    let more : marks_on reach before far (drop k others) ≡ record { moment = moment; x = place_on reach (far + gap before moment) } ∷ marks_on reach moment (far + gap before moment) (drop (k + 1) others) =
    at_drop_more (marks_on reach before far) others k moment within ∙ ap (λ m. marks_on reach before far (m ∷ drop (k + 1) others)) (sym is) in
    rw (pushed, at, one) (append_assoc axis _ _ ∙ ap (λ l. axis ++ l) (sym more) ∙ h)

pub marks_done : (reach : ℕ) (others : List ℕ) (k before far : ℕ) (axis whole : List Mark) → length others ≤ k → axis ++ marks_on reach before far (drop k others) ≡ whole → axis ≡ whole
unfolding marks_on
marks_done reach others k before far axis whole all h = sym (append-nil axis) ∙ ap (λ l. axis ++ l) (sym (at_drop_all (marks_on reach before far) others k all)) ∙ h

-- ---- the lines

last_first : {X : Type 0} (rest others : List X) (x : X) → rest ≡ others ++ x ∷ [] → reverse rest ≡ x ∷ reverse others
last_first rest others x is = ap reverse is ∙ reverse-append others (x ∷ [])

none_left : {X : Type 0} (rest : List X) → length rest ≡ 0 → reverse rest ≡ []
none_left rest none = ap reverse (nil_from_length rest none)

pub lines_taken : (x : ℕ) (mark : Mark) (others rest lines new whole : List Mark) → rest ≡ others ++ mark ∷ [] → nat_le (mark.x + APART) x ≡ true → new ≡ lines ++ mark ∷ [] → lines ++ lines_before x (reverse rest) ≡ whole
    → new ++ lines_before mark.x (reverse others) ≡ whole
unfolding lines_before
lines_taken x mark others rest lines new whole is apart pushed h =
    let more : lines_before x (reverse rest) ≡ mark ∷ lines_before mark.x (reverse others) = ap (lines_before x) (last_first rest others mark is) ∙ rw apart refl in
    rw pushed (append_assoc lines (mark ∷ []) _ ∙ ap (λ l. lines ++ l) (sym more) ∙ h)

pub lines_left : (x : ℕ) (mark : Mark) (others rest lines whole : List Mark) → rest ≡ others ++ mark ∷ [] → nat_le (mark.x + APART) x ≡ false → lines ++ lines_before x (reverse rest) ≡ whole
    → lines ++ lines_before x (reverse others) ≡ whole
unfolding lines_before
lines_left x mark others rest lines whole is near h =
    let more : lines_before x (reverse rest) ≡ lines_before x (reverse others) = ap (lines_before x) (last_first rest others mark is) ∙ rw near refl in
    ap (λ l. lines ++ l) (sym more) ∙ h

pub lines_done : (x : ℕ) (rest lines whole : List Mark) → length rest ≡ 0 → lines ++ lines_before x (reverse rest) ≡ whole → lines ≡ whole
unfolding lines_before
lines_done x rest lines whole none h = sym (append-nil lines) ∙ ap (λ l. lines ++ l) (sym (ap (lines_before x) (none_left rest none))) ∙ h

pub lines_none : (axis : List Mark) → length axis ≡ 0 → lines_of axis ≡ []
unfolding lines_of lines_back
lines_none axis none = ap lines_back (none_left axis none)

pub lines_some : (axis others lines pushed new : List Mark) (mark : Mark) → axis ≡ others ++ mark ∷ [] → lines ≡ [] → pushed ≡ lines ++ mark ∷ [] → new ≡ pushed ++ lines_before mark.x (reverse others) → new ≡ lines_of axis
unfolding lines_of lines_back
lines_some axis others lines pushed new mark is empty one h = h ∙ ap (λ l. l ++ lines_before mark.x (reverse others)) (one ∙ ap (λ l. l ++ mark ∷ []) empty) ∙ sym (ap lines_back (last_first axis others mark is))

-- ---- the x of a moment

pub x_next : (axis : List Mark) (k moment whole : ℕ) (mark : Mark) → k < length axis → mark ≡ get_or axis k mark → (mark.moment == moment) ≡ false → whole ≡ x_of (drop k axis) moment → whole ≡ x_of (drop (k + 1) axis) moment
unfolding x_of
x_next axis k moment whole mark within is other h =
    h ∙ at_drop_more (λ l. x_of l moment) axis k mark within ∙ ap (λ m. x_of (m ∷ drop (k + 1) axis) moment) (sym is) ∙ rw other refl

pub x_here : (axis : List Mark) (k moment whole : ℕ) (mark : Mark) → k < length axis → mark ≡ get_or axis k mark → (mark.moment == moment) ≡ true → whole ≡ x_of (drop k axis) moment → mark.x ≡ whole
unfolding x_of
x_here axis k moment whole mark within is same h =
    sym (h ∙ at_drop_more (λ l. x_of l moment) axis k mark within ∙ ap (λ m. x_of (m ∷ drop (k + 1) axis) moment) (sym is) ∙ rw same refl)

pub x_done : (axis : List Mark) (k moment whole : ℕ) → length axis ≤ k → whole ≡ x_of (drop k axis) moment → 0 ≡ whole
unfolding x_of
x_done axis k moment whole all h = sym (h ∙ at_drop_all (λ l. x_of l moment) axis k all)

-- ---- bars, and rows from the last on

pub bar_next : (axis : List Mark) (before begin end : ℕ) (row : Move) (others rest : List Move) (old mid new : List ℕ) → rest ≡ row ∷ others → begin ≡ begin_of axis before row → end ≡ end_of axis begin others
    → Adds (stage_parts row.to begin end) old mid → Adds (bar_parts axis begin others) mid new → Adds (bar_parts axis before rest) old new
unfolding bar_parts
bar_next axis before begin end row others rest old mid new is first last one more =
    rw (is, ← first, ← last) (then_adds (stage_parts row.to begin end) (bar_parts axis begin others) old mid new one more)

pub bar_done : (axis : List Mark) (before : ℕ) (rest : List Move) (old : List ℕ) → length rest ≡ 0 → Adds (bar_parts axis before rest) old old
unfolding bar_parts
bar_done axis before rest old none = rw (nil_from_length rest none) (none_added old)

pub last_more : {X : Type 0} (f : X → List Part) (rest others : List X) (x : X) (old mid new : List ℕ) → rest ≡ others ++ x ∷ [] → Adds (f x) old mid → Adds (flat_map f (reverse others)) mid new → Adds (flat_map f (reverse rest)) old new
last_more f rest others x old mid new is one more = rw (last_first rest others x is) (then_adds (f x) (flat_map f (reverse others)) old mid new one more)

pub last_done : {X : Type 0} (f : X → List Part) (rest : List X) (old : List ℕ) → length rest ≡ 0 → Adds (flat_map f (reverse rest)) old old
last_done f rest old none = rw (none_left rest none) (none_added old)
