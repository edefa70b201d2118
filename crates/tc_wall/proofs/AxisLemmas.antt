-- Where moments lie on the axis, and how many lines it has.
use Rattle.std.proofs.Common.{◌≡◌, ℕ, ◌+◌, ◌*◌, ◌≤◌, max, Bool, true, false, nat_le, ◌==◌, if◌then◌else◌, Some, List, [], ◌∷◌, ◌++◌, length, reverse, refl, sym, subst, arith}
use Rattle.std.proofs.Math.Nat.{div-le_of_le-mul}
use Rattle.std.proofs.lemmas.Bool.{leb-true}
use Rattle.std.proofs.lemmas.List.{reverse-append}
use Rattle.std.specs.List.{AllByRecursion, find}
use Rattle.tc_wall.specs.declared.axes.Mark.{Mark}
use Rattle.tc_wall.specs.declared.axes.TheConstants.{APART}
use Rattle.tc_wall.specs.declared.walls.Way.{Way}
use Rattle.tc_wall.specs.Axis.{gap, reach_on, place_on, marks_on, marks_of, moments_of, axis_of, x_at, x_of, lines_before, lines_back, lines_of}

-- no mark lies behind the last moment
abbrev pub IsOnAxis : Mark → Type 0
IsOnAxis mark = mark.x ≤ 560

place_small : (reach far : ℕ) → far ≤ reach → place_on reach far ≤ 560
place_small reach far h = div-le_of_le-mul (max reach 1) (omega arith)

marks_small : (reach before far : ℕ) (moments : List ℕ) → far + reach_on before moments ≤ reach → AllByRecursion IsOnAxis (marks_on reach before far moments)
unfolding reach_on marks_on
marks_small reach before far [] h = tt
marks_small reach before far (moment ∷ others) h =
    (place_small reach (far + gap before moment) (omega arith), marks_small reach moment (far + gap before moment) others (omega arith))

all_small : (moments : List ℕ) → AllByRecursion IsOnAxis (marks_of moments)
unfolding marks_of
all_small [] = tt
all_small (first ∷ others) = (omega arith, marks_small (reach_on first others) first 0 others (omega arith))

pub axis_small : (ways : List Way) → AllByRecursion IsOnAxis (axis_of ways)
unfolding axis_of
axis_small ways = all_small (moments_of ways)

-- so does a moment that is found
found_small : (axis : List Mark) (moment : ℕ) → AllByRecursion IsOnAxis axis → x_at (find (λ mark. mark.moment == moment) axis) ≤ 560
found_small [] moment all = omega arith
found_small (mark ∷ others) moment all = by (mark.moment == moment) (found_small others moment all.1)
  where
    by : (b : Bool) → x_at (find (λ m. m.moment == moment) others) ≤ 560 → x_at (if b then Some mark else find (λ m. m.moment == moment) others) ≤ 560
    by true h = all.0
    by false h = h

pub x_small : (axis : List Mark) (moment : ℕ) → AllByRecursion IsOnAxis axis → x_of axis moment ≤ 560
unfolding x_of
x_small axis moment all = found_small axis moment all

-- one more of which something holds
pub all_appended : {X : Type 0} (P : X → Type 0) (xs : List X) (y : X) → AllByRecursion P xs → P y → AllByRecursion P (xs ++ y ∷ [])
all_appended P [] y all one = (one, tt)
all_appended P (x ∷ xs) y all one = (all.0, all_appended P xs y all.1 one)

pub all_reversed : {X : Type 0} (P : X → Type 0) (xs : List X) → AllByRecursion P xs → AllByRecursion P (reverse xs)
all_reversed P [] all = tt
all_reversed P (x ∷ xs) all = subst (AllByRecursion P) (sym (reverse-append (x ∷ []) xs)) (all_appended P (reverse xs) x (all_reversed P xs all.1) all.0)

before_small : (x : ℕ) (marks : List Mark) → AllByRecursion IsOnAxis marks → AllByRecursion IsOnAxis (lines_before x marks)
unfolding lines_before
before_small x [] all = tt
before_small x (mark ∷ others) all = by (nat_le (mark.x + APART) x) (λ from. before_small from others all.1)
  where
    by : (b : Bool) → ((from : ℕ) → AllByRecursion IsOnAxis (lines_before from others)) → AllByRecursion IsOnAxis (if b then mark ∷ lines_before mark.x others else lines_before x others)
    by true h = (all.0, h mark.x)
    by false h = h x

back_small : (marks : List Mark) → AllByRecursion IsOnAxis marks → AllByRecursion IsOnAxis (lines_back marks)
unfolding lines_back
back_small [] all = tt
back_small (mark ∷ others) all = (all.0, before_small mark.x others all.1)

pub lines_small : (axis : List Mark) → AllByRecursion IsOnAxis axis → AllByRecursion IsOnAxis (lines_of axis)
unfolding lines_of
lines_small axis all = back_small (reverse axis) (all_reversed IsOnAxis axis all)

-- each line takes its room
before_few : (x : ℕ) (marks : List Mark) → 140 * length (lines_before x marks) ≤ x
unfolding lines_before
before_few x [] = omega arith
before_few x (mark ∷ others) = by (nat_le (mark.x + APART) x) refl (λ from. before_few from others)
  where
    by : (b : Bool) → nat_le (mark.x + APART) x ≡ b → ((from : ℕ) → 140 * length (lines_before from others) ≤ from) → 140 * length (if b then mark ∷ lines_before mark.x others else lines_before x others) ≤ x
    by true apart h = omega (arith, leb-true (mark.x + APART) x apart, h mark.x)
    by false apart h = h x

back_few : (marks : List Mark) → AllByRecursion IsOnAxis marks → length (lines_back marks) ≤ 5
unfolding lines_back
back_few [] all = omega arith
back_few (mark ∷ others) all = omega (arith, before_few mark.x others, all.0)

pub lines_few : (axis : List Mark) → AllByRecursion IsOnAxis axis → length (lines_of axis) ≤ 5
unfolding lines_of
lines_few axis all = back_few (reverse axis) (all_reversed IsOnAxis axis all)
