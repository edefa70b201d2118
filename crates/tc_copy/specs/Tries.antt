-- How a desk's two files are copied: read again and again, until both were read of one state.
use Rattle.std.specs.Prelude.{◌≡◌, ◌≢◌, ◌⊎◌, ◌<◌, ℕ, zero, suc, true, false, List, [], ◌∷◌, ◌++◌}
use Rattle.tc_copy.specs.declared.marks.Marks.{Marks}
use Rattle.tc_copy.specs.declared.pairs.Unpaired.{Unpaired}
use Rattle.tc_copy.specs.declared.pairs.Unpaired.TheVariants.{Named, Unlogged, Unopened}
use Rattle.tc_copy.specs.declared.copying.Reading.{Reading}
use Rattle.tc_copy.specs.declared.copying.Reading.TheVariants.{Torn, Unpaired as NoPair, Whole}
use Rattle.tc_copy.specs.Asked.{Asked, looked, paused, reading_till}
use Rattle.tc_copy.specs.Copies.{CopiesMoment}
use Rattle.tc_copy.specs.Marks.{IsOneState}
use Rattle.tc_copy.specs.Pairs.{HaveOneName, IsPair, is_log_held}

-- why these are not the marks of one desk's two files: a second name comes before all else
abbrev pub IsNoPair : Marks → Unpaired → Type 0
IsNoPair marks Named = ¬ HaveOneName marks
IsNoPair marks Unlogged = HaveOneName marks × (marks.is_held ≡ true) × (is_log_held marks.log ≡ false)
IsNoPair marks Unopened = HaveOneName marks × (marks.is_held ≡ false) × (is_log_held marks.log ≡ true)

-- One try, by what was asked: the marks, the database file, its log, and the marks again. It is whole where both marks are of one state, and then
-- a moment of the desk; torn where they are not; and the two files are no pair where the last marks say so, which may be the first ones.
abbrev pub IsTry : Reading → List Asked → Type 0
IsTry Whole asked = (before : Marks) × (behind : Marks) × (asked ≡ looked before ∷ reading_till behind)
    × IsOneState before behind × CopiesMoment before behind
IsTry Torn asked = (before : Marks) × (behind : Marks) × (asked ≡ looked before ∷ reading_till behind) × IsPair behind × ¬ IsOneState before behind
IsTry (NoPair why) asked = (marks : Marks) × IsNoPair marks why
    × ((asked ≡ looked marks ∷ []) ⊎ ((before : Marks) × (asked ≡ looked before ∷ reading_till marks)))

-- so many tries in vain, each with a pause behind it, of which the last ended so
abbrev pub AreInVain : ℕ → Reading → List Asked → Type 0
AreInVain zero reading asked = (asked ≡ []) × (reading ≡ Torn)
AreInVain (suc count) reading asked = (earlier : List Asked) × (last : List Asked) × (other : Reading)
    × (asked ≡ earlier ++ (last ++ paused ∷ [])) × AreInVain count other earlier × (reading ≢ Whole) × IsTry reading last

-- Both are read until they were read whole; so many tries are made at most.
abbrev pub AreTries : ℕ → Reading → List Asked → Type 0
AreTries most Whole asked = (count : ℕ) × (other : Reading) × (earlier : List Asked) × (last : List Asked)
    × (count < most) × (asked ≡ earlier ++ last) × AreInVain count other earlier × IsTry Whole last
AreTries most reading asked = AreInVain most reading asked
