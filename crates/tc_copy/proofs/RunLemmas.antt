-- What a run leaves of the marks that were read before it: the log that is emptied in it does not stand under their head again.
use Rattle.std.proofs.Common.{◌≡◌, ◌≢◌, ℕ, List, [], ◌∷◌, ◌++◌, Option, Some, subst, sym}
use Rattle.std.specs.Prelude.{IfSome, ⊤}
use Rattle.tc_copy.specs.declared.marks.Marks.{Marks}
use Rattle.tc_copy.specs.Marks.{head_of}
use Rattle.tc_copy.specs.Files.{AllHappen, Event, Files, after, after_all, committed, emptied, filled}

-- the log stands under no head, or under another than it had
abbrev pub IsOther : Marks → Marks → Type 0
IsOther before marks = IfSome (head_of marks.log) (λ head. head_of before.log ≢ Some head)

-- the log is emptied in one of these events
abbrev pub Empties : List Event → Type 0
Empties [] = ⊥
Empties (emptied marks ∷ events) = ⊤
Empties (other ∷ events) = Empties events

pub empties_first : (first rest : List Event) → Empties first → Empties (first ++ rest)
empties_first [] rest empties = absurd empties
empties_first (committed frames marks ∷ first) rest empties = empties_first first rest empties
empties_first (filled page marks ∷ first) rest empties = empties_first first rest empties
empties_first (emptied marks ∷ first) rest empties = tt

pub empties_last : (first rest : List Event) → Empties rest → Empties (first ++ rest)
empties_last [] rest empties = empties
empties_last (committed frames marks ∷ first) rest empties = empties_last first rest empties
empties_last (filled page marks ∷ first) rest empties = empties_last first rest empties
empties_last (emptied marks ∷ first) rest empties = tt

-- a head that stays is other as long
stays_other : (before old new : Marks) → head_of new.log ≡ head_of old.log → IsOther before old → IsOther before new
stays_other before old new same other = subst (λ (o : Option (List ℕ)). IfSome o (λ head. head_of before.log ≢ Some head)) (sym same) other

other_behind : (before : Marks) (files : Files) (events : List Event) → AllHappen before files events → IsOther before files.marks
    → IsOther before (after_all files events).marks
other_behind before files [] happen other = other
other_behind before files (committed frames marks ∷ events) happen other =
    other_behind before (after files (committed frames marks)) events happen.1 (stays_other before files.marks marks happen.0.0 other)
other_behind before files (filled page marks ∷ events) happen other =
    other_behind before (after files (filled page marks)) events happen.1 (stays_other before files.marks marks happen.0.1 other)
other_behind before files (emptied marks ∷ events) happen other =
    other_behind before (after files (emptied marks)) events happen.1 happen.0.0

-- once it was emptied it does not stand under that head
pub other_emptied : (before : Marks) (files : Files) (events : List Event) → AllHappen before files events → Empties events
    → IsOther before (after_all files events).marks
other_emptied before files [] happen empties = absurd empties
other_emptied before files (committed frames marks ∷ events) happen empties =
    other_emptied before (after files (committed frames marks)) events happen.1 empties
other_emptied before files (filled page marks ∷ events) happen empties =
    other_emptied before (after files (filled page marks)) events happen.1 empties
other_emptied before files (emptied marks ∷ events) happen empties =
    other_behind before (after files (emptied marks)) events happen.1 happen.0.0

-- what is read behind some event is not what was read before
other_than_before : (before : Marks) (files : Files) (event : Event) (events : List Event) → AllHappen before files (event ∷ events)
    → (after_all files (event ∷ events)).marks ≢ before
other_than_before before files (committed frames marks) [] happen = happen.0.1
other_than_before before files (filled page marks) [] happen = happen.0.2
other_than_before before files (emptied marks) [] happen = happen.0.1
other_than_before before files event (next ∷ events) happen = other_than_before before (after files event) next events happen.1

-- where the marks are as they were, nothing happened
pub nothing_happened : (before : Marks) (files : Files) (events : List Event) → AllHappen before files events
    → (after_all files events).marks ≡ before → Empties events → ⊥
nothing_happened before files [] happen same empties = empties
nothing_happened before files (event ∷ events) happen same empties = other_than_before before files event events happen same
