-- Which numbers of a script's lines were used before, as the desk tells it: a call under each is posted that asks for nothing, so that no act is done by it.
-- Only a number that was used is answered without a refusal.
use Rattle.std.specs.Prelude.{◌≡◌, ◌==◌, ◌-◌, ℕ, Bool, Option, Some, if◌then◌else◌, codes, List, [], ◌∷◌, ◌++◌, length, slice_get}
use Rattle.std.specs.Fmt.{decimal}
use Rattle.tc_posts.specs.declared.posting.Posting.{Posting}
use Rattle.tc_posts.specs.Posting.{AsksNothing, post_bytes}
use Rattle.tc_posts.specs.Steps.{Line, Step, sent}
use Rattle.tc_posts.specs.Told.{Answer, Tells}

-- a number that was used, and none where it was not
abbrev pub numbers_if : Bool → ℕ → List ℕ
numbers_if used number = if used then number ∷ [] else []

-- It is asked whether the number of a line was used. It is in the list if it was.
abbrev pub IsAsked : ℕ → Line → List Step → List ℕ → Type 0
IsAsked port (line, number, place) steps used = (asked : Posting) × (response : List ℕ) × (answer : Answer)
    × AsksNothing line asked × Tells response answer
    × (steps ≡ sent (post_bytes port asked number) response ∷ []) × (used ≡ numbers_if (answer.refusal == 0) number)

-- Each of these lines is asked for, in order.
abbrev pub AreAsked : ℕ → List Line → List Step → List ℕ → Type 0
AreAsked port [] steps used = (steps ≡ []) × (used ≡ [])
AreAsked port (line ∷ lines) steps used = (first rest : List Step) × (here there : List ℕ) × (steps ≡ first ++ rest) × (used ≡ here ++ there)
    × IsAsked port line first here × AreAsked port lines rest there

-- ---- what is said of them

-- a number is used
abbrev pub one_note : ℕ → List ℕ
one_note number = codes "number " ++ decimal number ++ codes " is used: its reply is that of the first run"

-- the numbers from one to another are used
abbrev pub range_note : ℕ → ℕ → List ℕ
range_note first last = codes "numbers " ++ decimal first ++ codes " to " ++ decimal last ++ codes " are used: their replies are those of the first run"

-- so many numbers are used, of which this is the first and that the last: one, or all between them, or fewer
abbrev pub note_of : ℕ → ℕ → ℕ → List ℕ
note_of first last count =
    if count == 1 then one_note first else
    if last - first == count - 1 then range_note first last else decimal count ++ codes " of the " ++ range_note first last

-- these are used; nothing is said of none
abbrev pub note_between : Option ℕ → Option ℕ → ℕ → List ℕ
note_between (Some first) (Some last) count = note_of first last count
note_between first last count = []

abbrev pub used_note : List ℕ → List ℕ
used_note used = note_between (slice_get used 0) (slice_get used (length used - 1)) (length used)
