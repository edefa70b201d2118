-- What a line waits for, and who may act on it.
use Rattle.std.specs.Prelude.{ℕ, Bool, if◌then◌else◌, Option, Some, None, List, [], ◌∷◌, ◌++◌, codes}
use Rattle.tc_types.specs.declared.waits.Wanting.{Wanting}
use Rattle.tc_types.specs.declared.waits.Lock.{Lock}
use Rattle.tc_types.specs.declared.waits.Waiting.{Waiting}
use Rattle.tc_types.specs.declared.waits.Waiting.TheVariants as waiting
use Rattle.tc_types.specs.WaitingLines.{given, wanted}
use Rattle.tc_urgent.specs.declared.kinds.UrgentKind.{UrgentKind}
use Rattle.tc_urgent.specs.declared.kinds.UrgentKind.TheVariants.{InDoubt, FailedSince, Approval, StepDue, Flying, LostReport, Free, ActivityOf, LockedForever, Locked}
use Rattle.tc_wall.specs.declared.walls.UrgentRow.{UrgentRow}
use Rattle.tc_wall.specs.Parts.{Part, Fixed, Number, Person, fixed}

-- ---- approvals

-- how many approved, and how many are wanted
unfoldable pub approvals_parts : Wanting → List Part
approvals_parts w = Fixed (codes "approval ") ∷ Number (given w) ∷ Fixed (codes " of ") ∷ Number (wanted w) ∷ []

-- who may not approve: the author, and who approved already
unfoldable pub author_parts : List ℕ → List Part
author_parts author = Fixed (codes "</td><td>not ") ∷ Person author ∷ []

unfoldable pub other_parts : Option (List ℕ) → List Part
other_parts None = []
other_parts (Some person) = Fixed (codes ", ") ∷ Person person ∷ []

unfoldable pub wanting_parts : Wanting → List Part
wanting_parts w = approvals_parts w ++ author_parts w.author ++ other_parts w.by

-- that of a request, or of its stack
abbrev pub approval_of : Waiting → List Part
approval_of (waiting.Request n approval) = wanting_parts approval
approval_of (waiting.Stack stack approval rows first) = wanting_parts approval
approval_of other = fixed (codes "approval</td><td>")

abbrev pub approval_parts : Option Waiting → List Part
approval_parts None = fixed (codes "approval</td><td>")
approval_parts (Some waits) = approval_of waits

-- ---- steps

-- the text of a step, if it is known
abbrev pub text_of : Option (List ℕ) → List ℕ
text_of None = []
text_of (Some text) = text

-- by whom a step is worked
unfoldable pub whom_word : Bool → List ℕ
whom_word is_countersigned = if is_countersigned then codes "two persons" else codes "anyone"

unfoldable pub next_parts : ℕ → Bool → List ℕ → List Part
next_parts step is_countersigned text =
    Fixed (codes "step ") ∷ Number step ∷ Fixed (codes ": ") ∷ Person text ∷ Fixed (codes "</td><td>") ∷ Fixed (whom_word is_countersigned) ∷ []

abbrev pub step_parts : Option Waiting → List ℕ → List Part
step_parts (Some (waiting.Step execution procedure step is_countersigned)) text = next_parts step is_countersigned text
step_parts other text = fixed (codes "step</td><td>anyone")

-- ---- locks

-- the line of a stack that has to be completed before
unfoldable pub line_parts : Lock → List Part
line_parts lock = Fixed (codes " by line ") ∷ Number lock.line ∷ Fixed (codes " of ") ∷ Person lock.stack ∷ []

abbrev pub lock_parts : Option Waiting → List Part
lock_parts (Some (waiting.Locked n lock)) = line_parts lock
lock_parts other = []

unfoldable pub forever_parts : Option Waiting → List Part
forever_parts waits = fixed (codes "LOCKED FOR EVER") ++ lock_parts waits ++ fixed (codes "</td><td>withdraw it")

unfoldable pub locked_parts : Option Waiting → List Part
locked_parts waits = fixed (codes "locked") ++ lock_parts waits ++ fixed (codes "</td><td>nobody yet")

-- ---- all kinds

-- an insert takes the activity along
unfoldable pub activity_parts : ℕ → List Part
activity_parts insert = Fixed (codes "activity of ") ∷ Number insert ∷ Fixed (codes ": do not release</td><td>nobody") ∷ []

abbrev pub says_parts : UrgentKind → Option Waiting → List ℕ → List Part
says_parts InDoubt waits text = fixed (codes "IN DOUBT: on board or not?</td><td>anyone")
says_parts FailedSince waits text = fixed (codes "FAILED</td><td>look why")
says_parts Approval waits text = approval_parts waits
says_parts StepDue waits text = step_parts waits text
says_parts Flying waits text = fixed (codes "on its way, or on board</td><td>nobody")
says_parts LostReport waits text = fixed (codes "REPORT LOST, or late</td><td>look why")
says_parts Free waits text = fixed (codes "release</td><td>anyone")
says_parts (ActivityOf insert) waits text = activity_parts insert
says_parts LockedForever waits text = forever_parts waits
says_parts Locked waits text = locked_parts waits
