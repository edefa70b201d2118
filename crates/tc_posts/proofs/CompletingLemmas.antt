-- Replies that are completed.
use Rattle.std.proofs.Common.{◌≡◌, ◌+◌, ◌*◌, ℕ, Bool, true, false, List, [], ◌∷◌, ◌++◌, Option, Some, None, refl}
use Rattle.std.specs.Prelude.{◌||◌}
use Rattle.tc_posts.specs.Completing.{Asks, Completes, IsCut, IsWhole}
use Rattle.tc_posts.specs.Steps.{Line, Step, answered, is_refusal, refuses, sent}
use Rattle.tc_posts.specs.Told.{Answer}

or_nothing : (b : Bool) → b ≡ (b || false)
or_nothing true = refl
or_nothing false = refl

-- what is refused of a line that is sent is what is shown at its end
pub refuses_at_end : (port : ℕ) (answer last : Answer) (steps : List Step) (line : Line) → Completes port answer steps last
    → is_refusal last ≡ refuses (steps ++ answered line last ∷ [])
refuses_at_end port answer last steps line (IsWhole same none) = or_nothing (is_refusal same)
refuses_at_end port answer last steps line (IsCut same none) = or_nothing (is_refusal same)
refuses_at_end port answer last steps line (Asks here next there after response rest some at goes completes) = refuses_at_end port next there rest line completes

-- ---- each question brings what is left nearer to its end

abbrev pub last_work : Option ℕ → ℕ
last_work None = 0
last_work (Some number) = 1

-- how much is left to be done: two for each line that is left out, and one more while the last line tells a move
abbrev pub work_left : Answer → ℕ
work_left answer = 2 * answer.more + last_work answer.last
