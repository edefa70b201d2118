-- What a client of a desk does.
use Rattle.std.specs.Prelude.{◌==◌, ◌||◌, ℕ, Bool, false, not, List, [], ◌∷◌}
use Rattle.tc_posts.specs.Told.{Answer}

-- a line, the number of its call, and that of the line in its script
abbrev pub Line : Type 0
Line = List ℕ × ℕ × ℕ

-- A request was sent, and this came back until its end; it was said which numbers are used; what a line was answered was shown, or what the last question was.
-- A refusal is a number, and 0 where there is none.
pub data Step : Type 0 where
  sent : (request : List ℕ) (response : List ℕ) → Step
  said : (used : List ℕ) → Step
  answered : (line : Line) (answer : Answer) → Step
  placed : (answer : Answer) → Step

-- an answer that is a refusal
abbrev pub is_refusal : Answer → Bool
is_refusal answer = not (answer.refusal == 0)

-- something that is shown in these steps is a refusal
abbrev pub refuses : List Step → Bool
refuses [] = false
refuses (sent request response ∷ steps) = refuses steps
refuses (said used ∷ steps) = refuses steps
refuses (answered line answer ∷ steps) = is_refusal answer || refuses steps
refuses (placed answer ∷ steps) = is_refusal answer || refuses steps
