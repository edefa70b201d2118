-- The lines of what waits for a person.
use Rattle.std.specs.Prelude.{ℕ, is_some, if◌then◌else◌, List, [], ◌∷◌, codes}
use Rattle.std.specs.Fmt.{decimal}
use Rattle.tc_types.specs.Grammar.{yes_no}
use Rattle.tc_types.specs.Lines.{spaced}
use Rattle.tc_types.specs.StepGrammar.{second_word}
use Rattle.tc_types.specs.declared.waits.Lock.{Lock}
use Rattle.tc_types.specs.declared.waits.Wanting.{Wanting}
use Rattle.tc_types.specs.declared.waits.Waiting.{Waiting}
use Rattle.tc_types.specs.declared.waits.Waiting.TheVariants.{Request, Stack, Free, Locked, Doubtful, Step}

-- how many approved so far
abbrev pub given : Wanting → ℕ
given w = if is_some w.by then 1 else 0

-- how many are wanted: two where it is critical
abbrev pub wanted : Wanting → ℕ
wanted w = if w.critical then 2 else 1

-- author PERSON critical yes|no approvals I of M by PERSON, - where nobody approved yet
unfoldable pub wanting_phrase : Wanting → List ℕ
wanting_phrase w =
    spaced (codes "author" ∷ w.author ∷ codes "critical" ∷ yes_no w.critical ∷ codes "approvals" ∷ decimal (given w) ∷ codes "of" ∷ decimal (wanted w) ∷ codes "by" ∷ second_word w.by ∷ [])

-- locked by line L of NAME
unfoldable pub lock_phrase : Lock → List ℕ
lock_phrase lock = spaced (codes "locked" ∷ codes "by" ∷ codes "line" ∷ decimal lock.line ∷ codes "of" ∷ lock.stack ∷ [])

-- request N Entered .., stack NAME Entered .. rows K first N, request N Approved free, request N Approved locked .., request N Doubtful, or
-- execution E PROCEDURE next S second yes|no
abbrev pub waiting_words : Waiting → List (List ℕ)
waiting_words (Request n approval) = codes "request" ∷ decimal n ∷ codes "Entered" ∷ wanting_phrase approval ∷ []
waiting_words (Stack name approval rows first) = codes "stack" ∷ name ∷ codes "Entered" ∷ wanting_phrase approval ∷ codes "rows" ∷ decimal rows ∷ codes "first" ∷ decimal first ∷ []
waiting_words (Free n) = codes "request" ∷ decimal n ∷ codes "Approved" ∷ codes "free" ∷ []
waiting_words (Locked n lock) = codes "request" ∷ decimal n ∷ codes "Approved" ∷ lock_phrase lock ∷ []
waiting_words (Doubtful n) = codes "request" ∷ decimal n ∷ codes "Doubtful" ∷ []
waiting_words (Step execution procedure step is_countersigned) =
    codes "execution" ∷ decimal execution ∷ procedure ∷ codes "next" ∷ decimal step ∷ codes "second" ∷ yes_no is_countersigned ∷ []

abbrev pub waiting_line : Waiting → List ℕ
waiting_line w = spaced (waiting_words w)

-- waiting K
abbrev pub waiting_count_line : ℕ → List ℕ
waiting_count_line count = spaced (codes "waiting" ∷ decimal count ∷ [])
