-- What a front of the input decides.
use Rattle.std.specs.Prelude.{◌≡◌, ℕ, ◌+◌, ◌<◌, ◌≤◌, min, Option, Some, None, List, length, take, drop}
use Rattle.tc_types.specs.declared.acts.Query.{Query}
use Rattle.tc_front.specs.declared.paths.Post.{Post}
use Rattle.tc_front.specs.declared.judge.Refused.{Refused}
use Rattle.tc_front.specs.declared.judge.Refused.TheVariants.{Large}
use Rattle.tc_front.specs.declared.judge.Judgement.{Judgement}
use Rattle.tc_front.specs.declared.judge.Judgement.TheVariants as judgement
use Rattle.tc_front.specs.declared.front.Decision.{Decision}
use Rattle.tc_front.specs.declared.front.Decision.TheVariants as decision
use Rattle.tc_front.specs.Ends.{head_end, skip_ends}
use Rattle.tc_front.specs.Judge.{Judges}

-- a refusal, a question, the wall, how the desk was opened, or a post with its body
pub data Asked : Type 0 where
  refuses : Refused → Asked
  asks : Query → Asked
  shows : Asked
  tells : Asked
  posts : Post → List ℕ → Asked

-- what the code decided, with the bytes of the body
abbrev pub asked_of : Decision → Asked
asked_of (decision.Refused refused) = refuses refused
asked_of (decision.Asks query) = asks query
asked_of decision.ShowsWall = shows
asked_of decision.TellsOpening = tells
asked_of (decision.Posts post body) = posts post body.now

-- the bytes behind the head hold the body
abbrev pub Completes : Judgement → List ℕ → Asked → Type 0
Completes (judgement.Refused refused) rest asked = asked ≡ refuses refused
Completes (judgement.Asks query) rest asked = asked ≡ asks query
Completes judgement.ShowsWall rest asked = asked ≡ shows
Completes judgement.TellsOpening rest asked = asked ≡ tells
Completes (judgement.Posts post size) rest asked = (size ≤ length rest) × (asked ≡ posts post (take size rest))

-- what is decided where the head text ends here, or nowhere in the bytes that a head may have
abbrev pub IsDecidedAt : Option ℕ → List ℕ → Asked → Type 0
IsDecidedAt None text asked = (8192 < length text) × (asked ≡ refuses Large)
IsDecidedAt (Some end) text asked = (j : Judgement) × Judges (skip_ends (take end text)) j × Completes j (drop end text) asked

-- This front of the input decides: its head has ended and its body is there, or its head is too large.
unfoldable pub IsDecided : List ℕ → Asked → Type 0
IsDecided text asked = IsDecidedAt (head_end (take 8192 text)) text asked

-- nothing is decided so far
pub record Waits (text : List ℕ) : Type 0 where
  pub none : (asked : Asked) → ¬ (IsDecided text asked)

-- ---- how many bytes are wanted

-- how many bytes the body has
abbrev pub size_of : Judgement → ℕ
size_of (judgement.Refused refused) = 0
size_of (judgement.Asks query) = 0
size_of judgement.ShowsWall = 0
size_of judgement.TellsOpening = 0
size_of (judgement.Posts post size) = size

-- one byte more while the head has not ended, up to 8,193; then the head and its body
abbrev pub IsWantedAt : Option ℕ → List ℕ → ℕ → Type 0
IsWantedAt None text wanted = wanted ≡ min 8192 (length text) + 1
IsWantedAt (Some end) text wanted = (j : Judgement) × Judges (skip_ends (take end text)) j × (wanted ≡ end + size_of j)

-- so many bytes of an input are wanted, of which this is a front
unfoldable pub IsWanted : List ℕ → ℕ → Type 0
IsWanted text wanted = IsWantedAt (head_end (take 8192 text)) text wanted
