-- How the lines of a script are sent to a desk over HTTP, and what is shown of what it answers.
use Rattle.std.specs.Prelude.{◌≡◌, ℕ, Bool, true, false, List, [], ◌∷◌, ◌++◌}
use Rattle.tc_posts.specs.declared.posting.Posting.{Posting}
use Rattle.tc_posts.specs.Completing.{Completes}
use Rattle.tc_posts.specs.Posting.{Posts, places_bytes, post_bytes}
use Rattle.tc_posts.specs.Steps.{Line, Step, answered, placed, refuses, said, sent}
use Rattle.tc_posts.specs.Told.{Answer, Tells}
use Rattle.tc_posts.specs.Used.{AreAsked}

-- A line is posted to this port under its number, and what the response tells is shown once it is completed.
abbrev pub IsSent : ℕ → Line → List Step → Type 0
IsSent port (line, number, place) steps = (post : Posting) × (response : List ℕ) × (first last : Answer) × (asked : List Step)
    × Posts line post × Tells response first × Completes port first asked last
    × (steps ≡ sent (post_bytes port post number) response ∷ asked ++ answered (line, number, place) last ∷ [])

-- Each of these lines is, one after the other, whatever the others are answered.
abbrev pub AreSent : ℕ → List Line → List Step → Type 0
AreSent port [] steps = steps ≡ []
AreSent port (line ∷ lines) steps = (first : List Step) × (rest : List Step) × (steps ≡ first ++ rest)
    × IsSent port line first × AreSent port lines rest

-- It is asked for the places, and what the response tells is shown.
abbrev pub AsksPlaces : ℕ → List Step → Type 0
AsksPlaces port steps = (response : List ℕ) × (answer : Answer) × Tells response answer
    × (steps ≡ sent (places_bytes port) response ∷ placed answer ∷ [])

-- Each line is sent, and then it is asked for the places. Says whether something that was shown is a refusal.
abbrev pub SendsAll : ℕ → List Line → List Step → Bool → Type 0
SendsAll port lines steps refused = (first : List Step) × (last : List Step) × (steps ≡ first ++ last) × AreSent port lines first × AsksPlaces port last
    × (refused ≡ refuses steps)

-- What is done where these numbers are used: it is said, if there are any; and then each line is sent, if there are none or they need not be new. Else none is, and
-- the loop ends as if it were refused.
abbrev pub Sends : Bool → ℕ → List Line → List ℕ → List Step → Bool → Type 0
Sends only_new port lines [] steps refused = SendsAll port lines steps refused
Sends true port lines (one ∷ others) steps refused = (steps ≡ said (one ∷ others) ∷ []) × (refused ≡ true)
Sends false port lines (one ∷ others) steps refused = (rest : List Step) × (steps ≡ said (one ∷ others) ∷ rest) × SendsAll port lines rest refused

-- a whole loop: it is asked which numbers are used before the first line is sent
abbrev pub IsLoop : Bool → ℕ → List Line → List Step → Bool → Type 0
IsLoop only_new port lines steps refused = (asked rest : List Step) × (used : List ℕ) × (steps ≡ asked ++ rest)
    × AreAsked port lines asked used × Sends only_new port lines used rest refused
