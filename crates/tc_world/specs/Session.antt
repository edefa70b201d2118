-- What sequence control means: a session with unbounded numbers, without a modulus, a state table or a timer.
use Rattle.std.specs.Prelude.{◌≡◌, ◌⊎◌, ℕ, ◌+◌, ◌<◌, ◌≤◌, Some, List, [], ◌∷◌, ◌++◌, length, take, slice_get}
use Rattle.tc_world.specs.Sublist.{IsSublist}

-- The requests that were sent, accepted and confirmed. On the uplink fly the positions in `sent` of the frames that
-- were sent; on the downlink fly reports, each of them how many requests were accepted when it was made.
pub record Session : Type 0 where
  pub sent : List ℕ
  pub accepted : List ℕ
  pub confirmed : List ℕ
  pub up : List ℕ
  pub down : List ℕ

abbrev pub nothing_yet : Session
nothing_yet = record { sent = []; accepted = []; confirmed = []; up = []; down = [] }

-- a request is sent for the first time, while fewer than `bound` are not confirmed
pub record Sends (bound : ℕ) (s t : Session) : Type 0 where
  pub request : ℕ
  pub room : length s.sent < length s.confirmed + bound
  pub whole : t ≡ record s { sent = s.sent ++ request ∷ []; up = s.up ++ length s.sent ∷ [] }

-- a request that is not confirmed is sent again, under its position
pub record SendsAgain (s t : Session) : Type 0 where
  pub position : ℕ
  pub low : length s.confirmed ≤ position
  pub high : position < length s.sent
  pub whole : t ≡ record s { up = s.up ++ position ∷ [] }

-- the first of the uplink arrives: it is accepted only where it is the next, or discarded
pub record Arrives (s t : Session) : Type 0 where
  pub position : ℕ
  pub rest : List ℕ
  pub first : s.up ≡ position ∷ rest
  pub whole : (t ≡ record s { up = rest })
      ⊎ ((request : ℕ) × (position ≡ length s.accepted) × (slice_get s.sent position ≡ Some request)
      × (t ≡ record s { up = rest; accepted = s.accepted ++ request ∷ [] }))

-- it is reported how many were accepted
abbrev pub Reports : Session → Session → Type 0
Reports s t = t ≡ record s { down = s.down ++ length s.accepted ∷ [] }

-- the first of the downlink is heard: so many of `sent` are confirmed, or nothing is done
pub record IsHeard (s t : Session) : Type 0 where
  pub value : ℕ
  pub rest : List ℕ
  pub first : s.down ≡ value ∷ rest
  pub whole : (t ≡ record s { down = rest })
      ⊎ ((length s.confirmed ≤ value) × (t ≡ record s { down = rest; confirmed = take value s.sent }))

-- something in flight is lost
pub record Loses (s t : Session) : Type 0 where
  pub up : IsSublist t.up s.up
  pub down : IsSublist t.down s.down
  pub whole : t ≡ record s { up = t.up; down = t.down }

abbrev pub SessionStep : ℕ → Session → Session → Type 0
SessionStep bound s t = Sends bound s t ⊎ (SendsAgain s t ⊎ (Arrives s t ⊎ (Reports s t ⊎ (IsHeard s t ⊎ Loses s t))))

-- steps, one after the other, each to the next of these sessions
abbrev pub GoesThrough : ℕ → Session → List Session → Session → Type 0
GoesThrough bound s [] t = t ≡ s
GoesThrough bound s (next ∷ others) t = SessionStep bound s next × GoesThrough bound next others t

abbrev pub SessionRun : ℕ → Session → Session → Type 0
SessionRun bound s t = (steps : List Session) × GoesThrough bound s steps t
