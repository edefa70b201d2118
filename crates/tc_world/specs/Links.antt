-- What a kind of link says of its own, and what every link may do at most.
use Rattle.std.specs.Prelude.{◌≡◌, ℕ, Bool, List, [], ◌∷◌, ◌++◌}
use Rattle.tc_world.specs.Sublist.{IsSublist}

-- The items in flight, the oldest first; the link but for the room of its puts, which is all that a call changes that
-- makes room; and what a put, a take that gives an item, and a lose at a place leave.
pub record Kind (C T : Type 0) : Type 1 where
  pub content : C → List T
  pub without_room : C → C
  pub puts : C → T → C → Type 0
  pub takes : C → T → C → Type 0
  pub loses : C → ℕ → Bool → C → Type 0

-- A link that only loses, with nothing said of what it loses. It is its content: whatever a call does, the content
-- after is the content before, followed by what was put, with items left out; a take gives the first that was not lost.
abbrev pub lossy : {T : Type 0} → Kind (List T) T
lossy {T} = record {
  content = λ (items : List T). items;
  without_room = λ (items : List T). items;
  puts = λ (old : List T) (item : T) (new : List T). IsSublist new (old ++ item ∷ []);
  takes = λ (old : List T) (item : T) (new : List T). (lost : List T) × (old ≡ lost ++ item ∷ new);
  loses = λ (old : List T) (place : ℕ) (answer : Bool) (new : List T). IsSublist new old;
}

-- items put one after the other
abbrev pub PutsAll : {C T : Type 0} → Kind C T → C → List T → C → Type 0
PutsAll kind old [] new = new ≡ old
PutsAll {C} kind old (item ∷ items) new = (next : C) × kind.puts old item next × PutsAll kind next items new

-- room was made and nothing else: what is in flight stays, and all else that a contract sees
abbrev pub IsReadied : {C T : Type 0} → Kind C T → C → C → Type 0
IsReadied kind old ready = kind.without_room ready ≡ kind.without_room old

-- nothing is in flight on either of two links
pub record AreEmpty {U D S T : Type 0} (uplink : Kind U S) (downlink : Kind D T) (a : U) (b : D) : Type 0 where
  pub up : uplink.content a ≡ []
  pub down : downlink.content b ≡ []
