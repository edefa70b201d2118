-- What a contract sees of a link that is a list, and what such a link does.
use Rattle.std.specs.Prelude.{◌≡◌, ℕ, Bool, List, [], ◌∷◌, ◌++◌, length, remove, nat_lt}
use Rattle.std.proofs.Common.{subst, sym}
use Rattle.tc_world.specs.Links.{Kind}
use Rattle.tc_world.specs.Sublist.{IsSublist, IsSublist-same, IsSublist-remove}

-- what is in flight, the oldest first, and how many puts have their room
pub record InFlight (T : Type 0) : Type 0 where
  pub content : List T
  pub covered : ℕ

-- A put is behind the others, and all stay; the first is taken, and no other leaves; the one item that is to be lost is lost,
-- and past the end nothing is, and the answer is false.
abbrev pub listed : {T : Type 0} → Kind (InFlight T) T
listed {T} = record {
  content = λ (c : InFlight T). c.content;
  without_room = λ (c : InFlight T). record c { covered = 0 };
  puts = λ (old : InFlight T) (item : T) (new : InFlight T). new.content ≡ old.content ++ item ∷ [];
  takes = λ (old : InFlight T) (item : T) (new : InFlight T). old.content ≡ item ∷ new.content;
  loses = λ (old : InFlight T) (place : ℕ) (answer : Bool) (new : InFlight T). (answer ≡ nat_lt place (length old.content)) × (new.content ≡ remove old.content place);
}

-- The laws that the list cites: what is in flight after is what was, followed by what was put, with items left out; and
-- a take is in order.
pub listed_puts : {T : Type 0} (old new : InFlight T) (item : T) → listed.puts old item new → IsSublist new.content (old.content ++ item ∷ [])
listed_puts old new item e = subst (λ xs. IsSublist xs (old.content ++ item ∷ [])) (sym e) (IsSublist-same (old.content ++ item ∷ []))

pub listed_takes : {T : Type 0} (old new : InFlight T) (item : T) → listed.takes old item new → (lost : List T) × (old.content ≡ lost ++ item ∷ new.content)
listed_takes old new item e = ([], e)

pub listed_loses : {T : Type 0} (old new : InFlight T) (place : ℕ) (answer : Bool) → listed.loses old place answer new → IsSublist new.content old.content
listed_loses old new place answer e = subst (λ xs. IsSublist xs old.content) (sym e.1) (IsSublist-remove old.content place)
