-- What a contract sees of a link of a fixed size, and what such a link does.
use Rattle.std.specs.Prelude.{◌≡◌, ℕ, Bool, if◌then◌else◌, List, [], ◌∷◌, ◌++◌, length, drop, remove, nat_lt}
use Rattle.std.proofs.Common.{inl, true, false, subst, sym}
use Rattle.tc_world.specs.Links.{Kind}
use Rattle.tc_world.specs.Sublist.{IsSublist, IsSublist-same, IsSublist-remove}

-- what is in flight, the oldest first, and the most items that may be
pub record Ringed (T : Type 0) : Type 0 where
  pub content : List T
  pub size : ℕ

-- those that stay where one more is put: all, or where it is full all but the oldest
abbrev pub those_that_stay : {T : Type 0} → ℕ → List T → List T
those_that_stay size content = if nat_lt (length content) size then content else drop 1 content

-- A put is behind the others, and drops the oldest alone where the ring is full; the first is taken, and no other leaves;
-- the one item that is to be lost is lost, and past the end nothing is, and the answer is false. The size stays.
abbrev pub ringed : {T : Type 0} → Kind (Ringed T) T
ringed {T} = record {
  content = λ (c : Ringed T). c.content;
  without_room = λ (c : Ringed T). c;
  puts = λ (old : Ringed T) (item : T) (new : Ringed T). (new.content ≡ those_that_stay old.size old.content ++ item ∷ []) × (new.size ≡ old.size);
  takes = λ (old : Ringed T) (item : T) (new : Ringed T). (old.content ≡ item ∷ new.content) × (new.size ≡ old.size);
  loses = λ (old : Ringed T) (place : ℕ) (answer : Bool) (new : Ringed T). (answer ≡ nat_lt place (length old.content)) × (new.content ≡ remove old.content place) × (new.size ≡ old.size);
}

-- what stays, followed by more, is what was, followed by it, with items left out.
IsSublist-those_that_stay : {T : Type 0} (size : ℕ) (content more : List T) → IsSublist (those_that_stay size content ++ more) (content ++ more)
IsSublist-those_that_stay size content more = with_test (nat_lt (length content) size) content more
  where
    with_test : {T : Type 0} (test : Bool) (content more : List T) → IsSublist ((if test then content else drop 1 content) ++ more) (content ++ more)
    with_test true content more = IsSublist-same (content ++ more)
    with_test false [] more = IsSublist-same more
    with_test false (x ∷ xs) more = inl (IsSublist-same (xs ++ more))

-- the laws that the ring cites, as those of the list
pub ringed_puts : {T : Type 0} (old new : Ringed T) (item : T) → ringed.puts old item new → IsSublist new.content (old.content ++ item ∷ [])
ringed_puts old new item e =
    subst (λ xs. IsSublist xs (old.content ++ item ∷ [])) (sym e.0) (IsSublist-those_that_stay old.size old.content (item ∷ []))

pub ringed_takes : {T : Type 0} (old new : Ringed T) (item : T) → ringed.takes old item new → (lost : List T) × (old.content ≡ lost ++ item ∷ new.content)
ringed_takes old new item e = ([], e.0)

pub ringed_loses : {T : Type 0} (old new : Ringed T) (place : ℕ) (answer : Bool) → ringed.loses old place answer new → IsSublist new.content old.content
ringed_loses old new place answer e = subst (λ xs. IsSublist xs old.content) (sym e.1) (IsSublist-remove old.content place)
