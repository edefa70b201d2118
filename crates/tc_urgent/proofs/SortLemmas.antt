-- What `sort_by_key` leaves, where each call gives the same key of an element.
use Rattle.std.proofs.Common.{◌≡◌, List, Bor, Ordering}
use Rattle.std.specs.Fn.{Mut, Called}
use Rattle.std.specs.List.Sorted.{IsSortedByKey, IsSortedByKeyClosure}
use Rattle.std.proofs.lemmas.Fn.{always_returns_same}

-- the list ascends by these keys
pub sorted_by_key : {X K F : Type 0} (key : X → K) (cmp : K → K → Ordering) {g : Mut F (Bor X × Unit {0}) K} {f : F} (xs : List X) → IsSortedByKeyClosure g cmp f xs
    → ((a : Bor X × Unit {0}) (r : K) (f' : F) → Called g f a r f' → (r ≡ key a.0.now) × (f' ≡ f)) → IsSortedByKey key cmp xs
sorted_by_key key cmp {g = g} {f = f} xs up h = up key (always_returns_same g (λ a r. r ≡ key a.0.now) f h)
