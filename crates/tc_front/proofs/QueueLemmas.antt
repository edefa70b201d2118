-- Lemmas of requests that wait in their order.
use Rattle.std.proofs.Common.{List, ◌≡◌, ◌++◌, ◌∷◌, [], Result, Ok, Err, is_ok}
use Rattle.std.specs.Prelude.{All, if◌then◌else◌}
use Rattle.std.proofs.lemmas.List.Elements.{All-push, All-same}

-- what holds of each one holds still after one was added, or refused memory
pub all_put : {X Y E : Type 0} (P : X → Type 0) (r : Result Y E) (xs ys : List X) (x : X) → ys ≡ (if is_ok r then xs ++ x ∷ [] else xs) → All P xs → P x → All P ys
all_put P (Ok y) xs ys x is all here = All-same P ys (xs ++ x ∷ []) is (All-push P xs x all here)
all_put P (Err e) xs ys x is all here = All-same P ys xs is all
