-- What holds of each item of a list.
use Rattle.std.proofs.Common.{ℕ, zero, suc, inl, inr, Bool, true, false, if◌then◌else◌, List, [], ◌∷◌, ◌++◌, map, drop, sym, subst}
use Rattle.std.specs.Prelude.{filter}
use Rattle.std.specs.List.{AllByRecursion}
use Rattle.tc_world.specs.Sublist.{IsSublist}

-- it does with items left out
pub all_sub : {X : Type 0} (P : X → Type 0) (xs ys : List X) → IsSublist xs ys → AllByRecursion P ys → AllByRecursion P xs
all_sub P xs [] h a = subst (λ l. AllByRecursion P l) (sym h) tt
all_sub P xs (y ∷ ys) h a =
    elim h [
      | inl k ↦ all_sub P xs ys k a.1
      | inr k ↦ subst (λ l. AllByRecursion P l) (sym k.1) (a.0, all_sub P k.0 ys k.2 a.1)
    ]

-- of each here and of each there
pub all_append : {X : Type 0} (P : X → Type 0) (xs ys : List X) → AllByRecursion P xs → AllByRecursion P ys → AllByRecursion P (xs ++ ys)
all_append P [] ys a b = b
all_append P (x ∷ xs) ys a b = (a.0, all_append P xs ys a.1 b)

-- of each behind a front
pub all_behind : {X : Type 0} (P : X → Type 0) (front xs : List X) → AllByRecursion P (front ++ xs) → AllByRecursion P xs
all_behind P [] xs a = a
all_behind P (x ∷ front) xs a = all_behind P front xs a.1

-- of each behind the first d
pub all_drop : {X : Type 0} (P : X → Type 0) (d : ℕ) (xs : List X) → AllByRecursion P xs → AllByRecursion P (drop d xs)
all_drop P zero xs a = a
all_drop P (suc d) [] a = a
all_drop P (suc d) (x ∷ xs) a = all_drop P d xs a.1

-- what follows from it holds of each
pub all_follow : {X : Type 0} (P Q : X → Type 0) (xs : List X) → ((x : X) → P x → Q x) → AllByRecursion P xs → AllByRecursion Q xs
all_follow P Q [] f a = tt
all_follow P Q (x ∷ xs) f a = (f x a.0, all_follow P Q xs f a.1)

-- what is made of each has Q where each has P
pub all_made : {X Y : Type 0} (P : X → Type 0) (Q : Y → Type 0) (make : X → Y) (xs : List X) → ((x : X) → P x → Q (make x)) → AllByRecursion P xs → AllByRecursion Q (map make xs)
all_made P Q make [] f a = tt
all_made P Q make (x ∷ xs) f a = (f x a.0, all_made P Q make xs f a.1)

-- the first is kept or not
kept_first : {X : Type 0} (P : X → Type 0) (keep : Bool) (x : X) (xs : List X) → P x → AllByRecursion P xs → AllByRecursion P (if keep then x ∷ xs else xs)
kept_first P true x xs p a = (p, a)
kept_first P false x xs p a = a

-- of each that passes a test
pub all_filter : {X : Type 0} (P : X → Type 0) (test : X → Bool) (xs : List X) → AllByRecursion P xs → AllByRecursion P (filter test xs)
all_filter P test [] a = tt
all_filter P test (x ∷ xs) a = kept_first P (test x) x (filter test xs) a.0 (all_filter P test xs a.1)
