-- Lists with items left out, and what holds of each item and of pairs.
use Rattle.std.proofs.Common.{◌≡◌, ℕ, zero, suc, ◌≤◌, inl, inr, ⊎_elim, List, [], ◌∷◌, ◌++◌, length, take, refl, sym, ap, subst, arith}
use Rattle.std.proofs.lemmas.List.{append_assoc, append-nil}
use Rattle.tc_world.specs.Sublist.{IsSublist, IsSublist-same, IsSublist-nil, IsSublist-behind}
use Rattle.tc_world.specs.Links.{Kind, PutsAll}
use Rattle.tc_world.specs.Kept.{Each, Pairs}

-- items left out of what has items left out
pub sublist_trans : {X : Type 0} (xs ys zs : List X) → IsSublist xs ys → IsSublist ys zs → IsSublist xs zs
sublist_trans xs ys [] h k = subst (λ l. IsSublist xs l) k h
sublist_trans xs ys (z ∷ zs) h k =
    elim k [
      | inl a ↦ inl (sublist_trans xs ys zs h a)
      | inr b ↦
          let there : IsSublist xs (z ∷ b.0) = subst (λ l. IsSublist xs l) b.1 h in
          elim there [
            | inl c ↦ inl (sublist_trans xs b.0 zs c b.2)
            | inr d ↦ inr (d.0, d.1, sublist_trans d.0 b.0 zs d.2 b.2)
          ]
    ]

-- the same in front of both
pub sublist_front : {X : Type 0} (front xs ys : List X) → IsSublist xs ys → IsSublist (front ++ xs) (front ++ ys)
sublist_front [] xs ys h = h
sublist_front (x ∷ front) xs ys h = inr (front ++ xs, refl, sublist_front front xs ys h)

-- here and there
pub sublist_both : {X : Type 0} (xs ys zs ws : List X) → IsSublist xs ys → IsSublist zs ws → IsSublist (xs ++ zs) (ys ++ ws)
sublist_both {X} xs [] zs ws h k = subst (λ (l : List X). IsSublist (l ++ zs) ws) (sym h) k
sublist_both {X} xs (y ∷ ys) zs ws h k = ⊎_elim
    (λ (out : IsSublist xs ys). inl (sublist_both xs ys zs ws out k))
    (λ (on : (rest : List X) × (xs ≡ y ∷ rest) × IsSublist rest ys).
    inr (on.0 ++ zs, ap (λ (l : List X). l ++ zs) on.1, sublist_both on.0 ys zs ws on.2 k))
    h

-- a front of a list
pub sublist_take : {X : Type 0} (n : ℕ) (xs : List X) → IsSublist (take n xs) xs
sublist_take zero xs = IsSublist-nil xs
sublist_take (suc n) [] = refl
sublist_take (suc n) (x ∷ xs) = inr (take n xs, refl, sublist_take n xs)

-- what stands in front
pub sublist_of_front : {X : Type 0} (front more : List X) → IsSublist front (front ++ more)
sublist_of_front [] more = IsSublist-nil more
sublist_of_front (x ∷ front) more = inr (front, refl, sublist_of_front front more)

-- no more items than before
pub sublist_length : {X : Type 0} (xs ys : List X) → IsSublist xs ys → length xs ≤ length ys
sublist_length xs [] none = subst (λ l. length l ≤ 0) (sym none) (omega arith)
sublist_length xs (y ∷ ys) (inl out) = let rest = sublist_length xs ys out in omega (arith, rest)
sublist_length xs (y ∷ ys) (inr within) =
    let rest = sublist_length within.0 ys within.2 in
    subst (λ l. length l ≤ length (y ∷ ys)) (sym within.1) (omega (arith, rest))

-- the items that were put one after the other stand behind those before, with items left out
pub puts_lose : {C T : Type 0} (kind : Kind C T) (old : C) (items : List T) (new : C)
    → ((before next : C) (item : T) → kind.puts before item next → IsSublist (kind.content next) (kind.content before ++ item ∷ []))
    → PutsAll kind old items new → IsSublist (kind.content new) (kind.content old ++ items)
puts_lose kind old [] new law puts =
    subst (λ c. IsSublist (kind.content c) (kind.content old ++ [])) (sym puts)
    (subst (λ l. IsSublist (kind.content old) l) (sym (append-nil (kind.content old))) (IsSublist-same (kind.content old)))
puts_lose kind old (item ∷ items) new law puts =
    let mine = kind.content old in
    let first = law old puts.0 item puts.1 in
    let rest = puts_lose kind puts.0 items new law puts.2 in
    let both = sublist_both (kind.content puts.0) (mine ++ item ∷ []) items items first (IsSublist-same items) in
    let whole = sublist_trans (kind.content new) (kind.content puts.0 ++ items) ((mine ++ item ∷ []) ++ items) rest both in
    subst (λ l. IsSublist (kind.content new) l) (append_assoc mine (item ∷ []) items) whole

-- what holds of each still does with items left out
pub each_sub : (P : ℕ → Type 0) (xs ys : List ℕ) → IsSublist xs ys → Each P ys → Each P xs
each_sub P xs [] h e = subst (λ l. Each P l) (sym h) tt
each_sub P xs (y ∷ ys) h e =
    elim h [
      | inl a ↦ each_sub P xs ys a e.1
      | inr b ↦ subst (λ l. Each P l) (sym b.1) (e.0, each_sub P b.0 ys b.2 e.1)
    ]

-- of each here and of each there
pub each_append : (P : ℕ → Type 0) (xs ys : List ℕ) → Each P xs → Each P ys → Each P (xs ++ ys)
each_append P [] ys e f = f
each_append P (x ∷ xs) ys e f = (e.0, each_append P xs ys e.1 f)

-- what follows from it holds of each
pub each_map : (P Q : ℕ → Type 0) (xs : List ℕ) → ((x : ℕ) → P x → Q x) → Each P xs → Each Q xs
each_map P Q [] f e = tt
each_map P Q (x ∷ xs) f e = (f x e.0, each_map P Q xs f e.1)

-- what holds of pairs still does with items left out
pub pairs_sub : (R : ℕ → ℕ → Type 0) (xs ys : List ℕ) → IsSublist xs ys → Pairs R ys → Pairs R xs
pairs_sub R xs [] h p = subst (λ l. Pairs R l) (sym h) tt
pairs_sub R xs (y ∷ ys) h p =
    elim h [
      | inl a ↦ pairs_sub R xs ys a p.1
      | inr b ↦ subst (λ l. Pairs R l) (sym b.1) (each_sub (R y) b.0 ys b.2 p.0, pairs_sub R b.0 ys b.2 p.1)
    ]

-- one more behind, to which each stands in R
pub pairs_push : (R : ℕ → ℕ → Type 0) (xs : List ℕ) (y : ℕ) → Pairs R xs → Each (λ (x : ℕ). R x y) xs → Pairs R (xs ++ y ∷ [])
pairs_push R [] y p e = (tt, tt)
pairs_push R (x ∷ xs) y p e = (each_append (R x) xs (y ∷ []) p.0 (e.0, tt), pairs_push R xs y p.1 e.1)

-- what is left behind a front and an item
pub sublist_left : {X : Type 0} (xs lost : List X) (x : X) (left : List X) → xs ≡ lost ++ x ∷ left → IsSublist left xs
sublist_left xs lost x left e =
    subst (λ l. IsSublist left l) (sym e)
    (sublist_trans left (x ∷ left) (lost ++ x ∷ left) (inl (IsSublist-same left)) (IsSublist-behind lost (x ∷ left)))
