-- Lists: octets in 96 places, and what holds of each item.
use Rattle.std.proofs.Common.{◌≡◌, ℕ, zero, suc, ◌+◌, ◌-◌, ◌<◌, ◌≤◌, List, [], ◌∷◌, ◌++◌, length, take, drop, get_or, replicate, slice_index_or, refl}
use Rattle.std.proofs.Common.{sym, ap, ◌∙◌, subst, arith}
use Rattle.std.specs.List.{AllByRecursion, flat_map}
use Rattle.std.proofs.Math.Seq.{take-append_seam}
use Rattle.std.proofs.lemmas.List.{drop-replicate, length-append, length-replicate, take_more, take_all, append-nil, append_assoc}
use Rattle.std.proofs.lemmas.List.Concat.{flat_map-append}
use Rattle.tc_packets.specs.ApplicationData.{most_data, padded_data}

-- what `ApplicationData::of` lays into 96 zeros keeps the invariant
pub laid_out : (octets : List ℕ) → length octets ≤ most_data
    → (length octets ≤ most_data)
    × (octets ++ drop (length octets) (replicate 96 0) ≡ padded_data (take (length octets) (octets ++ drop (length octets) (replicate 96 0))))
    × (length (octets ++ drop (length octets) (replicate 96 0)) ≡ 96)
    × (length (take (length octets) (octets ++ drop (length octets) (replicate 96 0))) ≤ most_data)
laid_out octets h =
    let front : take (length octets) (octets ++ drop (length octets) (replicate 96 0)) ≡ octets =
    take-append_seam octets (drop (length octets) (replicate 96 0)) in
    let zeros : drop {A = ℕ} (length octets) (replicate 96 0) ≡ replicate (96 - length octets) 0 = drop-replicate (length octets) 96 0 in
    let all : length (octets ++ drop (length octets) (replicate 96 0)) ≡ 96 =
    rw (zeros, length-append octets (replicate (96 - length octets) 0), length-replicate {A = ℕ} (96 - length octets) 0)
    (let s : length octets ≤ 96 = h in omega arith) in
    (h, rw front (rw zeros refl), all, rw front h)

-- ---- what holds of each item, by its place

each_append : {X : Type 0} (P : X → Type 0) (xs : List X) (y : X) → AllByRecursion P xs → P y → AllByRecursion P (xs ++ y ∷ [])
each_append P [] y all one = (one, tt)
each_append P (x ∷ xs) y all one = (all.0, each_append P xs y all.1 one)

each_at : {X : Type 0} (P : X → Type 0) (xs : List X) (k : ℕ) (d : X) → AllByRecursion P xs → k < length xs → P (get_or xs k d)
each_at P [] k d all within = absurd (omega (arith, within))
each_at P (x ∷ xs) zero d all within = all.0
each_at P (x ∷ xs) (suc k) d all within = each_at P xs k d all.1 (omega (arith, within))

pub each_more : {X : Type 0} (P : X → Type 0) (xs : List X) (k : ℕ) (x : X) → k < length xs → x ≡ slice_index_or xs k x → AllByRecursion P (take k xs)
    → P x → AllByRecursion P (take (k + 1) xs)
each_more P xs k x within is before may =
    subst (AllByRecursion P) (sym (take_more xs k x within ∙ ap (λ (y : _). take k xs ++ y ∷ []) (sym is))) (each_append P (take k xs) x before may)

pub each_here : {X : Type 0} (P : X → Type 0) (xs : List X) (k : ℕ) (x : X) → AllByRecursion P xs → k < length xs → x ≡ slice_index_or xs k x → P x
each_here P xs k x all within is = subst P (sym is) (each_at P xs k x all within)

pub each_all : {X : Type 0} (P : X → Type 0) (xs : List X) (k : ℕ) → length xs ≤ k → AllByRecursion P (take k xs) → AllByRecursion P xs
each_all P xs k all before = subst (AllByRecursion P) (take_all k xs all) before

-- ---- what the items of a list make, one after the other

pub flat_more : {X : Type 0} (f : X → List ℕ) (xs : List X) (k : ℕ) (x : X) → k < length xs → x ≡ slice_index_or xs k x
    → flat_map f (take (k + 1) xs) ≡ flat_map f (take k xs) ++ f x
flat_more f xs k x within is =
    ap (flat_map f) (take_more xs k x within ∙ ap (λ (y : _). take k xs ++ y ∷ []) (sym is))
    ∙ flat_map-append f (take k xs) (x ∷ [])
    ∙ ap (λ l. flat_map f (take k xs) ++ l) (append-nil (f x))

pub flat_all : {X : Type 0} (f : X → List ℕ) (xs : List X) (k : ℕ) → length xs ≤ k → flat_map f (take k xs) ≡ flat_map f xs
flat_all f xs k all = ap (flat_map f) (take_all k xs all)

pub added : {X : Type 0} (f : X → List ℕ) (xs : List X) (k : ℕ) (x : X) (before old new_octets : List ℕ) → k < length xs → x ≡ slice_index_or xs k x
    → old ≡ before ++ flat_map f (take k xs) → new_octets ≡ old ++ f x → new_octets ≡ before ++ flat_map f (take (k + 1) xs)
added f xs k x before old new_octets within is begun one =
    one ∙ ap (λ l. l ++ f x) begun ∙ append_assoc before (flat_map f (take k xs)) (f x) ∙ ap (λ l. before ++ l) (sym (flat_more f xs k x within is))
