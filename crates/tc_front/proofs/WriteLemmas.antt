-- The writes of a text, one after the other.
use Rattle.std.proofs.Common.{◌≡◌, ◌≢◌, ◌∙◌, ◌+◌, ◌-◌, ◌<◌, ℕ, nat_lt, true, Option, List, [], ◌∷◌, refl, sym, ap, subst, append-nil, arith, length, take, drop, take-append-drop}
use Rattle.std.proofs.Math.Seq.{take-add, take-length}
use Rattle.std.proofs.lemmas.Bool.{lt-ltb, ne_eqb}
use Rattle.std.proofs.lemmas.List.{length-drop}
use Rattle.std.specs.Io.KnownBytes.{Appends, Keeps}
use Rattle.std.proofs.KnownBytes.{Appends-trans, Appends-nil, Appends-kept}
use Rattle.tc_types.specs.declared.counted.Counts.{Counts}
use Rattle.tc_types.specs.Counts.{CanCount, is_nothing, no_counts, plus_if}
use Rattle.tc_front.specs.Write.{IsCutShort, one_fault}

take_none : (xs : List ℕ) (n : ℕ) → n ≡ 0 → take n xs ≡ []
take_none [] n is = rw is refl
take_none (x ∷ xs) n is = rw is refl

-- all bytes that are left
take_rest : (bytes : List ℕ) (done : ℕ) → take (length bytes - done) (drop done bytes) ≡ drop done bytes
take_rest bytes done = ap (λ n. take n (drop done bytes)) (sym (length-drop done bytes)) ∙ take-length (drop done bytes)

-- bytes that went out in part
pub put_cut : (a b c : Option (List ℕ)) (bytes : List ℕ) (done : ℕ) → done < length bytes → Appends a b (take done bytes) → Appends b c []
    → (part : List ℕ) × IsCutShort bytes part × Appends a c part
put_cut a b c bytes done more written none = (
  take done bytes,
  (drop done bytes, sym (take-append-drop done bytes), λ empty. let e : length (drop done bytes) ≡ 0 = ap length empty in let l : length (drop done bytes) ≡ length bytes - done = length-drop done bytes in omega arith),
  subst (Appends a c) (append-nil (take done bytes)) (Appends-trans a b c (take done bytes) [] written none),
)

-- what is kept is appended to by nothing
pub kept_appends : (b c : Option (List ℕ)) → Keeps b c → Appends b c []
kept_appends b c keeps = Appends-kept b b c [] (Appends-nil b) keeps

-- a write that took nothing
pub none_appends : (b c : Option (List ℕ)) (bytes : List ℕ) (count : ℕ) → count ≡ 0 → Appends b c (take count bytes) → Appends b c []
none_appends b c bytes count none appends = subst (Appends b c) (take_none bytes count none) appends

-- some bytes more went out
pub put_on : (a b c : Option (List ℕ)) (bytes : List ℕ) (done count : ℕ) → Appends a b (take done bytes)
    → Appends b c (take count (take (length bytes - done) (drop done bytes))) → Appends a c (take (done + count) bytes)
put_on a b c bytes done count written more =
    let rest : Appends b c (take count (drop done bytes)) = subst (λ (bs : List ℕ). Appends b c (take count bs)) (take_rest bytes done) more in
    subst (Appends a c) (sym (take-add done count bytes)) (Appends-trans a b c (take done bytes) (take count (drop done bytes)) written rest)

fresh_counts : (old : Counts) → old ≡ no_counts → CanCount old
fresh_counts old fresh = rw fresh (record { reads = omega arith; faults = omega arith; ends = omega arith })

-- the counts after a write that failed
pub fault_counts : (old new : Counts) → old ≡ no_counts → (CanCount old → new ≡ record { reads = old.reads; faults = old.faults + 1; ends = old.ends }) → new ≡ one_fault
fault_counts old new fresh counted = counted (fresh_counts old fresh) ∙ rw fresh refl

-- and after one that took nothing of what is left
pub none_counts : (old new : Counts) (bytes : List ℕ) (done count : ℕ) → old ≡ no_counts → done < length bytes → count ≡ 0
    → (CanCount old → new ≡ record { reads = old.reads; faults = plus_if old.faults (is_nothing count (length (take (length bytes - done) (drop done bytes)))); ends = old.ends }) → new ≡ one_fault
none_counts old new bytes done count fresh more none counted =
    let left : length (take (length bytes - done) (drop done bytes)) ≡ length bytes - done = ap length (take_rest bytes done) ∙ length-drop done bytes in
    let room : nat_lt 0 (length (take (length bytes - done) (drop done bytes))) ≡ true = lt-ltb 0 _ (omega (arith, left, more)) in
    counted (fresh_counts old fresh) ∙ rw (fresh, none, room) refl

-- the counts after a write that took something
pub put_counts : (old new : Counts) (room count : ℕ) → old ≡ no_counts → count ≢ 0
    → (CanCount old → new ≡ record { reads = old.reads; faults = plus_if old.faults (is_nothing count room); ends = old.ends }) → new ≡ no_counts
put_counts old new room count fresh some counted =
    counted (fresh_counts old fresh) ∙ rw (fresh, ne_eqb count 0 some) refl
