-- The two lists of an insert, read side by side.
use Rattle.std.proofs.Common.{◌≡◌, ℕ, zero, suc, false, eqb, ◌+◌, ◌<◌, ◌≤◌, Option, Some, None, List, [], ◌∷◌, ◌++◌, length, take, drop, map, get_or, replicate, refl, ap, ◌∙◌, subst, sym, arith}
use Rattle.std.specs.Prelude.{IfSome}
use Rattle.std.specs.List.{AllByRecursion, join_with_byte}
use native.Mathlib.Numerals.{unary_clauses}
use Rattle.std.proofs.Math.ListN.{set}
use Rattle.std.proofs.Math.Seq.{take-suc-set, drop-nil}
use Rattle.std.proofs.lemmas.List.{append_assoc, length-map, length-set, map-append, take_more}
use Rattle.std.proofs.lemmas.List.Splits.{join_with_byte-slice_split}
use Rattle.std.proofs.lemmas.Bool.{ne_eqb}
use Rattle.std.proofs.lemmas.Option.{none-some}
use Rattle.tc_types.specs.declared.rides.Ride.{Ride}
use Rattle.tc_types.specs.Grammar.{Reads, listed, target_word, time_word, IsRide, AreRides}
use Rattle.tc_types.specs.RequestLine.{with_word}
use Rattle.tc_types.specs.Words.{words}
use Rattle.tc_types.proofs.Spellings.{targets_parted, times_parted}
use Rattle.tc_types.proofs.WordLaws.{words_joined}

-- one more behind those of which something holds
pub each_appended : {X : Type 0} (P : X → Type 0) (xs : List X) (y : X) → AllByRecursion P xs → P y → AllByRecursion P (xs ++ y ∷ [])
each_appended P [] y all one = (one, tt)
each_appended P (x ∷ xs) y all one = (all.0, each_appended P xs y all.1 one)

-- the next item of those of which something holds
pub each_next : {X : Type 0} (P : X → Type 0) (xs : List X) (i : ℕ) (d : X) → i < length xs → AllByRecursion P (take i xs) → P (get_or xs i d) → AllByRecursion P (take (i + 1) xs)
each_next P xs i d below all one = subst (AllByRecursion P) (sym (take_more xs i d below)) (each_appended P (take i xs) (get_or xs i d) all one)

-- So many activities were read of the words of two lists, and these words are left.
pub record HasRead (given given_times left left_times : List (List ℕ)) (count : ℕ) (places : List Ride) : Type 0 where
  pub some : 0 < count
  pub few : count ≤ 8
  pub eight : length places ≡ 8
  pub targets : given ≡ map target_word (take count places) ++ left
  pub times : given_times ≡ map time_word (take count places) ++ left_times
  pub ranges : AllByRecursion IsRide (take count places)
  -- if the words are those of a list, these are the first of it
  pub only : (rides : List Ride) → AreRides rides → given ≡ map target_word rides → given_times ≡ map time_word rides
      → (take count places ≡ take count rides) × (count ≤ length rides) × (left ≡ map target_word (drop count rides)) × (left_times ≡ map time_word (drop count rides))

-- where something holds of each, it holds of each behind the first of them
each_behind : {X : Type 0} (P : X → Type 0) (n : ℕ) (xs : List X) → AllByRecursion P xs → AllByRecursion P (drop n xs)
each_behind P n [] all = subst (AllByRecursion P) (sym (drop-nil n)) tt
each_behind P zero (x ∷ xs) all = all
each_behind P (suc n) (x ∷ xs) all = each_behind P n xs all.1

-- what is given is given once
some_is : {X : Type 0} (a b : X) → Some a ≡ Some b → a ≡ b
some_is a b same = grind (arith)

-- a list by what it has from a place on
next_of : {X : Type 0} (n : ℕ) (xs : List X) (x : X) (rest : List X) → drop n xs ≡ x ∷ rest → (suc n ≤ length xs) × (take (suc n) xs ≡ take n xs ++ x ∷ []) × (drop (suc n) xs ≡ rest)
next_of n [] x rest is = absurd (omega (arith, ap length (sym (drop-nil n) ∙ is)))
next_of zero (y ∷ xs) x rest is = (omega arith, ap (λ l. take 1 l) is, ap (λ l. drop 1 l) is)
next_of (suc n) (y ∷ xs) x rest is =
    let below = next_of n xs x rest is in
    (omega (arith, below.0), ap (λ l. y ∷ l) below.1, below.2)

-- what a reader of the next activity says where the words are those of one
abbrev pub IsOnlyNext : List (List ℕ) → List (List ℕ) → List (List ℕ) → List (List ℕ) → Option Ride → Type 0
IsOnlyNext targets times left left_times read =
    (r : Ride) (others more : List (List ℕ)) → IsRide r → targets ≡ target_word r ∷ others → times ≡ time_word r ∷ more → (read ≡ Some r) × (left ≡ others) × (left_times ≡ more)

-- the first was read
pub first_read : (given given_times left left_times : List (List ℕ)) (r : Ride) → IsRide r → given ≡ target_word r ∷ left → given_times ≡ time_word r ∷ left_times
    → IsOnlyNext given given_times left left_times (Some r) → HasRead given given_times left left_times 1 (replicate 8 r)
first_read given given_times left left_times r range target time next = record {
  some = omega arith;
  few = omega arith;
  eight = refl;
  targets = target;
  times = time;
  ranges = (range, tt);
  only = by_list;
}
  where
    by_list : (rides : List Ride) → AreRides rides → given ≡ map target_word rides → given_times ≡ map time_word rides
        → (r ∷ [] ≡ take 1 rides) × (1 ≤ length rides) × (left ≡ map target_word (drop 1 rides)) × (left_times ≡ map time_word (drop 1 rides))
    by_list [] are targets times = absurd (omega (arith, are.0.some))
    by_list (first ∷ others) are targets times =
        let is = next first (map target_word others) (map time_word others) are.1.0 targets times in
        (ap (λ x. x ∷ []) (some_is r first is.0), omega arith, is.1, is.2)

-- one more was read
pub next_read : (given given_times old old_times left left_times : List (List ℕ)) (count : ℕ) (places : List Ride) (r : Ride) → HasRead given given_times old old_times count places → count < 8
    → IsRide r → old ≡ target_word r ∷ left → old_times ≡ time_word r ∷ left_times → IsOnlyNext old old_times left left_times (Some r)
    → HasRead given given_times left left_times (count + 1) (set places count r)
next_read given given_times old old_times left left_times count places r has below range target time next = record {
  some = omega arith;
  few = omega arith;
  eight = length-set places count r ∙ has.eight;
  targets = has.targets ∙ ap (λ l. map target_word (take count places) ++ l) target ∙ appended target_word left;
  times = has.times ∙ ap (λ l. map time_word (take count places) ++ l) time ∙ appended time_word left_times;
  ranges = subst (AllByRecursion IsRide) (sym grown) (each_appended IsRide (take count places) r has.ranges range);
  only = λ rides are targets times. by_rest rides are (has.only rides are targets times) (drop count rides) refl;
}
  where
    grown : take (count + 1) (set places count r) ≡ take count places ++ r ∷ []
    grown = simp unary_clauses (take-suc-set places count r (rw has.eight below))

    appended : (word : Ride → List ℕ) (others : List (List ℕ)) → map word (take count places) ++ word r ∷ others ≡ map word (take (count + 1) (set places count r)) ++ others
    appended word others = sym (ap (λ l. map word l ++ others) grown ∙ ap (λ l. l ++ others) (map-append word (take count places) (r ∷ [])) ∙ append_assoc (map word (take count places)) (word r ∷ []) others)

    by_rest : (rides : List Ride) → AreRides rides
        → (take count places ≡ take count rides) × (count ≤ length rides) × (old ≡ map target_word (drop count rides)) × (old_times ≡ map time_word (drop count rides))
        → (rest : List Ride) → drop count rides ≡ rest
        → (take (count + 1) (set places count r) ≡ take (count + 1) rides) × (count + 1 ≤ length rides) × (left ≡ map target_word (drop (count + 1) rides)) × (left_times ≡ map time_word (drop (count + 1) rides))
    by_rest rides are known [] is = absurd (omega (arith, ap length (sym (known.2 ∙ ap (map target_word) is) ∙ target)))
    by_rest rides are known (first ∷ others) is =
        let one : IsRide first = (subst (AllByRecursion IsRide) is (each_behind IsRide count rides are.1)).0 in
        let read = next first (map target_word others) (map time_word others) one (known.2 ∙ ap (map target_word) is) (known.3 ∙ ap (map time_word) is) in
        let more : (count + 1 ≤ length rides) × (take (count + 1) rides ≡ take count rides ++ first ∷ []) × (drop (count + 1) rides ≡ others) = simp unary_clauses (next_of count rides first others is) in
        (grown ∙ ap (λ l. l ++ r ∷ []) known.0 ∙ ap (λ x. take count rides ++ x ∷ []) (some_is r first read.0) ∙ sym more.1, more.0, read.1 ∙ ap (map target_word) (sym more.2), read.2 ∙ ap (map time_word) (sym more.2))

-- where there is a word and no activity is read, the words are those of no list
pub none_read : (given given_times old old_times left left_times : List (List ℕ)) (count : ℕ) (places : List Ride) → HasRead given given_times old old_times count places
    → (old ≡ [] → ⊥) → IsOnlyNext old old_times left left_times None → (rides : List Ride) → AreRides rides → given ≡ map target_word rides → given_times ≡ map time_word rides → ⊥
none_read given given_times old old_times left left_times count places has some next rides are targets times = by_rest (has.only rides are targets times) (drop count rides) refl
  where
    by_rest : (take count places ≡ take count rides) × (count ≤ length rides) × (old ≡ map target_word (drop count rides)) × (old_times ≡ map time_word (drop count rides))
        → (rest : List Ride) → drop count rides ≡ rest → ⊥
    by_rest known [] is = some (known.2 ∙ ap (map target_word) is)
    by_rest known (first ∷ others) is =
        let one : IsRide first = (subst (AllByRecursion IsRide) is (each_behind IsRide count rides are.1)).0 in
        none-some first (next first (map target_word others) (map time_word others) one (known.2 ∙ ap (map target_word) is) (known.3 ∙ ap (map time_word) is)).0

-- where no activity is read of the first words, they are those of no list
pub nothing_read : (given given_times left left_times : List (List ℕ)) → IsOnlyNext given given_times left left_times None → (rides : List Ride) → AreRides rides → given ≡ map target_word rides
    → given_times ≡ map time_word rides → ⊥
nothing_read given given_times left left_times next [] are targets times = omega (arith, are.0.some)
nothing_read given given_times left left_times next (first ∷ others) are targets times = none-some first (next first (map target_word others) (map time_word others) are.1.0 targets times).0

-- the words of two lists are those of their texts
pub reads_lists : (target time : List ℕ) (read : Option (List Ride)) → IfSome read (λ rides. (words 59 target ≡ map target_word rides) × (words 59 time ≡ map time_word rides) × AreRides rides)
    → ((rides : List Ride) → AreRides rides → words 59 target ≡ map target_word rides → words 59 time ≡ map time_word rides → read ≡ Some rides)
    → Reads (λ rides. listed target_word rides ∷ listed time_word rides ∷ []) AreRides (target ∷ time ∷ []) read
reads_lists target time read found only = record { found = by_read read found; only = by_text }
  where
    by_read : (read : Option (List Ride)) → IfSome read (λ rides. (words 59 target ≡ map target_word rides) × (words 59 time ≡ map time_word rides) × AreRides rides)
        → IfSome read (λ rides. (target ∷ time ∷ [] ≡ listed target_word rides ∷ listed time_word rides ∷ []) × AreRides rides)
    by_read None is = tt
    by_read (Some rides) is =
        (ap (λ t. t ∷ time ∷ []) (sym (join_with_byte-slice_split 59 target) ∙ ap (join_with_byte 59) is.0) ∙ ap (λ t. listed target_word rides ∷ t ∷ []) (sym (join_with_byte-slice_split 59 time) ∙ ap (join_with_byte 59) is.1), is.2)

    by_text : (rides : List Ride) → AreRides rides → target ∷ time ∷ [] ≡ listed target_word rides ∷ listed time_word rides ∷ [] → read ≡ Some rides
    by_text rides are same =
        only rides are
        (ap (words 59) (ap (λ l. get_or l 0 []) same) ∙ words_joined 59 (map target_word rides) (targets_parted rides are.1) (rw (length-map rides target_word) are.0.some))
        (ap (words 59) (ap (λ l. get_or l 1 []) same) ∙ words_joined 59 (map time_word rides) (times_parted rides are.1) (rw (length-map rides time_word) are.0.some))

-- one word more behind a list
joined_more : (ws : List (List ℕ)) (w : List ℕ) → 0 < length ws → join_with_byte 59 (ws ++ w ∷ []) ≡ join_with_byte 59 ws ++ 59 ∷ w
joined_more [] w some = absurd (omega arith)
joined_more (v ∷ []) w some = refl
joined_more (v ∷ u ∷ ws) w some = ap (λ t. v ++ 59 ∷ t) (joined_more (u ∷ ws) w (omega arith)) ∙ sym (append_assoc v (59 ∷ join_with_byte 59 (u ∷ ws)) (59 ∷ w))

-- one activity more in a list that is printed
pub listed_more : (word : Ride → List ℕ) (rides : List Ride) (i : ℕ) (d : Ride) → i < length rides → with_word (listed word (take i rides)) i (word (get_or rides i d)) ≡ listed word (take (i + 1) rides)
listed_more word [] i d below = absurd (omega arith)
listed_more word (r ∷ rides) zero d below = refl
listed_more word (r ∷ rides) (suc i) d below =
    let behind : eqb (suc i) 0 ≡ false = ne_eqb (suc i) 0 (λ e. omega (arith, e)) in
    rw behind (sym (ap (λ l. join_with_byte 59 (map word l)) (take_more (r ∷ rides) (suc i) d below)
    ∙ ap (join_with_byte 59) (map-append word (take (suc i) (r ∷ rides)) (get_or (r ∷ rides) (suc i) d ∷ []))
    ∙ joined_more (map word (take (suc i) (r ∷ rides))) (word (get_or (r ∷ rides) (suc i) d)) (omega arith)))
