-- Two codeblocks differ in four bits at least, and the tail sequence from each codeblock in four.
use Rattle.std.proofs.Common.{◌≡◌, ℕ, zero, suc, ◌/◌, ◌%◌, ◌^◌, ◌<◌, ◌≤◌, Bool, true, false, not, List, [], ◌∷◌, length, get_or, set, Some, None, refl}
use Rattle.std.proofs.Common.{sym, ap, ◌∙◌, inl, inr, arith, subst, Option}
use Rattle.std.specs.List.{AllPairs}
use Rattle.std.specs.Prelude.{◌≢◌, ◌==◌, ◌&&◌, bit_xor}
use Rattle.std.specs.Int.Bits.{xor_assoc, xor_self, xor_zero_l, xor_zero_r}
use Rattle.std.proofs.lemmas.Bool.{and_parts, cases_eq, cases_order, cond-true, cond-false, eqb-false, not-true}
use Rattle.std.proofs.lemmas.List.{get_or-set_same, set-get_or, set-set}
use lib.Count.{ones as count_ones}
use Rattle.tc_octets.specs.Codeblocks.{codeblock_of, is_codeblock, mended_by, sent_of, turned, with_one_turned}
use Rattle.tc_octets.specs.CodeblockLaws.{Tells, tail, turned_at}
use Rattle.tc_octets.specs.CrcLaws.{AllBelow}
use Rattle.tc_octets.specs.declared.codeblocks.Mode.{Mode}
use Rattle.tc_octets.specs.declared.codeblocks.Mode.TheVariants.{Detecting, Correcting}
use Rattle.tc_octets.proofs.RegisterLemmas.{no_ones}
use Rattle.tc_octets.proofs.SyndromeLemmas.{changes, codeblock_is, codeblock_length, codeblock_syndrome, not_codeblock, parity_turned, syndrome}
use Rattle.tc_octets.proofs.SyndromeLemmas.{syndrome_turned, tail_syndrome, turned_length}

-- ---- what the bits lay over a syndrome differs

apart_from : ℕ → List ℕ → Bool
apart_from x [] = true
apart_from x (y ∷ ys) = not (x == y) && apart_from x ys

apart_at : (x : ℕ) (ys : List ℕ) (i : ℕ) → apart_from x ys ≡ true → i < length ys → x ≢ get_or ys i 0
unfolding apart_from
apart_at x [] i e h = absurd (omega arith)
apart_at x (y ∷ ys) zero e h = eqb-false x y (not-true (x == y) (and_parts (not (x == y)) (apart_from x ys) e).0)
apart_at x (y ∷ ys) (suc i) e h = apart_at x ys i (and_parts (not (x == y)) (apart_from x ys) e).1 (omega arith)

all_apart : List ℕ → Bool
all_apart [] = true
all_apart (x ∷ xs) = apart_from x xs && all_apart xs

all_apart_at : (xs : List ℕ) (i j : ℕ) → all_apart xs ≡ true → i < j → j < length xs → get_or xs i 0 ≢ get_or xs j 0
unfolding all_apart
all_apart_at [] i j e h k = absurd (omega arith)
all_apart_at (x ∷ xs) i zero e h k = absurd (omega arith)
all_apart_at (x ∷ xs) zero (suc j) e h k = apart_at x xs j (and_parts (apart_from x xs) (all_apart xs) e).0 (omega arith)
all_apart_at (x ∷ xs) (suc i) (suc j) e h k = all_apart_at xs i j (and_parts (apart_from x xs) (all_apart xs) e).1 (omega arith) (omega arith)

changes_apart : all_apart changes ≡ true
unfolding all_apart apart_from
changes_apart = refl

changes_differ : (p q : ℕ) → p < 64 → q < 64 → p ≢ q → get_or changes p 0 ≢ get_or changes q 0
changes_differ p q h k other =
    elim (cases_order p q) [
      | inl same ↦ absurd (other same)
      | inr apart ↦ elim apart [
        | inl less ↦ all_apart_at changes p q changes_apart less k
        | inr more ↦ (λ e. all_apart_at changes q p changes_apart more h (sym e))
      ]
    ]

-- no two of them are the syndrome of the tail sequence
none_with : List ℕ → Bool
none_with [] = true
none_with (x ∷ xs) = apart_from (bit_xor 0x87 x) changes && none_with xs

none_with_at : (xs : List ℕ) (i j : ℕ) → none_with xs ≡ true → i < length xs → j < 64 → bit_xor 0x87 (get_or xs i 0) ≢ get_or changes j 0
unfolding none_with
none_with_at [] i j e h k = absurd (omega arith)
none_with_at (x ∷ xs) zero j e h k = apart_at (bit_xor 0x87 x) changes j (and_parts (apart_from (bit_xor 0x87 x) changes) (none_with xs) e).0 k
none_with_at (x ∷ xs) (suc i) j e h k = none_with_at xs i j (and_parts (apart_from (bit_xor 0x87 x) changes) (none_with xs) e).1 (omega arith) k

tail_apart : none_with changes ≡ true
unfolding none_with apart_from
tail_apart = refl

-- ---- blocks with turned bits that are no codeblocks

laid_differs : (x y : ℕ) → x ≢ y → bit_xor x y ≢ 0
laid_differs x y other e =
    other
    (sym (xor_zero_r x) ∙ ap (λ n. bit_xor x n) (sym (xor_self y)) ∙ sym (xor_assoc x y y) ∙ ap (λ n. bit_xor n y) e ∙ xor_zero_l y)

-- an odd number of bits is turned in what has a syndrome of even parity
odd_refused : (places block : List ℕ) → AllBelow 64 places → length block ≡ 8 → count_ones (syndrome block) % 2 ≡ 0 → length places % 2 ≡ 1
    → is_codeblock (turned_at places block) ≡ false
odd_refused places block all long even odd =
    not_codeblock (turned_at places block)
    (λ e. let parity = parity_turned places block all long in
    let none : count_ones (syndrome (turned_at places block)) ≡ 0 = ap count_ones e ∙ no_ones in
    omega arith)

two_syndrome : (p q : ℕ) (block : List ℕ) → p < 64 → q < 64 → length block ≡ 8
    → syndrome (turned p (turned q block)) ≡ bit_xor (bit_xor (syndrome block) (get_or changes q 0)) (get_or changes p 0)
two_syndrome p q block h k long =
    syndrome_turned p (turned q block) h (turned_length q block ∙ long) ∙ ap (λ n. bit_xor n (get_or changes p 0)) (syndrome_turned q block k long)

codeblock_even : (information : List ℕ) → length information ≡ 7 → count_ones (syndrome (codeblock_of information)) % 2 ≡ 0
codeblock_even information long = ap (λ n. count_ones n % 2) (codeblock_syndrome information long) ∙ ap (λ n. n % 2) no_ones

two_of_codeblock : (information : List ℕ) (p q : ℕ) → length information ≡ 7 → p < 64 → q < 64 → p ≢ q
    → is_codeblock (turned p (turned q (codeblock_of information))) ≡ false
two_of_codeblock information p q long h k other =
    not_codeblock (turned p (turned q (codeblock_of information)))
    (λ e. laid_differs (get_or changes q 0) (get_or changes p 0) (changes_differ q p k h (λ same. other (sym same)))
    (sym (ap (λ n. bit_xor (bit_xor n (get_or changes q 0)) (get_or changes p 0)) (codeblock_syndrome information long))
    ∙ sym (two_syndrome p q (codeblock_of information) h k (codeblock_length information long)) ∙ e))

odd_of_codeblock : (information places : List ℕ) → length information ≡ 7 → AllBelow 64 places → length places % 2 ≡ 1
    → is_codeblock (turned_at places (codeblock_of information)) ≡ false
odd_of_codeblock information places long all odd =
    odd_refused places (codeblock_of information) all (codeblock_length information long) (codeblock_even information long) odd

tail_parity : count_ones 0x87 % 2 ≡ 0
unfolding count_ones
tail_parity = refl

tail_even : count_ones (syndrome tail) % 2 ≡ 0
tail_even = ap (λ n. count_ones n % 2) tail_syndrome ∙ tail_parity

odd_of_tail : (places : List ℕ) → AllBelow 64 places → length places % 2 ≡ 1 → is_codeblock (turned_at places tail) ≡ false
odd_of_tail places all odd = odd_refused places tail all refl tail_even odd

some_number : (n : ℕ) → 0 < n → n ≢ 0
some_number n h e = omega arith

whole_tail : is_codeblock tail ≡ false
whole_tail = not_codeblock tail (λ e. some_number 0x87 (omega arith) (sym tail_syndrome ∙ e))

two_of_tail : (p q : ℕ) → p < 64 → q < 64 → is_codeblock (turned p (turned q tail)) ≡ false
two_of_tail p q h k =
    not_codeblock (turned p (turned q tail))
    (λ e. laid_differs (bit_xor 0x87 (get_or changes q 0)) (get_or changes p 0) (none_with_at changes q p tail_apart k h)
    (sym (ap (λ n. bit_xor (bit_xor n (get_or changes q 0)) (get_or changes p 0)) tail_syndrome) ∙ sym (two_syndrome p q tail h k refl) ∙ e))

-- ---- decoders

none_mends : (count : ℕ) (block : List ℕ) → ((place : ℕ) → place < count → is_codeblock (turned place block) ≡ false)
    → with_one_turned count block ≡ None
unfolding with_one_turned
none_mends zero block each = refl
none_mends (suc count) block each =
    cond-false (is_codeblock (turned count block)) (Some (turned count block)) (with_one_turned count block) (each count (omega arith))
    ∙ none_mends count block (λ place h. each place (omega arith))

one_mends : (count place : ℕ) (block : List ℕ) → place < count → is_codeblock (turned place block) ≡ true
    → ((other : ℕ) → other < count → other ≢ place → is_codeblock (turned other block) ≡ false)
    → with_one_turned count block ≡ Some (turned place block)
unfolding with_one_turned
one_mends zero place block h e each = absurd (omega arith)
one_mends (suc count) place block h e each =
    elim (cases_eq count place) [
      | inl same ↦ cond-true (is_codeblock (turned count block)) (Some (turned count block)) (with_one_turned count block)
          (ap (λ n. is_codeblock (turned n block)) same ∙ e) ∙ ap (λ n. Some (turned n block)) same
      | inr differs ↦ cond-false (is_codeblock (turned count block)) (Some (turned count block)) (with_one_turned count block)
          (each count (omega arith) differs) ∙ one_mends count place block (omega arith) e (λ other k ne. each other (omega arith) ne)
    ]

detected : (block : List ℕ) → is_codeblock block ≡ false → sent_of Detecting block ≡ None
unfolding sent_of
detected block e = cond-false (is_codeblock block) (Some block) None e

corrected : (block : List ℕ) → is_codeblock block ≡ false → sent_of Correcting block ≡ with_one_turned 64 block
unfolding sent_of
corrected block e = cond-false (is_codeblock block) (Some block) (with_one_turned 64 block) e

turned_back : (place : ℕ) (block : List ℕ) → place < 64 → length block ≡ 8 → turned place (turned place block) ≡ block
turned_back place block h long =
    let i = place / 8 in
    let m = 128 / 2 ^ (place % 8) in
    let was = get_or block i 0 in
    ap (λ n. set (set block i (bit_xor was m)) i (bit_xor n m)) (get_or-set_same block i (bit_xor was m) 0 (omega arith))
    ∙ set-set block i (bit_xor was m) (bit_xor (bit_xor was m) m)
    ∙ ap (λ n. set block i n) (xor_assoc was m m ∙ ap (λ n. bit_xor was n) (xor_self m) ∙ xor_zero_r was)
    ∙ set-get_or block i 0

whole_taken : (mode : Mode) (information : List ℕ) → length information ≡ 7
    → sent_of mode (codeblock_of information) ≡ Some (codeblock_of information)
unfolding sent_of
whole_taken mode information long =
    cond-true (is_codeblock (codeblock_of information)) (Some (codeblock_of information)) (mended_by mode (codeblock_of information))
    (codeblock_is information long)

three_found : (information places : List ℕ) → length information ≡ 7 → AllBelow 64 places → AllPairs (λ p q. p ≢ q) places → 1 ≤ length places
    → length places ≤ 3 → sent_of Detecting (turned_at places (codeblock_of information)) ≡ None
three_found information [] long all differ least most = absurd (omega arith)
three_found information (p ∷ []) long all differ least most = detected _ (odd_of_codeblock information (p ∷ []) long all refl)
three_found information (p ∷ q ∷ []) long all differ least most =
    detected _ (two_of_codeblock information p q long all.0 all.1.0 (differ 0 1 0 (omega arith) (omega arith)))
three_found information (p ∷ q ∷ r ∷ []) long all differ least most = detected _ (odd_of_codeblock information (p ∷ q ∷ r ∷ []) long all refl)
three_found information (p ∷ q ∷ r ∷ s ∷ rest) long all differ least most = absurd (omega arith)

one_mended : (information : List ℕ) (place : ℕ) → length information ≡ 7 → place < 64
    → sent_of Correcting (turned place (codeblock_of information)) ≡ Some (codeblock_of information)
one_mended information place long h =
    let back = turned_back place (codeblock_of information) h (codeblock_length information long) in
    corrected _ (odd_of_codeblock information (place ∷ []) long (h, tt) refl)
    ∙ one_mends 64 place (turned place (codeblock_of information)) h (ap is_codeblock back ∙ codeblock_is information long)
    (λ other k ne. two_of_codeblock information other place long k h ne)
    ∙ ap Some back

two_refused : (information : List ℕ) (place other : ℕ) → length information ≡ 7 → place < 64 → other < 64 → place ≢ other
    → sent_of Correcting (turned place (turned other (codeblock_of information))) ≡ None
two_refused information place other long h k ne =
    corrected _ (two_of_codeblock information place other long h k ne)
    ∙ none_mends 64 (turned place (turned other (codeblock_of information)))
    (λ third m. odd_of_codeblock information (third ∷ place ∷ other ∷ []) long (m, (h, (k, tt))) refl)

tail_refused : (mode : Mode) (places : List ℕ) → AllBelow 64 places → length places ≤ 2 → sent_of mode (turned_at places tail) ≡ None
tail_refused Detecting [] all few = detected _ whole_tail
tail_refused Detecting (p ∷ []) all few = detected _ (odd_of_tail (p ∷ []) all refl)
tail_refused Detecting (p ∷ q ∷ []) all few = detected _ (two_of_tail p q all.0 all.1.0)
tail_refused Correcting [] all few = corrected _ whole_tail ∙ none_mends 64 tail (λ place h. odd_of_tail (place ∷ []) (h, tt) refl)
tail_refused Correcting (p ∷ []) all few =
    corrected _ (odd_of_tail (p ∷ []) all refl) ∙ none_mends 64 (turned p tail) (λ place h. two_of_tail place p h all.0)
tail_refused Correcting (p ∷ q ∷ []) all few =
    corrected _ (two_of_tail p q all.0 all.1.0) ∙ none_mends 64 (turned p (turned q tail)) (λ place h. odd_of_tail (place ∷ p ∷ q ∷ []) (h, all) refl)
tail_refused mode (p ∷ q ∷ r ∷ rest) all few = absurd (omega arith)

-- ---- all of it

pub sent_tells : (mode : Mode) (block : List ℕ) → Tells mode block (sent_of mode block)
sent_tells mode block = record {
  whole = λ information long e. ap (λ (l : List ℕ). sent_of mode l) e ∙ whole_taken mode information long;
  found =
      λ detecting information places long all differ least most e. ap (λ (m : Mode). sent_of m block) detecting
      ∙ ap (λ (l : List ℕ). sent_of Detecting l) e
      ∙ three_found information places long all differ least most;
  mended =
      λ correcting information place long h e. ap (λ (m : Mode). sent_of m block) correcting
      ∙ ap (λ (l : List ℕ). sent_of Correcting l) e
      ∙ one_mended information place long h;
  refused =
      λ correcting information place other long h k ne e. ap (λ (m : Mode). sent_of m block) correcting
      ∙ ap (λ (l : List ℕ). sent_of Correcting l) e
      ∙ two_refused information place other long h k ne;
  ended = λ places all few e. ap (λ (l : List ℕ). sent_of mode l) e ∙ tail_refused mode places all few;
}

pub tells : (mode : Mode) (block : List ℕ) (answer : Option (List ℕ)) → answer ≡ sent_of mode block → Tells mode block answer
tells mode block answer e = subst (λ (o : Option (List ℕ)). Tells mode block o) (sym e) (sent_tells mode block)
