-- Paths that are cut at their slashes.
use Rattle.std.proofs.Common.{◌≡◌, ◌⊎◌, inl, inr, ℕ, ◌==◌, Bool, true, false, cond, if◌then◌else◌, Some, None, List, [], ◌∷◌, ◌++◌, length, refl, ap, ap₂, arith}
use Rattle.std.proofs.lemmas.Bool.{false≢true, eqb-true, and_parts, and_from, eq-eqb, lt-ltb}
use Rattle.matchit.specs.Seek.{has_slash, slash}
use Rattle.tc_types.specs.Words.{words}
use Rattle.tc_front.specs.Paths.{Named, same, is_filled, ends_here, one_text}

-- no slash in the path
pub record Whole (path : List ℕ) : Type 0 where
  pub cut : words 47 path ≡ path ∷ []
  pub plain : has_slash path ≡ false

-- a word, a slash, and what is left
pub record Parted (path : List ℕ) : Type 0 where
  pub word : List ℕ
  pub rest : List ℕ
  pub is : path ≡ word ++ slash ∷ rest
  pub cut : words 47 path ≡ word ∷ words 47 rest
  pub plain : has_slash word ≡ false

pub parted : (path : List ℕ) → Whole path ⊎ Parted path
parted [] = inl (record { cut = refl; plain = refl })
parted (b ∷ path) = by (b == 47) refl (parted path)
  where
    by : (v : Bool) → (b == 47) ≡ v → Whole path ⊎ Parted path → Whole (b ∷ path) ⊎ Parted (b ∷ path)
    by true e later = inr (record { word = []; rest = path; is = ap (λ x. x ∷ path) (eqb-true b 47 e); cut = rw e refl; plain = refl })
    by false e (inl w) = inl (record { cut = rw (e, w.cut) refl; plain = rw e w.plain })
    by false e (inr p) = inr (record { word = b ∷ p.word; rest = p.rest; is = ap (λ l. b ∷ l) p.is; cut = rw (e, p.cut) refl; plain = rw e p.plain })

pub has_slash-parted : (word rest : List ℕ) → has_slash (word ++ slash ∷ rest) ≡ true
has_slash-parted [] rest = refl
has_slash-parted (b ∷ word) rest = by (b == slash) (has_slash-parted word rest)
  where
    by : (v : Bool) → has_slash (word ++ slash ∷ rest) ≡ true → cond v true (has_slash (word ++ slash ∷ rest)) ≡ true
    by true later = refl
    by false later = later

pub same_is : (a b : List ℕ) → same a b ≡ true → a ≡ b
same_is [] [] e = refl
same_is [] (y ∷ b) e = absurd (false≢true e)
same_is (x ∷ a) [] e = absurd (false≢true e)
same_is (x ∷ a) (y ∷ b) e = let p = and_parts (x == y) (same a b) e in ap₂ (λ z zs. z ∷ zs) (eqb-true x y p.0) (same_is a b p.1)

-- words that are no text of a last parameter: an empty one, or one more behind it
pub record IsNoLast (words : List (List ℕ)) : Type 0 where
  pub first : List ℕ
  pub rest : List (List ℕ)
  pub is : words ≡ first ∷ rest
  pub why : (is_filled first ≡ false) ⊎ ((word : List ℕ) × (more : List (List ℕ)) × (rest ≡ word ∷ more))

-- a path has a word, be it empty
pub some_word : (path : List ℕ) → (word : List ℕ) × (more : List (List ℕ)) × (words 47 path ≡ word ∷ more)
some_word path = by (parted path)
  where
    by : Whole path ⊎ Parted path → (word : List ℕ) × (more : List (List ℕ)) × (words 47 path ≡ word ∷ more)
    by (inl w) = (path, [], w.cut)
    by (inr p) = (p.word, words 47 p.rest, p.cut)

pub goes_on : (named : Named) (path : List ℕ) → ends_here named (words 47 path) ≡ None
goes_on named path = rw (some_word path).2 refl

no_last : (t : Named) (first : List ℕ) (rest : List (List ℕ)) → (is_filled first ≡ false) ⊎ ((word : List ℕ) × (more : List (List ℕ)) × (rest ≡ word ∷ more)) → (if is_filled first then ends_here t rest else None) ≡ None
no_last t first rest (inl empty) = rw empty refl
no_last t first rest (inr more) = rw more.2 (by (is_filled first))
  where
    by : (v : Bool) → (if v then ends_here t (more.0 ∷ more.1) else None) ≡ None
    by true = refl
    by false = refl

pub one_no_last : (named : List ℕ → Named) (path : List ℕ) → IsNoLast (words 47 path) → one_text named (words 47 path) ≡ None
one_no_last named path bad = rw bad.is (no_last (named bad.first) bad.first bad.rest bad.why)

pub one_last : (named : List ℕ → Named) (path : List ℕ) → words 47 path ≡ path ∷ [] → is_filled path ≡ true → one_text named (words 47 path) ≡ Some (named path)
one_last named path cut some = rw cut (rw some refl)

pub same_either : {A : Type 0} (v : Bool) (a b c : A) → a ≡ c → b ≡ c → (if v then a else b) ≡ c
same_either true a b c e f = e
same_either false a b c e f = f

pub same_refl : (a : List ℕ) → same a a ≡ true
same_refl [] = refl
same_refl (x ∷ a) = and_from (x == x) (same a a) (eq-eqb x x refl) (same_refl a)

pub filled_is : (b : ℕ) (word : List ℕ) → is_filled (b ∷ word) ≡ true
filled_is b word = lt-ltb 0 (length (b ∷ word)) (omega arith)

-- a word is this name, or it is another
pub is_word : (word name : List ℕ) → (word ≡ name) ⊎ (same word name ≡ false)
is_word word name = by (same word name) refl
  where
    by : (v : Bool) → same word name ≡ v → (word ≡ name) ⊎ (same word name ≡ false)
    by true e = inl (same_is word name e)
    by false e = inr e
