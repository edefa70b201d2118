-- What a walk over rows finds behind bytes that no parameter takes.
use Rattle.std.proofs.Common.{◌<◌, ◌+◌, ◌⊎◌, inl, inr, arith, drop, append-nil, length-append, ◌≡◌, ℕ, zero, suc, ◌-◌, ◌==◌, ◌&&◌, ◌||◌, ltb, Bool, true, false, cond, Option, Some, None, List, [], ◌∷◌, ◌++◌, length, refl, ap, sym, ◌∙◌}
use Rattle.matchit.specs.Rows.{RowsOf, param_token, catch_all_token}
use Rattle.std.proofs.lemmas.Bool.{and_parts, or_parts, false≢true, eqb-true, lt-ltb}
use Rattle.std.proofs.lemmas.Bool.Decides.{nat_tests}
use Rattle.std.proofs.Math.Seq.{drop_at}
use Rattle.matchit.specs.Seek.{segment, same_text, cuts, longest_suffix, own, step, or_else, seek, param_step, has_slash, slash}

module _ {K : Type 0} where
  no_rows_step : (path : List ℕ) → (param_step {K = K} [] path).1 ≡ []
  unfolding param_step
  no_rows_step path =
      elim (has_slash path) as (λ v. (cond {A = ℕ × RowsOf K} v (0, []) (length path, [])).1 ≡ []) [
        | true ↦ refl
        | false ↦ refl
      ]

  -- no rows match nothing
  pub no_rows : (skip : ℕ) (path : List ℕ) → seek {K = K} skip [] path ≡ None
  unfolding seek
  no_rows skip [] = refl
  no_rows (suc skip) (b ∷ path) = no_rows skip path
  no_rows zero (b ∷ path) = simp (no_rows 0 path, no_rows_step (b ∷ path), no_rows (((param_step {K = K} [] (b ∷ path)).0) - 1) path)

  or_none : (found : Option K) → or_else found None ≡ found
  or_none None = refl
  or_none (Some key) = refl

  -- a byte of the path where no row has a parameter
  pub byte_step : (b : ℕ) (path : List ℕ) (rows : RowsOf K) → step param_token rows ≡ [] → step catch_all_token rows ≡ [] → seek 0 rows (b ∷ path) ≡ seek 0 (step b rows) path
  unfolding seek
  byte_step b path rows no_param no_catch_all =
      rw (no_param, no_catch_all, no_rows_step (b ∷ path), no_rows ((param_step {K = K} [] (b ∷ path)).0 - 1) path) (or_none (seek 0 (step b rows) path))

  -- the rows that go on with this text
  abbrev pub steps : List ℕ → RowsOf K → RowsOf K
  steps [] rows = rows
  steps (b ∷ text) rows = steps text (step b rows)

  abbrev pub is_nil : RowsOf K → Bool
  is_nil [] = true
  is_nil (row ∷ rows) = false

  nil : (rows : RowsOf K) → is_nil rows ≡ true → rows ≡ []
  nil [] e = refl
  nil (row ∷ rows) e = absurd (false≢true e)

  -- no row has a parameter on the way over this text
  abbrev pub is_plain : List ℕ → RowsOf K → Bool
  is_plain [] rows = true
  is_plain (b ∷ text) rows = is_nil (step param_token rows) && (is_nil (step catch_all_token rows) && is_plain text (step b rows))

  pub text_steps : (text path : List ℕ) (rows : RowsOf K) → is_plain text rows ≡ true → seek 0 rows (text ++ path) ≡ seek 0 (steps text rows) path
  text_steps [] path rows plain = refl
  text_steps (b ∷ text) path rows plain =
      let p = and_parts (is_nil (step param_token rows)) (is_nil (step catch_all_token rows) && is_plain text (step b rows)) plain in
      let q = and_parts (is_nil (step catch_all_token rows)) (is_plain text (step b rows)) p.1 in
      byte_step b (text ++ path) rows (nil _ p.0) (nil _ q.0) ∙ text_steps text path (step b rows) q.1

-- the first segment goes up to the slash
pub segment_is : (part path : List ℕ) → has_slash part ≡ false → segment (part ++ slash ∷ path) ≡ part ++ slash ∷ []
segment_is [] path e = refl
segment_is (b ∷ part) path e = by (b == slash) e (segment_is part path)
  where
    by : (v : Bool) → cond v true (has_slash part) ≡ false → (has_slash part ≡ false → segment (part ++ slash ∷ path) ≡ part ++ slash ∷ [])
        → cond v (b ∷ []) (b ∷ segment (part ++ slash ∷ path)) ≡ b ∷ part ++ slash ∷ []
    by true f rest = absurd (false≢true (sym f))
    by false f rest = ap (λ l. b ∷ l) (rest f)

-- the path may match the pattern: it has the bytes in front of the first parameter, and ends where the pattern does
abbrev pub fits : List ℕ → List ℕ → Bool
fits [] [] = true
fits [] (b ∷ path) = false
fits (x ∷ pattern) [] = false
fits (x ∷ pattern) (b ∷ path) = cond (ltb x param_token) (x == b && fits pattern path) true

module _ {K : Type 0} where
  abbrev pub any_fits : RowsOf K → List ℕ → Bool
  any_fits [] path = false
  any_fits ((pattern, key) ∷ rows) path = fits pattern path || any_fits rows path

  unfit_end : (rows : RowsOf K) → any_fits rows [] ≡ false → own rows ≡ None
  unfit_end [] e = refl
  unfit_end (([], key) ∷ rows) e = absurd (false≢true (sym e))
  unfit_end ((x ∷ pattern, key) ∷ rows) e = unfit_end rows e

  -- a parameter fits any byte
  unfit_param : (token b : ℕ) (path : List ℕ) (rows : RowsOf K) → ltb token param_token ≡ false → any_fits rows (b ∷ path) ≡ false → step token rows ≡ []
  unfit_param token b path [] wild e = refl
  unfit_param token b path (([], key) ∷ rows) wild e = unfit_param token b path rows wild e
  unfit_param token b path ((x ∷ pattern, key) ∷ rows) wild e =
      by (unfit_param token b path rows wild (or_parts (fits (x ∷ pattern) (b ∷ path)) (any_fits rows (b ∷ path)) e).1) (x == token) refl
    where
      by : step token rows ≡ [] → (v : Bool) → (x == token) ≡ v → cond v ((pattern, key) ∷ step token rows) (step token rows) ≡ []
      by rest true is =
          let same : x ≡ token = eqb-true x token is in
          let fit : fits (x ∷ pattern) (b ∷ path) ≡ true = rw (same, wild) refl in
          absurd (false≢true (sym (or_parts (fits (x ∷ pattern) (b ∷ path)) (any_fits rows (b ∷ path)) e).0 ∙ fit))
      by rest false is = rest

  unfit_step : (b : ℕ) (path : List ℕ) (rows : RowsOf K) → any_fits rows (b ∷ path) ≡ false → any_fits (step b rows) path ≡ false
  unfit_step b path [] e = refl
  unfit_step b path (([], key) ∷ rows) e = unfit_step b path rows e
  unfit_step b path ((x ∷ pattern, key) ∷ rows) e = by (unfit_step b path rows parts.1) (x == b) refl
    where
      parts : (fits (x ∷ pattern) (b ∷ path) ≡ false) × (any_fits rows (b ∷ path) ≡ false)
      parts = or_parts (fits (x ∷ pattern) (b ∷ path)) (any_fits rows (b ∷ path)) e

      at : (v w : Bool) → cond v (w && fits pattern path) true ≡ false → w ≡ true → fits pattern path ≡ false
      at true true f is = f
      at true false f is = absurd (false≢true is)
      at false w f is = absurd (false≢true (sym f))

      by : any_fits (step b rows) path ≡ false → (v : Bool) → (x == b) ≡ v → any_fits (cond v ((pattern, key) ∷ step b rows) (step b rows)) path ≡ false
      by rest true is = rw (at (ltb x param_token) (x == b) parts.0 is) rest
      by rest false is = rest

  -- a path that no pattern fits is not found
  pub unfit : (path : List ℕ) (rows : RowsOf K) → any_fits rows path ≡ false → seek 0 rows path ≡ None
  unfolding seek
  unfit [] rows e = unfit_end rows e
  unfit (b ∷ path) rows e =
      byte_step b path rows (unfit_param param_token b path rows refl e) (unfit_param catch_all_token b path rows refl e)
      ∙ unfit path (step b rows) (unfit_step b path rows e)

  seek_skip : (part path : List ℕ) (rows : RowsOf K) → seek (length part) rows (part ++ path) ≡ seek 0 rows path
  unfolding seek
  seek_skip [] path rows = refl
  seek_skip (b ∷ part) path rows = seek_skip part path rows

  module _ (key : K) where
    abbrev pub one_param : RowsOf K
    one_param = (param_token ∷ [], key) ∷ []

    abbrev pub two_params : RowsOf K
    two_params = (param_token ∷ slash ∷ param_token ∷ [], key) ∷ []

    abbrev pub slash_param : RowsOf K
    slash_param = (slash ∷ param_token ∷ [], key) ∷ []

    -- the last parameter takes all that is left, if that is a byte or more and has no slash
    pub last_param : (b : ℕ) (path : List ℕ) → b < 256 → seek 0 one_param (b ∷ path) ≡ cond (has_slash (b ∷ path)) None (Some key)
    unfolding seek param_step
    last_param b path small = by (has_slash (b ∷ path)) refl
      where
        other : (param_token == b) ≡ false
        other = grind (arith, nat_tests)

        all : seek {K = K} (length path) (([], key) ∷ []) path ≡ Some key
        all = ap (seek (length path) (([], key) ∷ [])) (sym (append-nil path)) ∙ seek_skip path [] (([], key) ∷ [])

        by : (v : Bool) → has_slash (b ∷ path) ≡ v → seek 0 one_param (b ∷ path) ≡ cond v None (Some key)
        by true e = rw (other, e, no_rows 0 path) refl
        by false e =
            let n : length (b ∷ path) - 1 ≡ length path = omega arith in
            rw (other, e, n, no_rows 0 path, all) refl

    other_token : (b : ℕ) → b < 256 → (param_token == b) ≡ false
    other_token b small = grind (arith, nat_tests)

    -- what lacks the slash is not found behind a parameter
    lacks_slash : (skip : ℕ) (path : List ℕ) → has_slash path ≡ false → seek skip slash_param path ≡ None
    unfolding seek
    lacks_slash skip [] e = refl
    lacks_slash (suc skip) (b ∷ path) e = by (b == slash) e (λ f. lacks_slash skip path f)
      where
        by : (v : Bool) → cond v true (has_slash path) ≡ false → (has_slash path ≡ false → seek skip slash_param path ≡ None) → seek skip slash_param path ≡ None
        by true f rest = absurd (false≢true (sym f))
        by false f rest = rest f
    lacks_slash zero (b ∷ path) e = by (b == slash) refl e
      where
        by : (v : Bool) → (b == slash) ≡ v → cond v true (has_slash path) ≡ false → seek 0 slash_param (b ∷ path) ≡ None
        by true is f = absurd (false≢true (sym f))
        by false is f =
            let other : (slash == b) ≡ false = grind (arith, nat_tests) in
            byte_step b path slash_param refl refl ∙ rw other (no_rows 0 path)

    -- a parameter leaves the row or drops it
    param_leaves : (path : List ℕ) → ((param_step slash_param path).1 ≡ slash_param) ⊎ ((param_step slash_param path).1 ≡ [])
    unfolding param_step
    param_leaves path = by (length (segment path) - length (longest_suffix (segment path) slash_param)) (ltb 0 (length (longest_suffix (segment path) slash_param))) (same_text (slash ∷ []) (longest_suffix (segment path) slash_param)) (has_slash path)
      where
        by : (n : ℕ) (t u v : Bool) → ((cond {A = ℕ × RowsOf K} t (n, cond u slash_param []) (cond v (0, []) (length path, slash_param))).1 ≡ slash_param)
            ⊎ ((cond {A = ℕ × RowsOf K} t (n, cond u slash_param []) (cond v (0, []) (length path, slash_param))).1 ≡ [])
        by n true true v = inl refl
        by n true false v = inr refl
        by n false u true = inr refl
        by n false u false = inl refl

    -- two parameters do not match without a slash
    pub no_second : (path : List ℕ) → ((b : ℕ) (rest : List ℕ) → path ≡ b ∷ rest → b < 256) → has_slash path ≡ false → seek 0 two_params path ≡ None
    unfolding seek
    no_second [] small e = refl
    no_second (b ∷ path) small e = rw (other_token b (small b path refl), no_rows {K = K} 0 path) (behind (tail (b == slash) e) (param_leaves (b ∷ path)))
      where
        tail : (v : Bool) → cond v true (has_slash path) ≡ false → has_slash path ≡ false
        tail true f = absurd (false≢true (sym f))
        tail false f = f

        behind : has_slash path ≡ false → ((param_step slash_param (b ∷ path)).1 ≡ slash_param) ⊎ ((param_step slash_param (b ∷ path)).1 ≡ [])
            → or_else (seek ((param_step slash_param (b ∷ path)).0 - 1) (param_step slash_param (b ∷ path)).1 path) None ≡ None
        behind f (inl is) = rw (is, lacks_slash ((param_step slash_param (b ∷ path)).0 - 1) path f) refl
        behind f (inr is) = rw (is, no_rows {K = K} ((param_step slash_param (b ∷ path)).0 - 1) path) refl

    cuts_slash : (b : ℕ) (part : List ℕ) → cuts (b ∷ part ++ slash ∷ []) (slash ∷ []) ≡ true
    cuts_slash b part =
        let long : length (b ∷ part ++ slash ∷ []) ≡ suc (length part) + 1 = omega (arith, length-append part (slash ∷ [])) in
        let at : length (b ∷ part ++ slash ∷ []) - 1 ≡ length (b ∷ part) = omega (arith, length-append part (slash ∷ [])) in
        let more : ltb 1 (length (b ∷ part ++ slash ∷ [])) ≡ true = lt-ltb 1 (length (b ∷ part ++ slash ∷ [])) (omega arith) in
        let end : drop (length (b ∷ part)) ((b ∷ part) ++ slash ∷ []) ≡ slash ∷ [] = drop_at (b ∷ part) (slash ∷ []) (length (b ∷ part)) refl in
        rw (more, at, end) refl

    param_takes : (b : ℕ) (part path : List ℕ) → has_slash (b ∷ part) ≡ false → param_step slash_param (b ∷ part ++ slash ∷ path) ≡ (suc (length part), slash_param)
    unfolding param_step
    param_takes b part path e =
        let n : length (b ∷ part ++ slash ∷ []) - 1 ≡ suc (length part) = omega (arith, length-append part (slash ∷ [])) in
        rw (segment_is (b ∷ part) path e, cuts_slash b part, n) refl

    -- the first parameter takes the bytes in front of the slash
    pub first_param : (b : ℕ) (part path : List ℕ) → b < 256 → has_slash (b ∷ part) ≡ false → seek 0 two_params (b ∷ part ++ slash ∷ path) ≡ seek 0 one_param path
    unfolding seek
    first_param b part path small e =
        let n : suc (length part) - 1 ≡ length part = omega arith in
        rw (other_token b small, no_rows {K = K} 0 (part ++ slash ∷ path), param_takes b part path e, n)
        (or_none (seek (length part) slash_param (part ++ slash ∷ path)) ∙ seek_skip part (slash ∷ path) slash_param ∙ byte_step slash path slash_param refl refl)

    -- the first parameter takes a byte or more
    pub no_first : (path : List ℕ) → seek 0 two_params (slash ∷ path) ≡ None
    unfolding seek param_step
    no_first path = simp (no_rows {K = K} 0 path)
