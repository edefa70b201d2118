-- Lines that were found, as they are shown.
use Rattle.std.specs.Prelude.{◌≡◌, ℕ, ◌==◌, nat_lt, Bool, true, false, if◌then◌else◌, List, [], ◌∷◌, ◌++◌, codes, length, take, min, get_or}
use Rattle.std.specs.List.{flat_map}
use Rattle.std.specs.String.{string_bytes}
use Rattle.tc_check.specs.declared.findings.Findings.{Findings}

-- each ended by LF
abbrev pub ended : List (List ℕ) → List ℕ
ended lines = flat_map (λ (line : List ℕ). line ++ 10 ∷ []) lines

-- 20 of them at most; where there are others, that there are
abbrev pub shown_lines : List (List ℕ) → List ℕ
shown_lines lines = ended (take 20 lines) ++ (if nat_lt 20 (length lines) then codes "and more\n" else [])

abbrev pub is_none_found : List (List ℕ) → Bool
is_none_found [] = true
is_none_found (line ∷ lines) = false

-- the first of them; nothing where there is none
abbrev pub first_line : List (List ℕ) → List ℕ
first_line lines = get_or lines 0 []

-- what a line adds to it, where so many stand before
abbrev pub front_of : ℕ → List ℕ → List ℕ
front_of count line = if count == 0 then line else []

-- what is kept of these lines
pub record Shows (lines : List (List ℕ)) (kept : Findings) : Type 0 where
  pub first : string_bytes kept.first ≡ first_line lines
  pub text : string_bytes kept.text ≡ shown_lines lines
  pub count : kept.count ≡ min (length lines) 21
