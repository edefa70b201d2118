-- Lines as they are written.
use Rattle.std.specs.Prelude.{ℕ, IsTrue, List, [], ◌∷◌, ◌++◌}
use Rattle.std.specs.List.{flat_map, list_all}
use Rattle.tc_types.specs.Words.{is_one_line}

-- each ended by LF
abbrev pub ended : List (List ℕ) → List ℕ
ended lines = flat_map (λ (line : List ℕ). line ++ 10 ∷ []) lines

-- no LF is in any of them, so that `ended` says where each ends
abbrev pub AreLines : List (List ℕ) → Type 0
AreLines lines = IsTrue (list_all is_one_line lines)
