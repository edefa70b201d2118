-- What a source of texts found, where a contract can name it.
use Rattle.std.specs.Prelude.{◌≡◌, ℕ, Option, Some, None, List, ◌++◌, ⊤}

-- the text at a path; none where there is none that can be read
pub record Seen : Type 0 where
  pub path : List ℕ
  pub text : Option (List ℕ)

abbrev pub seen_at : List ℕ → Option (List ℕ) → Seen
seen_at path text = record { path = path; text = text }

-- the known finds grow by these
abbrev pub Gives : Option (List Seen) → Option (List Seen) → List Seen → Type 0
Gives None new more = ⊤
Gives (Some all) None more = ⊥
Gives (Some all) (Some after) more = after ≡ all ++ more
