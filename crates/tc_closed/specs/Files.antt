-- What a source of files answered, where a contract can name it.
use Rattle.std.specs.Prelude.{◌≡◌, ℕ, Option, Some, None, Result, Ok, Err, List, ◌++◌, ⊤}
use Rattle.tc_closed.specs.declared.paths.PathFault.{PathFault}

-- what was answered at a path: the text that was found there, or why there was none
pub record FileAnswer : Type 0 where
  pub path : List ℕ
  pub found : Result (List ℕ) PathFault

-- this text was found at a path
abbrev pub file_at : List ℕ → List ℕ → FileAnswer
file_at path text = record { path = path; found = Ok text }

-- there was no text at a path, for this reason
abbrev pub none_at : List ℕ → PathFault → FileAnswer
none_at path why = record { path = path; found = Err why }

-- the known answers grow by these
abbrev pub Gives : Option (List FileAnswer) → Option (List FileAnswer) → List FileAnswer → Type 0
Gives None new more = ⊤
Gives (Some all) None more = ⊥
Gives (Some all) (Some after) more = after ≡ all ++ more
