-- The words of a text: what stands between its separators.
use Rattle.std.specs.Prelude.{ℕ, ◌==◌, Bool, not, Option, Some, None, List, []}
use Rattle.std.specs.List.{list_all, slice_split}
use denote.Ref.{Bor}

-- one word more than there are separators
abbrev pub words : ℕ → List ℕ → List (List ℕ)
words separator text = slice_split (λ byte. byte == separator) text

-- the words of the text that is left; none where nothing is left
abbrev pub words_left : ℕ → Option (Bor (List ℕ)) → List (List ℕ)
words_left separator None = []
words_left separator (Some rest) = words separator rest.now

-- no byte of a text is an LF
abbrev pub is_one_line : List ℕ → Bool
is_one_line text = list_all (λ byte. not (byte == 10)) text
