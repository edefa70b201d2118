-- Where the head of a request ends.
use Rattle.std.specs.Prelude.{◌≡◌, ℕ, ◌+◌, ◌≤◌, ◌==◌, ◌||◌, Bool, if◌then◌else◌, Option, Some, None, List, [], ◌∷◌, ◌++◌, length, take}
use Rattle.std.specs.Option.{option_map, option_or}
use Rattle.tc_front.specs.declared.ends.Before.{Before}
use Rattle.tc_front.specs.declared.ends.Before.TheVariants as before
use Rattle.tc_front.specs.declared.ends.HeadSearch.{HeadSearch}

-- CR or LF
abbrev pub is_end : ℕ → Bool
is_end byte = byte == 13 || byte == 10

-- one byte further on
abbrev pub one_more : Option ℕ → Option ℕ
one_more found = option_map (λ n. 1 + n) found

-- how long the LF is that these bytes begin with
abbrev pub line_feed : List ℕ → Option ℕ
line_feed [] = None
line_feed (byte ∷ rest) = if byte == 10 then Some 1 else None

-- how long the empty line is that these bytes begin with: LF, or CR LF
abbrev pub empty_line : List ℕ → Option ℕ
empty_line [] = None
empty_line (byte ∷ rest) = if byte == 10 then Some 1 else (if byte == 13 then one_more (line_feed rest) else None)

-- how long the shortest front is that ends in LF LF or LF CR LF
abbrev pub text_end : List ℕ → Option ℕ
text_end [] = None
text_end (byte ∷ rest) = one_more (if byte == 10 then option_or (empty_line rest) (text_end rest) else text_end rest)

-- the bytes behind the CR and LF bytes at the very front
abbrev pub skip_ends : List ℕ → List ℕ
skip_ends [] = []
skip_ends (byte ∷ rest) = if is_end byte then skip_ends rest else byte ∷ rest

-- where the head text ends, counted from the very front
abbrev pub head_end : List ℕ → Option ℕ
head_end [] = None
head_end (byte ∷ rest) = if is_end byte then one_more (head_end rest) else text_end (byte ∷ rest)

-- ---- a search that goes on

-- where the head text ends in bytes behind these others
abbrev pub end_behind : Before → List ℕ → Option ℕ
end_behind before.Nothing rest = head_end rest
end_behind before.Text rest = text_end rest
end_behind before.Line rest = option_or (empty_line rest) (text_end rest)
end_behind before.Return rest = option_or (line_feed rest) (text_end rest)

-- where it ends from one byte before: at once, or as what stands there says
abbrev pub end_next : Option Before → List ℕ → Option ℕ
end_next None rest = Some 1
end_next (Some now) rest = one_more (end_behind now rest)

-- No head text ends in these bytes, and what stands at their end says where it does in more.
pub record Reaches (front : List ℕ) (now : Before) : Type 0 where
  pub ends : (rest : List ℕ) → head_end (front ++ rest) ≡ option_map (λ n. length front + n) (end_behind now rest)

-- The search has looked at so many bytes of this text, and knows what stands at their end.
pub record HasSearched (search : HeadSearch) (text : List ℕ) : Type 0 where
  pub within : search.place ≤ length text
  pub reached : Reaches (take search.place text) search.before
