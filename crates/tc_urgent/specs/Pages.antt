-- A reply that shows a page of the lines.
use Rattle.std.specs.Prelude.{◌≡◌, ℕ, ◌-◌, nat_lt, Bool, IsPermutation, List, [], ◌∷◌, ◌++◌, codes, drop, length, map}
use Rattle.tc_types.specs.ListLines.{shown_words}
use Rattle.tc_book.specs.Book.{Book}
use Rattle.tc_urgent.specs.declared.lines.UrgentLine.{UrgentLine}
use Rattle.tc_urgent.specs.Folds.{folded}
use Rattle.tc_urgent.specs.Laws.{AreByUrgency}
use Rattle.tc_urgent.specs.Lines.{lines_of, page_of}
use Rattle.tc_urgent.specs.Texts.{urgent_text}

-- urgent K, or urgent K more where others come later
abbrev pub head_line : ℕ → Bool → List ℕ
head_line shown more = codes "urgent " ++ shown_words shown more

-- lines come behind the page that begins with this one
abbrev pub has_more : ℕ → List UrgentLine → Bool
has_more from lines = nat_lt 50 (length (drop (from - 1) lines))

-- the page that begins with this line: how many lines it has, and these
abbrev pub page_lines : ℕ → List UrgentLine → List (List ℕ)
page_lines from lines = head_line (length (page_of from lines)) (has_more from lines) ∷ map urgent_text (page_of from lines)

-- These are all lines of a book by urgency, folded; `opened` moves stood at the opening, and the mirror has the requests `scheduled`.
pub record AreUrgent (book : Book) (opened : ℕ) (scheduled : List ℕ) (shown : List UrgentLine) : Type 0 where
  pub lines : List UrgentLine
  pub once : IsPermutation (lines_of book opened scheduled) lines
  pub sorted : AreByUrgency lines
  pub folds : shown ≡ folded lines

-- a reply shows the page of them that begins with this line
pub record ShowsUrgent (book : Book) (opened : ℕ) (scheduled : List ℕ) (from : ℕ) (told : List (List ℕ)) : Type 0 where
  pub shown : List UrgentLine
  pub urgent : AreUrgent book opened scheduled shown
  pub reply : told ≡ page_lines from shown
