-- A desk as it is opened over tables that were left (this desk's own).
use Rattle.std.specs.Prelude.{◌≡◌, ◌⊎◌, ℕ, true, IfErr, OnOk, Result, List, drop, length}
use Rattle.tc_types.specs.declared.history.moves.Move.{Move}
use Rattle.tc_types.specs.declared.refusals.Refusal.{Refusal}
use Rattle.tc_types.specs.declared.refusals.Refusal.TheVariants.{BadDirective, Memory, Store}
use Rattle.tc_types.specs.declared.tables.rows.Row.{Row}
use Rattle.tc_types.specs.Tables.{Image, applied}
use Rattle.tc_book.specs.Book.{Book}
use Rattle.tc_book.specs.Good.{IsGoodBook}
use Rattle.tc_book.specs.Opening.{opened_book}
use Rattle.tc_book.specs.Sound.{IsSound, book_of}
use Rattle.tc_book.specs.Tables.{image_of}
use Rattle.tc_world.specs.declared.configs.Config.{Config}
use Rattle.tc_world.specs.Config.{IsConfig}
use Rattle.tc_desk.specs.State.{State, DeskState, new_desk}

-- the book is what the opening makes of the one that was left; the link, the spacecraft and the mirror are new
abbrev pub reopened_parts : {U D : Type 0} → Config → ℕ → Image → U → D → State U D
reopened_parts config moment image up down = record (new_desk config up down) { book = opened_book moment (book_of image) }

-- just opened: all rows stood before, those of the opening among them
abbrev pub reopened_desk : {U D : Type 0} → Config → ℕ → Image → U → D → DeskState U D
reopened_desk config moment image up down = record {
  parts = reopened_parts config moment image up down;
  opened = length (opened_book moment (book_of image)).history;
  whole = true;
}

-- A desk is opened of what may be chosen alone, and over tables alone that a desk could have written. Else the answer is `BadDirective`,
-- whatever the tables are, or else `Store`, or `Memory` where that is refused.
pub record OpensOf {X : Type 0} (chosen : Config) (image : Image) (result : Result X Refusal) : Type 0 where
  pub config : OnOk result (IsConfig chosen)
  pub sound : OnOk result (IsSound image)
  pub refused : IfErr result (λ refusal. ((refusal ≡ BadDirective) × (¬ IsConfig chosen)) ⊎ ((refusal ≡ Memory) × IsConfig chosen) ⊎ ((refusal ≡ Store) × IsConfig chosen × (¬ IsSound image)))

-- what an opening makes of the tables that were left: a good book, the rows of its history that came, and the batch that writes them
pub record MakesOpening (image : Image) (book : Book) (rows : List Move) (writes : List Row) : Type 0 where
  pub good : IsGoodBook book
  pub moves : rows ≡ drop (length image.moves) book.history
  pub batch : applied writes image ≡ image_of book
