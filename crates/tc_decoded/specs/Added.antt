-- Lines that were added after others.
use Rattle.std.specs.Prelude.{◌≡◌, ℕ, List, ◌++◌, Option}
use Rattle.tc_decoded.specs.declared.lines.Line.{Line}
use Rattle.tc_decoded.specs.declared.places.Place.{Place}
use Rattle.tc_decoded.specs.declared.rows.Row.{Row}
use Rattle.tc_decoded.specs.declared.rows.Word.{Word}
use Rattle.tc_decoded.specs.Rows.{told}

-- Some lines were added, and this holds of them.
pub record Added (Holds : List Line → Type 0) (old new : List Line) : Type 0 where
  pub lines : List Line
  pub after : new ≡ old ++ lines
  pub holds : Holds lines

-- The lines of a layer that has another one inside: those of its first rows, those of the inside, and those of its last rows.
abbrev pub Encloses : Place → Option Word → List ℕ → List Row → (List Line → Type 0) → List Row → List Line → Type 0
Encloses place word octets first Inside last lines =
    (inner : List Line) × Inside inner × (lines ≡ told place word octets first ++ inner ++ told place word octets last)
