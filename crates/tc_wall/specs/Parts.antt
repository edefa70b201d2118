-- What a page is made of: parts that are joined.
use Rattle.std.specs.Prelude.{◌≡◌, ℕ, Option, List, [], ◌∷◌, ◌++◌, codes}
use Rattle.std.specs.List.{flat_map}
use Rattle.std.specs.Fmt.{decimal}
use Rattle.tc_types.specs.declared.history.places.Place.{Place}
use Rattle.tc_types.specs.declared.history.causes.Cause.{Cause}
use Rattle.tc_types.specs.Lines.{place_name, from_word, cause_name}
use Rattle.tc_urgent.specs.declared.kinds.UrgentKind.{UrgentKind}
use Rattle.tc_wall.specs.Clock.{clock_text}
use Rattle.tc_wall.specs.Escapes.{escaped}
use Rattle.tc_wall.specs.Kinds.{kind_class, kind_letter}

-- A part of a page. A text that a person typed stands on it as `Person` alone.
pub data Part : Type 0 where
  -- a text of this crate
  Fixed : List ℕ → Part
  Number : ℕ → Part
  -- a moment, as a clock at UTC shows it
  Time : ℕ → Part
  PlaceWord : Place → Part
  -- the place that a request comes from, `-` for none
  FromWord : Option Place → Part
  CauseWord : Cause → Part
  -- a place, and how many stand there
  Count : Place → ℕ → Part
  -- the row of a request begins: its number, and where it stands
  Row : ℕ → Place → Part
  -- the row of a line of what is open begins: its kind, and the number of its request or execution
  Line : UrgentKind → ℕ → Part
  -- a text that a person typed
  Person : List ℕ → Part

-- the bytes of a part
abbrev pub shown : Part → List ℕ
shown (Fixed text) = text
shown (Number n) = decimal n
shown (Time moment) = clock_text moment
shown (PlaceWord place) = place_name place
shown (FromWord from) = from_word from
shown (CauseWord cause) = cause_name cause
shown (Count place n) = place_name place ++ 32 ∷ decimal n
shown (Row n place) = codes "<tr id=\"r" ++ decimal n ++ codes "\" class=\"" ++ place_name place ++ codes "\">"
shown (Line kind n) =
    codes "<tr id=\"" ++ kind_letter kind ++ decimal n ++ codes "\" class=\"" ++ kind_class kind ++ codes "\">"
shown (Person text) = escaped text

-- those of all parts, joined
abbrev pub shown_all : List Part → List ℕ
shown_all parts = flat_map shown parts

-- a text grows by these parts
pub record Adds (parts : List Part) (old new : List ℕ) : Type 0 where
  pub bytes : new ≡ old ++ shown_all parts

-- one fixed text
unfoldable pub fixed : List ℕ → List Part
fixed text = Fixed text ∷ []
