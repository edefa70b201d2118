-- What is asked of a desk's two files as they are copied, one after the other: this desk's own words.
use Rattle.std.specs.Prelude.{List, [], ◌∷◌}
use Rattle.tc_copy.specs.declared.marks.Marks.{Marks}

-- Their marks were read, and were these; the database file was copied to its end; the log was; it was waited for a while.
pub data Asked : Type 0 where
  looked : (marks : Marks) → Asked
  took_database : Asked
  took_log : Asked
  paused : Asked

-- a reading of both files behind a first look: the database file, then its log, and the marks again
abbrev pub reading_till : Marks → List Asked
reading_till behind = took_database ∷ took_log ∷ looked behind ∷ []
