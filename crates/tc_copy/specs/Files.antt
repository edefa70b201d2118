-- A desk's two files, and what happens to them while it works (SQLite's format of a write-ahead log): this desk's own words.
use Rattle.std.specs.Prelude.{◌≡◌, ◌≢◌, ℕ, ◌==◌, if◌then◌else◌, ⊤, List, [], ◌∷◌, ◌++◌, Option, Some, None, IfSome, IsSome, unwrap_or}
use Rattle.std.specs.Option.{option_or}
use Rattle.tc_copy.specs.declared.marks.Marks.{Marks}
use Rattle.tc_copy.specs.Marks.{head_of}

-- a page as a log has it
pub record Frame : Type 0 where
  pub page : ℕ
  pub content : List ℕ

-- What the file has of each page, the frames that were committed since its log was begun, in order, and the marks that are read of both.
pub record Files : Type 0 where
  pub file : ℕ → List ℕ
  pub log : List Frame
  pub marks : Marks

-- the newest form of a page in a log
abbrev pub newest : ℕ → List Frame → Option (List ℕ)
newest page [] = None
newest page (frame ∷ later) = option_or (newest page later) (if frame.page == page then Some frame.content else None)

-- what an opening recovers of a page: its newest form in the log, or what the file has
abbrev pub recovered : (ℕ → List ℕ) → List Frame → ℕ → List ℕ
recovered file log page = unwrap_or (newest page log) (file page)

-- What happens, each with the marks behind it: frames are committed, a page is copied from the log into the file, the log is emptied.
pub data Event : Type 0 where
  committed : (frames : List Frame) (marks : Marks) → Event
  filled : (page : ℕ) (marks : Marks) → Event
  emptied : (marks : Marks) → Event

-- the files behind it
abbrev pub after : Files → Event → Files
after files (committed frames marks) = record { file = files.file; log = files.log ++ frames; marks = marks }
after files (filled page marks) = record {
  file = λ n. if n == page then recovered files.file files.log n else files.file n;
  log = files.log;
  marks = marks;
}
after files (emptied marks) = record { file = files.file; log = []; marks = marks }

abbrev pub after_all : Files → List Event → Files
after_all files [] = files
after_all files (event ∷ events) = after_all (after files event) events

-- The head of a log stays while it stands, and one that is emptied stands under another than it had when the marks were read, or under none yet. A page is
-- copied only from the log. And what is written has another time.
abbrev pub Happens : Marks → Files → Event → Type 0
Happens before files (committed frames marks) = (head_of marks.log ≡ head_of files.marks.log) × (marks ≢ before)
Happens before files (filled page marks) = IsSome (newest page files.log) × (head_of marks.log ≡ head_of files.marks.log) × (marks ≢ before)
Happens before files (emptied marks) = IfSome (head_of marks.log) (λ head. head_of before.log ≢ Some head) × (marks ≢ before)

-- these events happen to the files one after the other, since these marks were read
abbrev pub AllHappen : Marks → Files → List Event → Type 0
AllHappen before files [] = ⊤
AllHappen before files (event ∷ events) = Happens before files event × AllHappen before (after files event) events
