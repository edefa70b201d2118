-- What a copy of both files has, where they were read while the desk worked.
use Rattle.std.specs.Prelude.{◌≡◌, ◌⊎◌, ℕ, zero, suc, List, [], ◌∷◌, ◌++◌, Option, Some, None, MatchOption}
use Rattle.tc_copy.specs.declared.marks.Marks.{Marks}
use Rattle.tc_copy.specs.Asked.{Asked, looked, paused, reading_till, took_database, took_log}
use Rattle.tc_copy.specs.Files.{AllHappen, Event, Files, Frame, after_all, filled, recovered}

-- a page is copied into the file in one of these events
abbrev pub Fills : ℕ → List Event → Type 0
Fills page [] = ⊥
Fills page (filled some marks ∷ events) = (some ≡ page) ⊎ Fills page events
Fills page (other ∷ events) = Fills page events

-- The pages of the file were read while these events happened to it: each as it was, and one that was written meanwhile in whatever form.
abbrev pub AreRead : (ℕ → List ℕ) → Files → List Event → Type 0
AreRead pages files events = (page : ℕ) → ¬ Fills page events → pages page ≡ files.file page

-- the frame of a log at a place, from 0
abbrev pub frame_at : ℕ → List Frame → Option Frame
frame_at zero [] = None
frame_at zero (frame ∷ log) = Some frame
frame_at (suc place) [] = None
frame_at (suc place) (frame ∷ log) = frame_at place log

-- A log is read from its front, place after place, and these events happen before each place is read. An opening takes the frames that were read,
-- and none from the first place on at which no frame of the log stood: what stands there has not the stamp of the head, which each frame has to
-- have.
abbrev pub TakesLog : Files → ℕ → List (List Event) → List Frame → Type 0
TakesLog files place [] frames = (frames ≡ []) × (frame_at place files.log ≡ None)
TakesLog files place (events ∷ later) frames = MatchOption (frame_at place (after_all files events).log) (frames ≡ [])
    (λ frame. (rest : List Frame) × (frames ≡ frame ∷ rest) × TakesLog (after_all files events) (suc place) later rest)

-- all these events in order
abbrev pub joined : List (List Event) → List Event
joined [] = []
joined (events ∷ later) = events ++ joined later

-- what a copy has: the pages of its file, and the frames that an opening takes of its log
pub record Copy : Type 0 where
  pub pages : ℕ → List ℕ
  pub log : List Frame

-- At some moment, behind some of these events, an opening would have recovered from the desk's own files what it recovers from the copy: what a
-- crash would have left then.
abbrev pub HasMoment : Files → List Event → Copy → Type 0
HasMoment files events copy = (first : List Event) × (rest : List Event) × (events ≡ first ++ rest)
    × ((page : ℕ) → recovered copy.pages copy.log page ≡ recovered (after_all files first).file (after_all files first).log page)

-- Behind these events this is asked of the files. Whatever happens while it is, committed, copied into the file or emptied, in whatever order: in
-- the end the copy has some moment.
abbrev pub Keeps : Marks → Files → List Event → Copy → List Asked → Type 0
Keeps before files done copy [] = HasMoment files done copy
Keeps before files done copy (looked marks ∷ asked) = (events : List Event) → AllHappen before (after_all files done) events
    → (after_all files (done ++ events)).marks ≡ marks → Keeps before files (done ++ events) copy asked
Keeps before files done copy (took_database ∷ asked) = (events : List Event) (pages : ℕ → List ℕ) → AllHappen before (after_all files done) events
    → AreRead pages (after_all files done) events → Keeps before files (done ++ events) (record { pages = pages; log = copy.log }) asked
Keeps before files done copy (took_log ∷ asked) = (waits : List (List Event)) (frames : List Frame)
    → AllHappen before (after_all files done) (joined waits)
    → TakesLog (after_all files done) zero waits frames
    → Keeps before files (done ++ joined waits) (record { pages = copy.pages; log = frames }) asked
Keeps before files done copy (paused ∷ asked) = (events : List Event) → AllHappen before (after_all files done) events
    → Keeps before files (done ++ events) copy asked

-- A copy that was read behind these marks, and until those, is a moment of the desk.
abbrev pub CopiesMoment : Marks → Marks → Type 0
CopiesMoment before behind = (files : Files) (copy : Copy) → files.marks ≡ before → Keeps before files [] copy (reading_till behind)

-- Some desk has these marks before and behind, and a copy that was read of it between them recovers some page otherwise than the files do.
abbrev pub Mixes : Marks → Marks → Type 0
Mixes before behind = (files : Files) × (first : List Event) × (pages : ℕ → List ℕ) × (page : ℕ)
    × (files.marks ≡ before) × AllHappen before files first × ((after_all files first).marks ≡ behind) × AreRead pages files first
    × ¬ (recovered pages (after_all files first).log page ≡ recovered (after_all files first).file (after_all files first).log page)
