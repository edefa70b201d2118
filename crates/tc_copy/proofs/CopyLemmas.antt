-- What is copied while a log is not emptied is what stands.
use Rattle.std.proofs.Common.{◌≡◌, ◌≢◌, ◌⊎◌, ℕ, zero, List, [], ◌∷◌, ◌++◌, Option, Some, None, append_assoc, inl, inr, subst, sym, refl, ap, ◌∙◌}
use Rattle.std.specs.Prelude.{IfSome, IsSome, ◌==◌, if◌then◌else◌, unwrap_or, slice_index}
use Rattle.std.specs.Option.{option_or}
use Rattle.std.proofs.lemmas.Bool.{cases_eq, eq-eqb, false≢true, ne_eqb}
use Rattle.tc_copy.specs.declared.marks.Marks.{Marks}
use Rattle.tc_copy.specs.declared.marks.LogMark.{LogMark}
use Rattle.tc_copy.specs.Marks.{IsOneState, IsSameFile, IsSameLog, head_of}
use Rattle.tc_copy.specs.Files.{AllHappen, Event, Files, Frame, after, after_all, committed, emptied, filled, newest, recovered}
use Rattle.tc_copy.specs.Copies.{AreRead, CopiesMoment, Fills, joined}
use Rattle.tc_copy.proofs.RunLemmas.{Empties, IsOther, empties_first, empties_last, nothing_happened, other_emptied}
use Rattle.tc_copy.proofs.LogLemmas.{after_both, moment_of_log}

-- ---- the log

some_or : {X : Type 0} (o p : Option X) → IsSome o → IsSome (option_or o p)
some_or None p some = absurd (false≢true some)
some_or (Some x) p some = refl

some_or_either : {X : Type 0} (o more p : Option X) → (IsSome o → IsSome more) → IsSome (option_or o p) → IsSome (option_or more p)
some_or_either (Some x) more p goes some = some_or more p (goes refl)
some_or_either None (Some x) p goes some = refl
some_or_either None None p goes some = some

-- what a log has of a page it has when frames come behind it
some_appended : (page : ℕ) (log frames : List Frame) → IsSome (newest page log) → IsSome (newest page (log ++ frames))
some_appended page [] frames some = absurd (false≢true some)
some_appended page (frame ∷ log) frames some =
    some_or_either (newest page log) (newest page (log ++ frames)) (if frame.page == page then Some frame.content else None)
    (some_appended page log frames) some

-- a page that is found is found alike, whatever the file has
same_found : {X : Type 0} (o : Option X) (x y : X) → IsSome o → unwrap_or o x ≡ unwrap_or o y
same_found None x y some = absurd (false≢true some)
same_found (Some z) x y some = refl

-- ---- the run

-- a page that the log has it has in the end, where it is not emptied
kept_log : (before : Marks) (files : Files) (events : List Event) (page : ℕ) → AllHappen before files events → ¬ Empties events
    → IsSome (newest page files.log) → IsSome (newest page (after_all files events).log)
kept_log before files [] page happen full some = some
kept_log before files (committed frames marks ∷ events) page happen full some =
    kept_log before (after files (committed frames marks)) events page happen.1 full (some_appended page files.log frames some)
kept_log before files (filled other marks ∷ events) page happen full some =
    kept_log before (after files (filled other marks)) events page happen.1 full some
kept_log before files (emptied marks ∷ events) page happen full some = absurd (full tt)

-- and so it has each page that was copied into the file
filled_logged : (before : Marks) (files : Files) (events : List Event) (page : ℕ) → AllHappen before files events → ¬ Empties events
    → Fills page events → IsSome (newest page (after_all files events).log)
filled_logged before files [] page happen full fills = absurd fills
filled_logged before files (committed frames marks ∷ events) page happen full fills =
    filled_logged before (after files (committed frames marks)) events page happen.1 full fills
filled_logged before files (filled other marks ∷ events) page happen full (inl same) =
    kept_log before (after files (filled other marks)) events page happen.1 full (subst (λ (n : ℕ). IsSome (newest n files.log)) same happen.0.0)
filled_logged before files (filled other marks ∷ events) page happen full (inr later) =
    filled_logged before (after files (filled other marks)) events page happen.1 full later
filled_logged before files (emptied marks ∷ events) page happen full fills = absurd (full tt)

-- a page that was not copied the file has as it was
file_kept : (files : Files) (events : List Event) (page : ℕ) → ¬ Fills page events → (after_all files events).file page ≡ files.file page
file_kept files [] page none = refl
file_kept files (committed frames marks ∷ events) page none = file_kept (after files (committed frames marks)) events page none
file_kept files (filled other marks ∷ events) page none =
    file_kept (after files (filled other marks)) events page (λ later. none (inr later))
    ∙ (rw (ne_eqb page other (λ same. none (inl (sym same)))) refl)
file_kept files (emptied marks ∷ events) page none = file_kept (after files (emptied marks)) events page none

fills_or_not : (page : ℕ) (events : List Event) → Fills page events ⊎ ¬ Fills page events
fills_or_not page [] = inr (λ fills. fills)
fills_or_not page (committed frames marks ∷ events) = fills_or_not page events
fills_or_not page (filled other marks ∷ events) = elim (cases_eq other page) [
  | inl same ↦ inl (inl same)
  | inr differs ↦ elim (fills_or_not page events) [
    | inl later ↦ inl (inr later)
    | inr none ↦ inr (λ fills. elim fills [
      | inl same ↦ differs same
      | inr later ↦ none later
    ])
  ]
]
fills_or_not page (emptied marks ∷ events) = fills_or_not page events

-- what was read while the log was not emptied is recovered as what stands
as_it_stands : (before : Marks) (files : Files) (events : List Event) (pages : ℕ → List ℕ) → AllHappen before files events → ¬ Empties events
    → AreRead pages files events
    → (page : ℕ) → recovered pages (after_all files events).log page ≡ recovered (after_all files events).file (after_all files events).log page
as_it_stands before files events pages happen full read page = elim (fills_or_not page events) [
  | inl fills ↦ same_found (newest page (after_all files events).log) (pages page) ((after_all files events).file page)
      (filled_logged before files events page happen full fills)
  | inr none ↦ ap (unwrap_or (newest page (after_all files events).log)) (read page none ∙ sym (file_kept files events page none))
]

-- ---- the marks

-- a log that stands under the head that it had
same_head : (one other : Option LogMark) → IsSameLog one other → (head : List ℕ) × (head_of one ≡ Some head) × (head_of other ≡ Some head)
same_head None other same = absurd same
same_head (Some one) None same = absurd same
same_head (Some one) (Some other) same =
    let stands : slice_index one.head 0 ≡ 55 = ap (λ (head : List ℕ). slice_index head 0) same.1 ∙ same.2 in
    (other.head, rw (eq-eqb (slice_index one.head 0) 55 stands) (ap Some same.1), rw (eq-eqb (slice_index other.head 0) 55 same.2) refl)

not_other : (before behind : Marks) → IsSameLog before.log behind.log → IsOther before behind → ⊥
not_other before behind same other =
    let found = same_head before.log behind.log same in
    (subst (λ (o : Option (List ℕ)). IfSome o (λ head. head_of before.log ≢ Some head)) found.2 other) found.1

-- two readings of one state are of a log that was not emptied between them
not_emptied : (before behind : Marks) (files : Files) (events : List Event)
    → (before ≡ behind) ⊎ (IsSameFile before.file behind.file × IsSameLog before.log behind.log) → AllHappen before files events
    → (after_all files events).marks ≡ behind → Empties events → ⊥
not_emptied before behind files events (inl same) happen ends empties = nothing_happened before files events happen (ends ∙ sym same) empties
not_emptied before behind files events (inr same) happen ends empties =
    not_other before behind same.1 (subst (λ (marks : Marks). IsOther before marks) ends (other_emptied before files events happen empties))

all_first : (before : Marks) (files : Files) (first rest : List Event) → AllHappen before files (first ++ rest) → AllHappen before files first
all_first before files [] rest happen = tt
all_first before files (event ∷ first) rest happen = (happen.0, all_first before (after files event) first rest happen.1)

fills_first : (page : ℕ) (first rest : List Event) → Fills page first → Fills page (first ++ rest)
fills_first page [] rest fills = absurd fills
fills_first page (committed frames marks ∷ first) rest fills = fills_first page first rest fills
fills_first page (filled other marks ∷ first) rest (inl same) = inl same
fills_first page (filled other marks ∷ first) rest (inr later) = inr (fills_first page first rest later)
fills_first page (emptied marks ∷ first) rest fills = fills_first page first rest fills

all_both : (before : Marks) (files : Files) (first rest : List Event) → AllHappen before files first → AllHappen before (after_all files first) rest
    → AllHappen before files (first ++ rest)
all_both before files [] rest happen later = later
all_both before files (event ∷ first) rest happen later = (happen.0, all_both before (after files event) first rest happen.1 later)

-- the pages are those of the file, the log is read while it grows, and the second marks are of one state with the first
pub copies : (before behind : Marks) → IsOneState before behind → CopiesMoment before behind
copies before behind one files copy begins events pages happen read waits frames grow takes others last ends =
    let during = joined waits in
    let all : AllHappen before files ((events ++ during) ++ others) =
    all_both before files (events ++ during) others (all_both before files events during happen grow) last in
    let full : ¬ Empties ((events ++ during) ++ others) = not_emptied before behind files ((events ++ during) ++ others) one.1 all ends in
    let moment = moment_of_log (after_all files events) zero waits frames
    (λ empties. full (empties_first (events ++ during) others (empties_last events during empties))) takes in
    let first = moment.0 in
    let rest = moment.1 in
    let parts : during ≡ first ++ rest = moment.2 in
    let grown : AllHappen before (after_all files events) first =
    all_first before (after_all files events) first rest (subst (λ (l : List Event). AllHappen before (after_all files events) l) parts grow) in
    let till : AllHappen before files (events ++ first) = all_both before files events first happen grown in
    let none : ¬ Empties (events ++ first) = λ empties. full (empties_first (events ++ during) others
    (subst (λ (l : List Event). Empties l) (append_assoc events first rest ∙ ap (λ (l : List Event). events ++ l) (sym parts)) (empties_first (events ++ first) rest empties))) in
    let log : (after_all files (events ++ first)).log ≡ frames = ap (λ (f : Files). f.log) (after_both files events first) ∙ moment.3 in
    let stood = as_it_stands before files (events ++ first) pages till none (λ page not. read page (λ fills. not (fills_first page events first fills))) in (
      events ++ first,
      rest ++ others,
      ap (λ (l : List Event). (events ++ l) ++ others) parts ∙ ap (λ (l : List Event). l ++ others) (sym (append_assoc events first rest)) ∙ append_assoc (events ++ first) rest others,
      λ page. subst (λ (l : List Frame). recovered pages l page ≡ recovered (after_all files (events ++ first)).file (after_all files (events ++ first)).log page) log (stood page),
    )
