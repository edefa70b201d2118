-- A log that is read from its front while it grows is the log of one moment: each frame's stamp is compared.
use Rattle.std.proofs.Common.{◌≡◌, ℕ, zero, suc, List, [], ◌∷◌, ◌++◌, Option, Some, None, append_assoc, append-nil, drop, sym, refl, ap, subst, ◌∙◌}
use Rattle.std.specs.Prelude.{MatchOption}
use Rattle.tc_copy.specs.Files.{Event, Files, Frame, after, after_all, committed, emptied, filled}
use Rattle.tc_copy.specs.Copies.{TakesLog, frame_at, joined}
use Rattle.tc_copy.proofs.RunLemmas.{Empties, empties_first, empties_last}

-- ---- the frame at a place

none_at : (place : ℕ) (log : List Frame) → frame_at place log ≡ None → drop place log ≡ []
none_at zero [] none = refl
none_at zero (frame ∷ log) none = cc
none_at (suc place) [] none = refl
none_at (suc place) (frame ∷ log) none = none_at place log none

some_at : (place : ℕ) (log : List Frame) (frame : Frame) → frame_at place log ≡ Some frame → drop place log ≡ frame ∷ drop (suc place) log
some_at zero [] frame some = cc
some_at zero (other ∷ log) frame some = ap (λ (o : Option Frame). elim o [ None ↦ frame ∷ log | Some f ↦ f ∷ log ]) some
some_at (suc place) [] frame some = cc
some_at (suc place) (other ∷ log) frame some = some_at place log frame some

grows_at : (place : ℕ) (log more : List Frame) (frame : Frame) → frame_at place log ≡ Some frame → frame_at place (log ++ more) ≡ Some frame
grows_at zero [] more frame some = cc
grows_at zero (other ∷ log) more frame some = some
grows_at (suc place) [] more frame some = cc
grows_at (suc place) (other ∷ log) more frame some = grows_at place log more frame some

-- ---- the log

pub after_both : (files : Files) (first rest : List Event) → after_all files (first ++ rest) ≡ after_all (after_all files first) rest
after_both files [] rest = refl
after_both files (event ∷ first) rest = after_both (after files event) first rest

-- a log that is not emptied grows
grows : (files : Files) (events : List Event) → ¬ Empties events → (more : List Frame) × ((after_all files events).log ≡ files.log ++ more)
grows files [] full = ([], sym (append-nil files.log))
grows files (committed frames marks ∷ events) full =
    let more = grows (after files (committed frames marks)) events full in
    (frames ++ more.0, more.1 ∙ append_assoc files.log frames more.0)
grows files (filled page marks ∷ events) full = grows (after files (filled page marks)) events full
grows files (emptied marks ∷ events) full = absurd (full tt)

-- ---- the reading

-- what was taken from a place on is what the log has from there on at some moment, behind some of these events
abbrev IsLogOf : Files → List Event → ℕ → List Frame → Type 0
IsLogOf files events place frames = (first : List Event) × (rest : List Event) × (events ≡ first ++ rest) × (drop place (after_all files first).log ≡ frames)

moment_step : (files : Files) (place : ℕ) (events others : List Event) (later : List (List Event)) (frames : List Frame) (found : Option Frame)
    → frame_at place (after_all files events).log ≡ found → ¬ Empties others
    → MatchOption found (frames ≡ []) (λ frame. (rest : List Frame) × (frames ≡ frame ∷ rest) × TakesLog (after_all files events) (suc place) later rest)
    → ((rest : List Frame) → TakesLog (after_all files events) (suc place) later rest → IsLogOf (after_all files events) others (suc place) rest)
    → IsLogOf files (events ++ others) place frames
moment_step files place events others later frames None same full none goes =
    (events, others, refl, none_at place (after_all files events).log same ∙ sym none)
moment_step files place events others later frames (Some frame) same full (rest, is, takes) goes =
    let moment = goes rest takes in
    let at = after_all files events in
    let more = grows at moment.0 (λ empties. full (subst (λ (l : List Event). Empties l) (sym moment.2) (empties_first moment.0 moment.1 empties))) in
    let log = (after_all at moment.0).log in
    let stands : frame_at place log ≡ Some frame =
    subst (λ (l : List Frame). frame_at place l ≡ Some frame) (sym more.1) (grows_at place at.log more.0 frame same) in (
      events ++ moment.0,
      moment.1,
      ap (λ (l : List Event). events ++ l) moment.2 ∙ sym (append_assoc events moment.0 moment.1),
      ap (λ (f : Files). drop place f.log) (after_both files events moment.0) ∙ some_at place log frame stands ∙ ap (λ (l : List Frame). frame ∷ l) moment.3 ∙ sym is,
    )

pub moment_of_log : (files : Files) (place : ℕ) (waits : List (List Event)) (frames : List Frame) → ¬ Empties (joined waits) → TakesLog files place waits frames
    → (first : List Event) × (rest : List Event) × (joined waits ≡ first ++ rest) × (drop place (after_all files first).log ≡ frames)
moment_of_log files place [] frames full takes = ([], [], refl, none_at place files.log takes.1 ∙ sym takes.0)
moment_of_log files place (events ∷ later) frames full takes =
    moment_step files place events (joined later) later frames (frame_at place (after_all files events).log) refl
    (λ empties. full (empties_last events (joined later) empties)) takes
    (λ rest more. moment_of_log (after_all files events) (suc place) later rest (λ empties. full (empties_last events (joined later) empties)) more)
