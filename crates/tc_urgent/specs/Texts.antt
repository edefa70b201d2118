-- How a line is printed.
use Rattle.std.specs.Prelude.{ℕ, Option, Some, None, List, [], ◌∷◌, codes}
use Rattle.std.specs.Fmt.{decimal}
use Rattle.tc_types.specs.Lines.{identity_word, spaced}
use Rattle.tc_urgent.specs.declared.kinds.UrgentKind.{UrgentKind}
use Rattle.tc_urgent.specs.declared.kinds.UrgentKind.TheVariants.{InDoubt, FailedSince, Approval, StepDue, Flying, LostReport, Free, ActivityOf, LockedForever, Locked}
use Rattle.tc_urgent.specs.declared.lines.OnBoard.{OnBoard}
use Rattle.tc_urgent.specs.declared.lines.UrgentLine.{UrgentLine}

abbrev pub kind_name : UrgentKind → List ℕ
kind_name InDoubt = codes "in doubt"
kind_name FailedSince = codes "failed"
kind_name Approval = codes "waits for approval"
kind_name StepDue = codes "step due"
kind_name Flying = codes "flying"
kind_name LostReport = codes "report lost"
kind_name Free = codes "free"
kind_name (ActivityOf insert) = codes "activity"
kind_name LockedForever = codes "locked for ever"
kind_name Locked = codes "locked"

-- an activity names its insert: activity of N
abbrev pub kind_phrase : UrgentKind → List ℕ
kind_phrase (ActivityOf insert) = spaced (codes "activity" ∷ codes "of" ∷ decimal insert ∷ [])
kind_phrase other = kind_name other

-- request N APID/COUNT tc SERVICE SUBTYPE, or execution N
abbrev pub subject_phrase : ℕ → Option OnBoard → List ℕ
subject_phrase n (Some b) = spaced (codes "request" ∷ decimal n ∷ identity_word b.identity ∷ codes "tc" ∷ decimal b.service ∷ decimal b.subtype ∷ [])
subject_phrase n None = spaced (codes "execution" ∷ decimal n ∷ [])

-- SUBJECT KIND since MOVE waited SECONDS same K
abbrev pub urgent_text : UrgentLine → List ℕ
urgent_text line =
    spaced (subject_phrase line.number line.on_board ∷ kind_phrase line.kind ∷ codes "since" ∷ decimal line.since ∷ codes "waited" ∷ decimal line.waited ∷ codes "same" ∷ decimal line.same ∷ [])
