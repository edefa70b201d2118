-- No line of these has an LF in it.
use Rattle.std.proofs.Common.{◌≡◌, ℕ, ◌<◌, ◌^◌, Bool, true, false, if◌then◌else◌, IsTrue, None, Some, List, [], ◌∷◌, ◌++◌, refl, arith}
use Rattle.std.specs.Prelude.{codes}
use Rattle.std.specs.Fmt.{decimal}
use Rattle.tc_types.specs.Lines.{identity_word, spaced}
use Rattle.tc_types.specs.Words.{is_one_line}
use Rattle.tc_types.proofs.OneLine.{both, identity_one, number_one, spaced_one}
use Rattle.tc_types.proofs.WordLaws.{lacks}
use Rattle.tc_urgent.specs.declared.kinds.UrgentKind.{UrgentKind}
use Rattle.tc_urgent.specs.declared.kinds.UrgentKind.TheVariants.{InDoubt, FailedSince, Approval, StepDue, Flying, LostReport, Free, ActivityOf, LockedForever, Locked}
use Rattle.tc_urgent.specs.declared.lines.OnBoard.{OnBoard}
use Rattle.tc_urgent.specs.declared.lines.UrgentLine.{UrgentLine}
use Rattle.tc_urgent.specs.Kinds.{insert_in}
use Rattle.tc_urgent.specs.Pages.{head_line}
use Rattle.tc_urgent.specs.Texts.{kind_phrase, subject_phrase, urgent_text}

pub kind_one : (kind : UrgentKind) → insert_in kind < 2 ^ 32 → IsTrue (is_one_line (kind_phrase kind))
kind_one InDoubt small = refl
kind_one FailedSince small = refl
kind_one Approval small = refl
kind_one StepDue small = refl
kind_one Flying small = refl
kind_one LostReport small = refl
kind_one Free small = refl
kind_one (ActivityOf insert) small = spaced_one (codes "activity" ∷ codes "of" ∷ decimal insert ∷ []) (rw (number_one insert (omega arith)) refl)
kind_one LockedForever small = refl
kind_one Locked small = refl

pub request_one : (n : ℕ) (b : OnBoard) → n < 2 ^ 32 → IsTrue (is_one_line (identity_word b.identity)) → b.service < 2 ^ 8 → b.subtype < 2 ^ 8 → IsTrue (is_one_line (subject_phrase n (Some b)))
request_one n b small named service subtype =
    spaced_one (codes "request" ∷ decimal n ∷ identity_word b.identity ∷ codes "tc" ∷ decimal b.service ∷ decimal b.subtype ∷ [])
    (rw (number_one n (omega arith), named, number_one b.service (omega arith), number_one b.subtype (omega arith)) refl)

pub execution_one : (n : ℕ) → n < 2 ^ 32 → IsTrue (is_one_line (subject_phrase n None))
execution_one n small = spaced_one (codes "execution" ∷ decimal n ∷ []) (rw (number_one n (omega arith)) refl)

pub urgent_one : (line : UrgentLine) → IsTrue (is_one_line (subject_phrase line.number line.on_board)) → IsTrue (is_one_line (kind_phrase line.kind)) → line.since < 2 ^ 32 → line.waited < 2 ^ 32 → line.same < 2 ^ 32
    → IsTrue (is_one_line (urgent_text line))
urgent_one line subject kind since waited same =
    spaced_one (subject_phrase line.number line.on_board ∷ kind_phrase line.kind ∷ codes "since" ∷ decimal line.since ∷ codes "waited" ∷ decimal line.waited ∷ codes "same" ∷ decimal line.same ∷ [])
    (rw (subject, kind, number_one line.since (omega arith), number_one line.waited (omega arith), number_one line.same (omega arith)) refl)

-- ` more`, or nothing
end_one : (more : Bool) → lacks 10 (if more then codes " more" else []) ≡ true
end_one true = refl
end_one false = refl

pub head_one : (shown : ℕ) (more : Bool) → shown < 2 ^ 64 → IsTrue (is_one_line (head_line shown more))
head_one shown more small =
    both (codes "urgent " ++ decimal shown) (if more then codes " more" else []) (both (codes "urgent ") (decimal shown) refl (number_one shown small)) (end_one more)
