-- A procedure at the desk, carried out on a case that was worked by hand: it is loaded and begun, and its steps are recorded, with
-- the last of which a request is released.
use Rattle.std.proofs.Common.{◌≡◌, ℕ, true, false, Option, Some, None, List, [], ◌∷◌, ◌++◌, drop, length, refl}
use Rattle.std.specs.Prelude.{codes}
use Rattle.std.specs.Fmt.{digits}
use Rattle.tc_types.specs.declared.history.places.Place.TheVariants.{Approved}
use Rattle.tc_types.specs.declared.history.causes.Cause.TheVariants as cause
use Rattle.tc_types.specs.declared.refusals.Refusal.TheVariants as refusal
use Rattle.tc_types.specs.declared.verdicts.Verdict.TheVariants.{Done, Skipped}
use Rattle.tc_types.specs.declared.acts.BookAct.TheVariants.{Begin}
use Rattle.tc_types.specs.declared.acts.Act.{Act}
use Rattle.tc_types.specs.declared.acts.Act.TheVariants as act
use Rattle.tc_types.specs.declared.link.frames.Frame.{Frame}
use Rattle.tc_types.specs.declared.link.reports.Report.{Report}
use Rattle.tc_proc.specs.declared.procedures.Step.{Step}
use Rattle.tc_proc.specs.Logs.{execution_at}
use Rattle.tc_fop.specs.declared.signals.FopState.TheVariants.{Active}
use Rattle.tc_fop.specs.declared.signals.Indication.TheVariants as signal
use Rattle.tc_fop.specs.Calls.{new_machine}
use Rattle.tc_world.specs.declared.events.LinkIndication.{LinkIndication}
use Rattle.tc_world.specs.declared.events.LinkIndication.TheVariants.{Fop}
use Rattle.tc_world.specs.InFlight.{InFlight}
use Rattle.tc_board.specs.Mirror.{no_mirror}
use Rattle.tc_book.specs.Book.{Book, empty_book, moved, want, with_entry}
use Rattle.tc_desk.specs.declared.firsts.FirstLine.TheVariants as first
use Rattle.tc_desk.specs.State.{State, new_desk, new_world}
use Rattle.tc_desk.specs.Acts.{acted, first_of, refusal_of}
use Rattle.tc_desk.specs.Effects.{heard_all}
use Rattle.tc_desk.specs.Loads.{Loading, Procedure, loaded_with, first_of_load}
use Rattle.tc_desk.specs.Replies.{Reply, act_reply, log_lines}
use Rattle.tc_desk.proofs.FlownCases.{ann, entry, idle}

-- request 1, which is approved
abbrev start : Book
start = moved ann (with_entry ann empty_book entry) (want 1 Approved cause.Approve)

-- p1: a look, and then a second person signs and request 1 is released
abbrev steps : List Step
steps =
    (let look : Step = record { text = codes "look"; is_countersigned = false; request = None } in look)
    ∷ (let send : Step = record { text = codes "send"; is_countersigned = true; request = Some 1 } in send)
    ∷ []

abbrev given : Loading
given = Procedure (codes "p1") steps

-- a desk with this book, over a link in S1 with nothing in flight
abbrev desk_of : Book → State (InFlight Frame) (InFlight Report)
desk_of book = record (new_desk (record { window = 20; channel = 3; ring = None }) idle idle) {
  book = book;
  world = record (new_world (record { window = 20; channel = 3; ring = None }) idle idle) { fop = record (new_machine 10 10 3) { state = Active } };
}

-- the book after an act of ann at which the link told these, and the reply
abbrev book_after : Book → Act → List LinkIndication → Book
book_after book asked all = heard_all ann no_mirror all (acted ann asked book)

abbrev replied : Book → Act → List LinkIndication → Reply
replied book asked all = act_reply (first_of (desk_of book) asked all) all (drop (length book.history) (book_after book asked all).history)

-- step 1 or 2 of the execution is recorded so
abbrev step : ℕ → Option (List ℕ) → Act
step number second = act.Step (record { execution = 1; step = number; verdict = Done; second = second })

abbrev begin : Act
begin = act.Book (Begin (codes "p1"))

abbrev loaded : Book
loaded = loaded_with ann given start

abbrev begun : Book
begun = book_after loaded begin []

abbrev looked : Book
looked = book_after begun (step 1 None) []

-- the request is sent at once
abbrev told : List LinkIndication
told = Fop (signal.Sent 1) ∷ []

abbrev ended : Book
ended = book_after looked (step 2 (Some (codes "bob"))) told

-- it is loaded and begun
pub begun-replied : act_reply (first.Book (first_of_load start given)) [] [] ++ replied loaded begin [] ≡ codes "ok procedure p1 2" ∷ codes "ok execution 1" ∷ []
unfolding digits
begun-replied = refl

-- Refused are the second step before the first, the second step with nobody or the actor as its second person, and one of no
-- execution; and nothing is recorded behind the last step.
pub steps-refused :
    refusal_of ann (desk_of begun) (step 2 None)
    ∷ refusal_of ann (desk_of begun) (step 1 None)
    ∷ refusal_of ann (desk_of looked) (step 2 None)
    ∷ refusal_of ann (desk_of looked) (step 2 (Some (codes "ann")))
    ∷ refusal_of ann (desk_of looked) (step 2 (Some (codes "bob")))
    ∷ refusal_of ann (desk_of loaded) (step 1 None)
    ∷ refusal_of ann (desk_of ended) (step 3 None)
    ∷ [] ≡
    Some refusal.StepOutOfOrder ∷ None ∷ Some refusal.Countersign ∷ Some refusal.Countersign ∷ None ∷ Some refusal.UnknownProcedure ∷ Some refusal.StepOutOfOrder ∷ []
steps-refused = refl

-- the tests of the release come behind those of the record: over a link that takes no request
pub release-refused :
    refusal_of ann (record (desk_of looked) { world = new_world (record { window = 20; channel = 3; ring = None }) idle idle }) (step 2 None)
    ∷ refusal_of ann (record (desk_of looked) { world = new_world (record { window = 20; channel = 3; ring = None }) idle idle }) (step 2 (Some (codes "bob")))
    ∷ refusal_of ann (record (desk_of looked) { world = new_world (record { window = 20; channel = 3; ring = None }) idle idle }) (act.Step (record { execution = 1; step = 2; verdict = Skipped; second = Some (codes "bob") }))
    ∷ [] ≡
    Some refusal.Countersign ∷ Some refusal.ServiceNotActive ∷ None ∷ []
release-refused = refl

-- the first step moves nothing, and with the second request 1 is released
pub steps-replied : replied begun (step 1 None) [] ++ replied looked (step 2 (Some (codes "bob"))) told ≡
    codes "ok" ∷ codes "ok" ∷ codes "move 3 0 ann 1 Approved Queued release" ∷ codes "move 4 0 ann 1 Queued Sent transmit" ∷ []
unfolding digits
steps-replied = refl

-- a step that is skipped releases nothing
pub skipped-replied : replied looked (act.Step (record { execution = 1; step = 2; verdict = Skipped; second = Some (codes "bob") })) [] ≡ codes "ok" ∷ []
unfolding digits
skipped-replied = refl

-- what is asked of the log
pub log-replied : log_lines looked.log (execution_at looked.log 1) ++ log_lines ended.log (execution_at ended.log 1) ≡
    codes "execution 1 p1 next 2"
    ∷ codes "step 1 0 ann done -"
    ∷ codes "execution 1 p1 next 0"
    ∷ codes "step 1 0 ann done -"
    ∷ codes "step 2 0 ann done bob"
    ∷ []
unfolding digits
log-replied = refl
