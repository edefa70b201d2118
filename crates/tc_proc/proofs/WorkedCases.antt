-- The definitions carried out on a procedure of two steps, of which the second wants a second person and releases request 1.
use Rattle.std.proofs.Common.{◌≡◌, ℕ, true, false, Option, Some, None, List, [], ◌∷◌, codes, refl}
use Rattle.tc_types.specs.declared.refusals.Refusal.TheVariants.{StepOutOfOrder, Countersign}
use Rattle.tc_proc.specs.declared.procedures.Step.{Step}
use Rattle.tc_proc.specs.declared.records.Record.{Record}
use Rattle.tc_types.specs.declared.verdicts.Verdict.{Verdict}
use Rattle.tc_types.specs.declared.verdicts.Verdict.TheVariants.{Done, Failed}
use Rattle.tc_proc.specs.Executions.{ExecutionState, begun, next_step, recorded, refusal_of}

abbrev pub two : List Step
two =
    record { text = codes "check power"; is_countersigned = false; request = None }
    ∷ record { text = codes "switch on"; is_countersigned = true; request = Some 1 } ∷ []

-- ---- an execution of it

abbrev pub ann : List ℕ
ann = codes "ann"

abbrev pub bob : List ℕ
bob = codes "bob"

abbrev first : Record
first = record { step = 1; verdict = Done; by = ann; second = None }

abbrev second : Verdict → Option (List ℕ) → Record
second verdict other = record { step = 2; verdict = verdict; by = ann; second = other }

pub not_the_first : refusal_of (begun two) (second Done (Some bob)) ≡ Some StepOutOfOrder
not_the_first = refl

pub one_done : refusal_of (begun two) first ≡ None
one_done = refl

abbrev after_one : ExecutionState
after_one = recorded (begun two) first

pub not_again : refusal_of after_one first ≡ Some StepOutOfOrder
not_again = refl

pub nobody_signs : refusal_of after_one (second Done None) ≡ Some Countersign
nobody_signs = refl

pub the_actor_signs : refusal_of after_one (second Failed (Some ann)) ≡ Some Countersign
the_actor_signs = refl

pub bob_signs : refusal_of after_one (second Done (Some bob)) ≡ None
bob_signs = refl

pub at_its_end : next_step (recorded after_one (second Done (Some bob))) ≡ None
at_its_end = refl

-- a step that fails ends it
pub failed : next_step (recorded (begun two) (record { step = 1; verdict = Failed; by = ann; second = None })) ≡ None
failed = refl
