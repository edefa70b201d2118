-- How a call that writes ends.
use Rattle.std.proofs.Common.{◌≡◌, ◌∙◌, Result, Ok, Err, ap, sym}
use Rattle.std.specs.Prelude.{◌≢◌, IsErrAnd}
use Rattle.tc_types.specs.declared.counted.Counts.{Counts}
use Rattle.tc_types.specs.Counts.{no_counts}
use Rattle.tc_closed.specs.declared.scripts.ScriptFault.{ScriptFault}
use Rattle.tc_closed.specs.declared.scripts.ScriptFault.TheVariants.{Memory, Output, Script}
use Rattle.tc_closed.specs.Scripts.{Ends, written_counts}

-- it ends well
pub ends_well : {X : Type 0} (Done : X → Type 0) (Stopped : ScriptFault → Type 0) (old new : Counts) (answer : X) → Done answer → (old ≡ no_counts → new ≡ no_counts)
    → Ends {X = X} Done Stopped old new (Ok answer)
ends_well Done Stopped old new answer done counted = record { done = done; stopped = tt; fault = tt; counted = counted }

-- it ends with a fault
pub ends_by : {X : Type 0} (Done : X → Type 0) (Stopped : ScriptFault → Type 0) (old new : Counts) (fault : ScriptFault) → Stopped fault → fault ≢ Script
    → (old ≡ no_counts → new ≡ written_counts {X = X} (Err fault)) → Ends {X = X} Done Stopped old new (Err fault)
ends_by Done Stopped old new fault stopped other counted = record { done = tt; stopped = stopped; fault = other; counted = counted }

-- it ends as a call behind it does
pub ends_so : {X : Type 0} (Done Then : X → Type 0) (Stopped Left : ScriptFault → Type 0) (old mid new : Counts) (result : Result X ScriptFault) → Ends {X = X} Done Stopped mid new result
    → (old ≡ no_counts → mid ≡ no_counts) → ((answer : X) → Done answer → Then answer) → ((fault : ScriptFault) → Stopped fault → Left fault) → Ends {X = X} Then Left old new result
ends_so Done Then Stopped Left old mid new (Ok answer) ends first done stopped =
    record { done = done answer ends.done; stopped = tt; fault = tt; counted = λ none. ends.counted (first none) }
ends_so Done Then Stopped Left old mid new (Err fault) ends first done stopped =
    record { done = tt; stopped = stopped fault ends.stopped; fault = ends.fault; counted = λ none. ends.counted (first none) }

-- ---- faults

pub memory_is_other : Memory ≢ Script
memory_is_other e = cc

pub output_is_other : (fault : ScriptFault) → fault ≡ Output → fault ≢ Script
output_is_other fault is e = let no : Output ≡ Script = sym is ∙ e in cc

-- what `?` gave out is the fault that it took
pub is_fault : {X : Type 0} (result : Result X ScriptFault) (fault : ScriptFault) → IsErrAnd result (λ out. out ≡ fault) → result ≡ Err fault
is_fault (Ok x) fault h = absurd h
is_fault (Err out) fault h = ap Err h
