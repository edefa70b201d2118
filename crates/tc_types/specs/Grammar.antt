-- The spelling of what acts are made of: an entry, and its parts. Each has one spelling: the words of it, parted by one space each.
use Rattle.std.specs.Prelude.{◌≡◌, ℕ, Bool, true, false, if◌then◌else◌, Option, Some, IfSome, List, [], ◌∷◌, ◌++◌, map, codes}
use Rattle.std.specs.List.{join_with_byte, AllByRecursion}
use Rattle.std.specs.Fmt.{decimal, signed_decimal}
use Rattle.tc_types.specs.declared.requests.Ack.{Ack}
use Rattle.tc_types.specs.declared.requests.Outcome.{Outcome}
use Rattle.tc_types.specs.declared.requests.Outcome.TheVariants as outcome
use Rattle.tc_types.specs.declared.requests.Command.{Command}
use Rattle.tc_types.specs.declared.requests.Command.TheVariants as command
use Rattle.tc_types.specs.declared.requests.Form.{Form}
use Rattle.tc_types.specs.declared.rides.Ride.{Ride}
use Rattle.tc_types.specs.Inserts.{IsInsert}
pub use Rattle.tc_types.specs.Numbers.{IsNumber}
use Rattle.tc_types.specs.Numbers.{IsMoment, IsOffset, IsApid, IsSteps, IsFailureCode, IsService, IsSubtype}
use Rattle.tc_types.specs.Schedule.{KeepsScheduleRule}

-- What is read has this text, and what has this text is read.
pub record Reads {X T : Type 0} (text : X → T) (In : X → Type 0) (given : T) (read : Option X) : Type 0 where
  pub found : IfSome read (λ x. (given ≡ text x) × In x)
  pub only : (x : X) → In x → given ≡ text x → read ≡ Some x

-- a flag that is there or not
abbrev pub flag : Bool → ℕ → ℕ
flag there letter = if there then letter else 45

-- four characters: a, s, p, c, or - where that report is not asked for
abbrev pub ack_word : Ack → List ℕ
ack_word ack = flag ack.acceptance 97 ∷ flag ack.start 115 ∷ flag ack.progress 112 ∷ flag ack.completion 99 ∷ []

-- yes or no
abbrev pub yes_no : Bool → List ℕ
yes_no true = codes "yes"
yes_no false = codes "no"

-- the words of an outcome, parted by slashes
abbrev pub outcome_words : Outcome → List (List ℕ)
outcome_words outcome.Completes = codes "ok" ∷ []
outcome_words (outcome.CompletesInSteps steps) = codes "ok" ∷ decimal steps ∷ []
outcome_words (outcome.Refuses code) = codes "refuse" ∷ decimal code ∷ []
outcome_words (outcome.StartFails code) = codes "nostart" ∷ decimal code ∷ []
outcome_words (outcome.Halts steps code) = codes "halt" ∷ decimal steps ∷ decimal code ∷ []
outcome_words (outcome.Fails code) = codes "fail" ∷ decimal code ∷ []

abbrev pub outcome_word : Outcome → List ℕ
outcome_word o = join_with_byte 47 (outcome_words o)

abbrev pub IsOutcome : Outcome → Type 0
IsOutcome outcome.Completes = Unit {0}
IsOutcome (outcome.CompletesInSteps steps) = IsSteps steps
IsOutcome (outcome.Refuses code) = IsFailureCode code
IsOutcome (outcome.StartFails code) = IsFailureCode code
IsOutcome (outcome.Halts steps code) = IsSteps steps × IsFailureCode code
IsOutcome (outcome.Fails code) = IsFailureCode code

-- what a list has, each as this text, parted by semicolons
abbrev pub listed : {X : Type 0} → (X → List ℕ) → List X → List ℕ
listed text items = join_with_byte 59 (map text items)

abbrev pub target_word : Ride → List ℕ
target_word r = decimal r.target

abbrev pub time_word : Ride → List ℕ
time_word r = decimal r.time

-- SERVICE SUBTYPE TARGET TIME, of an insert a list of targets and one of times, with - for a target or time that the subtype does not take (ECSS-E-ST-70-41C,
-- service 11, for the subtypes)
abbrev pub command_words : Command → List (List ℕ)
command_words (command.Plain service subtype) = decimal service ∷ decimal subtype ∷ codes "-" ∷ codes "-" ∷ []
command_words command.EnableSchedule = decimal 11 ∷ decimal 1 ∷ codes "-" ∷ codes "-" ∷ []
command_words command.DisableSchedule = decimal 11 ∷ decimal 2 ∷ codes "-" ∷ codes "-" ∷ []
command_words command.ResetSchedule = decimal 11 ∷ decimal 3 ∷ codes "-" ∷ codes "-" ∷ []
command_words (command.InsertActivities rides) = decimal 11 ∷ decimal 4 ∷ listed target_word rides ∷ listed time_word rides ∷ []
command_words (command.DeleteActivity target) = decimal 11 ∷ decimal 5 ∷ decimal target ∷ codes "-" ∷ []
command_words (command.ShiftActivity target offset) = decimal 11 ∷ decimal 7 ∷ decimal target ∷ signed_decimal offset ∷ []
command_words (command.ShiftAll offset) = decimal 11 ∷ decimal 15 ∷ codes "-" ∷ signed_decimal offset ∷ []
command_words command.SummarizeAll = decimal 11 ∷ decimal 17 ∷ codes "-" ∷ codes "-" ∷ []

-- an activity that an insert names
abbrev pub IsRide : Ride → Type 0
IsRide r = IsNumber r.target × IsMoment r.time

-- 1 to 8 of them
abbrev pub AreRides : List Ride → Type 0
AreRides rides = IsInsert rides × AllByRecursion IsRide rides

abbrev pub IsCommand : Command → Type 0
IsCommand (command.Plain service subtype) = IsService service × IsSubtype subtype
IsCommand command.EnableSchedule = Unit {0}
IsCommand command.DisableSchedule = Unit {0}
IsCommand command.ResetSchedule = Unit {0}
IsCommand (command.InsertActivities rides) = AreRides rides
IsCommand (command.DeleteActivity target) = IsNumber target
IsCommand (command.ShiftActivity target offset) = IsNumber target × IsOffset offset
IsCommand (command.ShiftAll offset) = IsOffset offset
IsCommand command.SummarizeAll = Unit {0}

-- APID ACK CRIT SERVICE SUBTYPE TARGET TIME OUTCOME
abbrev pub entry_words : Form → List (List ℕ)
entry_words entry =
    (decimal entry.apid ∷ ack_word entry.ack ∷ yes_no entry.critical ∷ []) ++ command_words entry.command ++ outcome_word entry.outcome ∷ []

pub record IsEntry (entry : Form) : Type 0 where
  pub apid : IsApid entry.apid
  pub command : IsCommand entry.command
  pub outcome : IsOutcome entry.outcome
  pub schedule : KeepsScheduleRule entry
