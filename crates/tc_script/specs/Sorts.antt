-- What a command is, as far as its target and its time hang on it (ECSS-E-ST-70-41C, service 11, for the subtypes).
use Rattle.std.specs.Prelude.{ℕ, Bool, true, false, if◌then◌else◌, List, codes}
use Rattle.tc_script.specs.declared.sorts.Sort.{Sort}
use Rattle.tc_script.specs.declared.sorts.Sort.TheVariants.{Insert, Delete, Shift, ShiftAll, Schedule, Other}
use Rattle.tc_script.specs.Verbs.{same}

-- the word of the on-board schedule's service
abbrev pub is_scheduling : List ℕ → Bool
is_scheduling service = same service (codes "11")

abbrev pub scheduled : List ℕ → Sort
scheduled subtype =
    if same subtype (codes "4") then Insert
    else if same subtype (codes "5") then Delete
    else if same subtype (codes "7") then Shift
    else if same subtype (codes "15") then ShiftAll
    else Schedule

-- what a command with this subtype is, of service 11 or of another
abbrev pub sort_of : Bool → List ℕ → Sort
sort_of true subtype = scheduled subtype
sort_of false subtype = Other

abbrev pub is_schedule_sort : Sort → Bool
is_schedule_sort Other = false
is_schedule_sort sort = true
