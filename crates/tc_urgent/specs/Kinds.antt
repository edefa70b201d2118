-- The kinds of urgent lines, by rank.
use Rattle.std.specs.Prelude.{ℕ, ◌==◌, ◌&&◌, Bool, true, false}
use Rattle.tc_urgent.specs.declared.kinds.UrgentKind.{UrgentKind}
use Rattle.tc_urgent.specs.declared.kinds.UrgentKind.TheVariants.{InDoubt, FailedSince, Approval, StepDue, Flying, LostReport, Free, ActivityOf, LockedForever, Locked}

-- the rank of a kind: 1 is the most urgent
abbrev pub urgency : UrgentKind → ℕ
urgency InDoubt = 1
urgency FailedSince = 2
urgency Approval = 3
urgency StepDue = 4
urgency Flying = 5
urgency LostReport = 6
urgency Free = 7
urgency (ActivityOf insert) = 8
urgency LockedForever = 9
urgency Locked = 10

-- the insert that takes an activity along; 0 for any other kind
abbrev pub insert_in : UrgentKind → ℕ
insert_in (ActivityOf insert) = insert
insert_in other = 0

-- A person needs what is in doubt, failed, due or lost by name. The others are folded where they came with one stack.
abbrev pub is_folded : UrgentKind → Bool
is_folded Approval = true
is_folded Flying = true
is_folded Free = true
is_folded (ActivityOf insert) = true
is_folded LockedForever = true
is_folded Locked = true
is_folded other = false

-- Without a stack, those that wait for an act on each of them are not folded: an approval, or a release.
abbrev pub is_folded_alone : UrgentKind → Bool
is_folded_alone Flying = true
is_folded_alone (ActivityOf insert) = true
is_folded_alone LockedForever = true
is_folded_alone Locked = true
is_folded_alone other = false

-- two lines are of one kind, and activities of one insert
abbrev pub is_same_kind : UrgentKind → UrgentKind → Bool
is_same_kind a b = urgency a == urgency b && insert_in a == insert_in b
