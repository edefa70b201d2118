-- The words and the sign of each kind of line.
use Rattle.std.specs.Prelude.{ℕ, List, codes}
use Rattle.tc_urgent.specs.declared.kinds.UrgentKind.{UrgentKind}
use Rattle.tc_urgent.specs.declared.kinds.UrgentKind.TheVariants.{InDoubt, FailedSince, Approval, StepDue, Flying, LostReport, Free, ActivityOf, LockedForever, Locked}

-- the class of a row
unfoldable pub kind_class : UrgentKind → List ℕ
kind_class InDoubt = codes "InDoubt"
kind_class FailedSince = codes "FailedSince"
kind_class Approval = codes "Approval"
kind_class StepDue = codes "StepDue"
kind_class Flying = codes "Flying"
kind_class LostReport = codes "LostReport"
kind_class Free = codes "Free"
kind_class (ActivityOf insert) = codes "Activity"
kind_class LockedForever = codes "LockedForever"
kind_class Locked = codes "Locked"

-- its identity in the page begins with e if it is of an execution, with u if it is of a request
unfoldable pub kind_letter : UrgentKind → List ℕ
kind_letter StepDue = codes "e"
kind_letter other = codes "u"

-- a row's cell begins with this sign, and with what the line is of
unfoldable pub kind_begins : UrgentKind → List ℕ
kind_begins InDoubt = codes "<td>? request "
kind_begins FailedSince = codes "<td>&#215; request "
kind_begins Approval = codes "<td>&#9675; request "
kind_begins StepDue = codes "<td>&#9998; execution "
kind_begins Flying = codes "<td>&#9654; request "
kind_begins LostReport = codes "<td>! request "
kind_begins Free = codes "<td>&#9679; request "
kind_begins (ActivityOf insert) = codes "<td>&#8627; request "
kind_begins LockedForever = codes "<td>&#8856; request "
kind_begins Locked = codes "<td>&#9676; request "
