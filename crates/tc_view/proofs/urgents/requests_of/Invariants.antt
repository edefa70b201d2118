-- Those of the first are there.
use Rattle.std.proofs.Common.{◌≡◌, map, take}
use Rattle.tc_types.specs.declared.link.activities.ListedActivity.{ListedActivity}
use Rattle.tc_view.proofs.urgents.requests_of.Given as goal

abbrev pub invariant-loop-activity : goal.invariant-loop-activity
invariant-loop-activity g l = l.requests.items ≡ map (λ (a : ListedActivity). a.request) (take l.activity-index l.activities)
