use Rattle.std.proofs.Common.{◌≡◌, map, take}
use Rattle.tc_types.specs.declared.link.activities.ListedActivity.{ListedActivity}
use Rattle.tc_desk.proofs.statuses.requests_in.Given as goal

abbrev pub invariant-loop-activity : goal.invariant-loop-activity
invariant-loop-activity g l = l.requests.items ≡ map (λ (a : ListedActivity). a.request) (take l.activity-index l.activities)
