-- The numbers of the first are there.
use Rattle.std.proofs.Common.{◌≡◌, map, take}
use Rattle.tc_types.specs.declared.requests.Request.{Request}
use Rattle.tc_view.proofs.urgents.numbers_of.Given as goal

abbrev pub invariant-loop-request : goal.invariant-loop-request
invariant-loop-request g l = l.numbers.items ≡ map (λ (r : Request). r.number) (take l.request-index l.found)
