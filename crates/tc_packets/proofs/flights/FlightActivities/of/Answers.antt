use Rattle.std.proofs.Common.{◌≡◌, rules}
use Rattle.tc_types.proofs.InsertLaws.{laid_out}
use Rattle.tc_packets.proofs.flights.FlightActivities.of.Goals as goal

pub invariant_of-result : goal.invariant_of-result
invariant_of-result c =
    let e : c.copy_from_slice.new.self ≡ c.args.activities.now = c.copy_from_slice.ensures.after in
    rw e (laid_out c.args.activities.now c.in_ok-first.field-0.now c.in_ok-first.ensures.value (search rules))
