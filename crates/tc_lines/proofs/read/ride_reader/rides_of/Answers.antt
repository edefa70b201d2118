use Rattle.std.proofs.Common.{rules}
use Rattle.tc_types.proofs.RideLemmas.{first_read, next_read, nothing_read, none_read}
use Rattle.tc_lines.proofs.read.ride_reader.rides_of.Goals as goal

pub loop-count-init : goal.loop-count-init
loop-count-init c = first_read _ _ _ _ c.in_ok-places.field-0 (search rules) (search rules) (search rules) c.in_ok-places.ensures.only

pub loop-count-preserved : goal.loop-count-preserved
loop-count-preserved c =
    next_read _ _ c.loop-count.targets c.loop-count.times _ _ c.loop-count.count c.loop-count.places c.in_ok-places-2.field-0 c.loop-count.invariant (search rules) (search rules) (search rules) (search rules) c.in_ok-places-2.ensures.only

pub returns-in_err-places-2-clause-only : goal.returns-in_err-places-2-clause-only
returns-in_err-places-2-clause-only c rides are targets times =
    absurd (none_read _ _ c.loop-count.targets c.loop-count.times _ _ c.loop-count.count c.loop-count.places c.loop-count.invariant (λ e. search rules) c.in_err-places-2.ensures.only rides are targets times)

pub returns-in_err-places-clause-only : goal.returns-in_err-places-clause-only
returns-in_err-places-clause-only c rides are targets times = absurd (nothing_read _ _ _ _ c.in_err-places.ensures.only rides are targets times)
