-- Empty places, of which the first are taken.
use Rattle.std.proofs.Common.{◌∙◌}
use Rattle.tc_board.specs.Schedule.{listed}
use Rattle.tc_board.proofs.PlaceLemmas.{places_taken}
use Rattle.tc_board.proofs.schedules.places_of.Goals as goal

pub returns : goal.returns
returns c = c.take_places.ensures ∙ places_taken listed c.args.activities.now 64 c.requires
