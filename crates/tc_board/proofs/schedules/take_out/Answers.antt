-- Only the other requests' activities stay.
use Rattle.std.proofs.Common.{rules}
use Rattle.std.proofs.lemmas.Fn.{filter_same}
use Rattle.tc_board.proofs.schedules.take_out.Goals as goal

pub returns : goal.returns
returns g c = record { items = filter_same _ _ _ (λ x b f' k. search rules) _ _ c.retain.ensures.filtered; room = search rules }
