use Rattle.std.proofs.Common.{None, Some, refl}
use Rattle.tc_api.specs.declared.serving.Told.TheVariants as told
use Rattle.tc_api.proofs.ServingLemmas.{opening_told}
use Rattle.tc_api.proofs.serving.serve_opening.Goals as goal

pub returns-in-Ok : goal.returns-in-Ok
returns-in-Ok g c = opening_told c.args.since c.args.room.now (Some (told.Lines c.in-Ok.text)) c.make_served.result c.make_served.ensures refl (c.in-Ok.ensures.told, c.in-Ok.ensures.lines)

pub returns-in-Err : goal.returns-in-Err
returns-in-Err g c = opening_told c.args.since c.args.room.now None c.make_served-in-Err.result c.make_served-in-Err.ensures refl tt
