-- An earlier session stands one place before its page.
use Rattle.std.proofs.Common.{◌+◌, ◌<◌, length, arith}
use Rattle.tc_world.proofs.SessionPlaces.{session_earlier}
use Rattle.tc_world.proofs.worlds.World.session.Goals as goal

pub returns-clause-found : goal.returns-clause-found
returns-clause-found g c =
    let within : c.args.place + 1 < length c.self-inside.inside.0.0.past.items = omega arith in
    rw (← c.self.view_is, ← c.self-inside.view_is)
    (session_earlier c.self-inside.inside.0.0.past.items c.self-inside.inside.0.0.side.newest.log c.args.place c.index.result.now within c.index.ensures)
