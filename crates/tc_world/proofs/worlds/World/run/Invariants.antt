-- The events so far happened in turn, and while every start was good they are runs of one session after the other.
use Rattle.std.proofs.Common.{take}
use Rattle.tc_world.specs.Flight.{KeepsClaims}
use Rattle.tc_world.specs.Runs.{RunsOn}
use Rattle.tc_world.proofs.worlds.World.run.Given as goal

abbrev pub invariant-loop-done : goal.invariant-loop-done
invariant-loop-done g l =
    RunsOn g.U.Carrier.kind g.D.Carrier.kind (take l.done l.events) l.fn.self l.self
    × KeepsClaims g.U.Carrier.kind g.D.Carrier.kind l.self
