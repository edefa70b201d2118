use Rattle.std.proofs.Common.{◌+◌, ◌≤◌, length, take}
use Rattle.tc_world.specs.Links.{PutsAll}
use Rattle.tc_world.proofs.fop_side.put_all.Given as goal

abbrev pub invariant-loop-frame : goal.invariant-loop-frame
invariant-loop-frame g l =
    PutsAll g.U.Carrier.kind l.fn.up (take l.frame-index l.frames) l.up
    × (g.U.Carrier.covered l.fn.up ≤ g.U.Carrier.covered l.up + l.frame-index)
    × (length (g.U.Carrier.kind.content l.up) ≤ length (g.U.Carrier.kind.content l.fn.up) + l.frame-index)
