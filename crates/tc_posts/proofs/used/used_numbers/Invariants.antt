use Rattle.std.proofs.Common.{List, map, take}
use Rattle.tc_posts.specs.Numbered.{shown}
use Rattle.tc_posts.specs.Steps.{Step}
use Rattle.tc_posts.specs.Used.{AreAsked}
use Rattle.tc_posts.proofs.used.used_numbers.Given as goal

abbrev pub invariant-loop-line : goal.invariant-loop-line
invariant-loop-line g l = (steps : List Step) × g.C.Client.did l.fn.client steps l.client
    × AreAsked l.fn.port (take l.line-index (map shown l.lines)) steps l.used.items
