-- Where the request was found.
use Rattle.std.proofs.Common.{sym, ◌∙◌}
use Rattle.tc_fop.specs.Requests.{waiting_requests}
use Rattle.tc_world.proofs.KnownLemmas.{known_marked, known_waiting}
use Rattle.tc_world.proofs.parts.LinkParts.knows.Goals as goal

pub returns-then-is_marked : goal.returns-then-is_marked
returns-then-is_marked g c =
    let is = rw c.deref.ensures.value at c.is_marked.ensures in
    rw (← c.self.view_is)
    (known_marked c.args.request c.self.inside.past.items c.self.inside.side.newest.log (waiting_requests c.self.inside.side.fop.machine)
    (sym (is _ c.self.invariant.3) ∙ c.if-is_marked.true))

pub returns : goal.returns
returns g c =
    let is = rw c.deref.ensures.value at c.is_marked.ensures in
    rw (← c.self.view_is)
    (c.is_waiting.ensures ∙ known_waiting c.args.request c.self.inside.past.items c.self.inside.side.newest.log (waiting_requests c.self.inside.side.fop.machine)
    (sym (is _ c.self.invariant.3) ∙ c.if-is_marked.false))
