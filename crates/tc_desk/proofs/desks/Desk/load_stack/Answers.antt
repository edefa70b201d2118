-- A load keeps what stands of a desk.
use Rattle.std.proofs.Common.{refl}
use Rattle.tc_desk.specs.Loads.{Stack}
use Rattle.tc_desk.specs.State.{DeskState}
use Rattle.tc_desk.specs.Standing.{IsStanding}
use Rattle.tc_desk.proofs.LoadLemmas.{answered_stands}
use Rattle.tc_desk.proofs.StandingLemmas.{stands_still}
use Rattle.tc_desk.proofs.desks.Desk.load_stack.Given as given
use Rattle.tc_desk.proofs.desks.Desk.load_stack.Goals as goal

-- what stands of the desk after it
stands : (g : given.Over) (c : goal.After-load_stack g)
    → IsStanding g.U.Carrier.kind g.D.Carrier.kind (record { parts = c.load_stack.new.self; opened = c.self.inside.opened; whole = c.self.inside.whole })
stands g c =
    answered_stands g.U.Carrier.kind g.D.Carrier.kind (λ done. done.said) (λ done. done.first) c.args.stamp (Stack c.args.name c.args.stack.now)
    (record { parts = c.self.inside.parts; opened = c.self.inside.opened; whole = c.self.inside.whole }) c.load_stack.new.self c.load_stack.result
    c.load_stack.ensures.answers c.load_stack.ensures.steps c.load_stack.ensures.good c.self.invariant

pub invariant_of-self : goal.invariant_of-self
invariant_of-self g c = stands g c

pub returns-clause-loads : goal.returns-clause-loads
returns-clause-loads g c = rw (← c.self.view_is) c.load_stack.ensures

pub returns-clause-stays : goal.returns-clause-stays
returns-clause-stays g c =
    let before : DeskState g.row.U.Denot g.row.D.Denot = record { parts = c.self.inside.parts; opened = c.self.inside.opened; whole = c.self.inside.whole } in
    rw (← c.self.view_is)
    (stands_still g.U.Carrier.kind g.D.Carrier.kind before _ (stands g c) refl (c.a_good_book_is_sound.ensures c.load_stack.new.self.book c.load_stack.ensures.good))
