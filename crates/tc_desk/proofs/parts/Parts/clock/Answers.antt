-- What the calls of `clock` make is one step of it.
use Rattle.std.proofs.Common.{◌≡◌, ◌∙◌, nat_lt, false, length, refl, sym, ap, subst, arith, rules}
use Rattle.std.proofs.lemmas.Bool.Decides.{nat_tests}
use Rattle.tc_board.specs.Board.{ClockReports}
use Rattle.tc_desk.specs.State.{State}
use Rattle.tc_desk.specs.Machine.{PutsDown}
use Rattle.tc_board.proofs.NameLemmas.{clock_count}
use Rattle.tc_desk.proofs.BoardingLemmas.{went_on}
use Rattle.tc_desk.proofs.parts.Parts.clock.Goals as goal

pub returns : goal.returns
returns g c = record {
  answers =
      rw (← c.self.view_is) (
        let on_time : nat_lt c.args.time c.self.inside.board.time ≡ false = grind (arith, nat_tests, c.get.ensures.value, c.get-2.ensures.value, c.now.ensures, c.if-get.false) in rw on_time refl,
        went_on g.U.Carrier.kind g.D.Carrier.kind c.args.stamp c.args.time _ _ c.reserve.new.self c.none.result c.in_ok-reports.reports.items
            c.in_ok-reserve.ensures.same c.in_ok-reports.ensures.reports
            (subst (λ items. PutsDown g.U.Carrier.kind g.D.Carrier.kind items c.reserve.new.self c.put_all.new.world) c.deref.ensures.value c.put_all.ensures)
            c.in_ok-reports.ensures.after.done c.none.ensures refl c.in_ok-draft.ensures.same.book,
      );
  -- as many reports as any list of what falls due has
  put = λ reports due.
      c.len.ensures ∙ sym c.deref.ensures.len ∙ ap length c.deref.ensures.value ∙ clock_count c.args.time c.self.inside.board.schedule c.in_ok-reports.reports.items reports c.in_ok-reports.ensures.reports
      (subst (λ (at : State g.row.U.Denot g.row.D.Denot). ClockReports c.args.time at.board.schedule reports) (sym c.self.view_is) due);
  room = search rules;
}
