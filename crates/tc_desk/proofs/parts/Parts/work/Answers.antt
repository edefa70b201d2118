-- What the calls of `work` make is one step of it.
use Rattle.std.proofs.Common.{◌∙◌, ap, refl, subst, rules}
use Rattle.tc_desk.specs.Acts.{first_of_work}
use Rattle.tc_desk.specs.Machine.{PutsDown}
use Rattle.tc_desk.proofs.BoardingLemmas.{worked_off}
use Rattle.tc_desk.proofs.parts.Parts.work.Goals as goal

pub returns : goal.returns
returns g c = record {
  answers =
      rw (← c.self.view_is) (
        refl,
        worked_off g.U.Carrier.kind g.D.Carrier.kind c.args.stamp _ _ c.reserve.new.self c.put_all.new.world c.none.result c.first_of_work-first.result c.in_ok-reports.reports.items
            c.in_ok-reserve.ensures.same c.in_ok-reports.ensures.reports
            (subst (λ items. PutsDown g.U.Carrier.kind g.D.Carrier.kind items c.reserve.new.self c.put_all.new.world) c.deref.ensures.value c.put_all.ensures)
            c.free_buffer.ensures c.in_ok-reports.ensures.after.done c.none.ensures refl c.in_ok-draft.ensures.same.book
            (c.first_of_work-first.ensures ∙ ap first_of_work c.oldest.ensures),
      );
  put = search rules;
  room = search rules;
}
