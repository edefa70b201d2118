use Rattle.std.proofs.Common.{◌≡◌, false, inl, refl, sym, ◌∙◌}
use Rattle.tc_store.specs.Ledgers.{newest}
use Rattle.tc_room.proofs.OnceLemmas.{leaves_some}
use Rattle.tc_room.proofs.RoomLemmas.{goes_on}
use Rattle.tc_room.proofs.LookLemmas.{looks_by}
use Rattle.tc_room.proofs.StopLemmas.{stops_failed, stops_ok, stops_stopped}
use Rattle.tc_room.proofs.TableLemmas.{read_kept, read_left}
use Rattle.tc_room.proofs.rooms.Room.kept_reply.Goals as goal

pub returns-in-Ok-clause-answered : goal.returns-in-Ok-clause-answered
returns-in-Ok-clause-answered g c =
    let going : c.self.inside.stopped ≡ false = goes_on _ _ _ c.self.view_is c.stopped.ensures c.if-stopped.false in
    rw (← c.self.view_is)
    (λ replies held clean.
    let has = held going (c.reply_of.ensures.reads.clean clean) in (
      c.in-Ok.ensures.body clean _ has.holds,
      record {
        desk = refl;
        tables = record { holds = c.in-Ok.ensures.reads.same clean newest _ has.holds; leaves = read_left g.S.Store c.self.inside.tables c.reply_of.new.self c.reply_of.result c.reply_of.ensures.reads clean _ has };
        opened = refl;
        whole = refl;
        going = going;
      },
    ))

pub returns-in-Err-clause-answered : goal.returns-in-Err-clause-answered
returns-in-Err-clause-answered g c =
    let going : c.self.inside.stopped ≡ false = goes_on _ _ _ c.self.view_is c.stopped.ensures c.if-stopped.false in
    rw (← c.self.view_is)
    (λ replies held clean.
    let has = held going (c.reply_of.ensures.reads.clean clean) in
    rw going (record {
      fails = record {
        reply = refl;
        stopped = refl;
        tables = λ is_open. read_kept g.S.Store c.self.inside.tables c.reply_of.new.self c.reply_of.result c.reply_of.ensures.reads clean is_open _ has;
        crash = leaves_some g.S.Store c.reply_of.new.self _ _ (read_left g.S.Store c.self.inside.tables c.reply_of.new.self c.reply_of.result c.reply_of.ensures.reads clean _ has) (inl refl);
        opened = refl;
      };
      desk = refl;
    }))

pub returns-then-stopped-clause-looks : goal.returns-then-stopped-clause-looks
returns-then-stopped-clause-looks g c =
    looks_by g.S.Store _ _ _ (stops_stopped _ _ refl (sym c.stopped.ensures ∙ c.if-stopped.true)) refl (λ clean. clean) c.opened-opened.ensures.promise c.opened-opened.ensures.good

pub returns-in-Ok-clause-looks : goal.returns-in-Ok-clause-looks
returns-in-Ok-clause-looks g c =
    let going : c.self.inside.stopped ≡ false = goes_on _ _ _ c.self.view_is c.stopped.ensures c.if-stopped.false in
    rw (← c.self.view_is) (looks_by g.S.Store _ _ _ (stops_ok _ _ _ going going) refl c.reply_of.ensures.reads.clean (rw (← c.self.view_is) at c.opened-opened.ensures.promise) c.self.invariant)

pub returns-in-Err-clause-looks : goal.returns-in-Err-clause-looks
returns-in-Err-clause-looks g c =
    rw (← c.self.view_is) (looks_by g.S.Store _ _ _ (stops_failed _ _ _ refl refl) refl c.reply_of.ensures.reads.clean (rw (← c.self.view_is) at c.opened-opened.ensures.promise) c.self.invariant)
