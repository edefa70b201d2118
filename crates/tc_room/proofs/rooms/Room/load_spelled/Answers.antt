use Rattle.std.proofs.Common.{arith, ◌≡◌, inl, inr, false, Err, refl, subst, sym, ap, ◌∙◌}
use Rattle.tc_store.specs.Ledgers.{newest}
use Rattle.tc_room.specs.Crash.{ledger_of}
use Rattle.tc_room.specs.Joined.{HasLedger, LinkState, Standing}
use Rattle.tc_room.specs.Loads.{loading_of}
use Rattle.tc_room.proofs.LoadLemmas.{load_carried, load_refused}
use Rattle.tc_room.proofs.RoomLemmas.{kept_book}
use Rattle.tc_room.proofs.StopLemmas.{load_told, stops_failed, stops_ok, stops_refused}
use Rattle.tc_room.proofs.TableLemmas.{leaves_acts, not_written, written}
use Rattle.tc_room.proofs.TruthLemmas.{link_loaded, link_refused}
use Rattle.tc_room.proofs.rooms.Room.load_spelled.Goals as goal

pub returns-in_err-loaded-clause-answered : goal.returns-in_err-loaded-clause-answered
returns-in_err-loaded-clause-answered g c =
    let gone : c.from_residual.result ≡ Err c.in_err-loaded.field-0.0 = grind arith in
    let going : c.self.inside.stopped ≡ false = ap (λ (s : Standing _). s.stopped) c.self.view_is ∙ c.requires.going in
    let why = c.in_err-loaded.ensures.loads.answers in
    rw (gone, ← c.self.view_is)
    (λ replies held clean. inl (record { desk = load_refused _ _ _ _ _ why; tables = subst (λ (at : LinkState). HasLedger g.S.Store c.self.inside.tables (ledger_of at.book replies)) (sym why.same) (held going clean); opened = c.in_err-loaded.ensures.stays.opened; whole = c.in_err-loaded.ensures.whole; going = going }))

pub returns-in-Ok-clause-answered : goal.returns-in-Ok-clause-answered
returns-in-Ok-clause-answered g c =
    let going : c.self.inside.stopped ≡ false = ap (λ (s : Standing _). s.stopped) c.self.view_is ∙ c.requires.going in
    rw (← c.self.view_is)
    (λ replies held clean. inl (record {
      desk = load_carried _ _ _ _ _ _ _ c.in_ok-loaded.ensures.loads.answers c.in_ok-loaded.ensures.loads.made.moves;
      tables = written g.S.Store c.self.inside.tables c.write_rows.new.tables (ledger_of c.self.inside.desk.parts.book replies) newest c.in_ok-loaded.loaded.batch.items _ c.in_ok-loaded.ensures.loads.made.batch c.write_rows.ensures.crash clean (λ was. (held going was).holds) (rw c.deref.ensures.value at (c.in-Ok.ensures.written clean)) (c.in-Ok.ensures.durable clean);
      opened = c.in_ok-loaded.ensures.stays.opened;
      whole = c.in_ok-loaded.ensures.whole;
      going = going;
    }))

pub returns-in-Err-clause-answered : goal.returns-in-Err-clause-answered
returns-in-Err-clause-answered g c =
    let going : c.self.inside.stopped ≡ false = ap (λ (s : Standing _). s.stopped) c.self.view_is ∙ c.requires.going in
    rw (← c.self.view_is)
    (λ replies held clean. inr (record {
      free = c.in_ok-loaded.ensures.loads.answers.free;
      reply = refl;
      stopped = refl;
      tables = not_written g.S.Store c.self.inside.tables c.write_rows.new.tables (ledger_of c.self.inside.desk.parts.book replies) c.write_rows.ensures.crash clean (λ was. (held going was).holds) (c.in-Err.ensures.kept clean);
      crash = leaves_acts g.S.Store c.self.inside.tables c.write_rows.new.tables c.self.inside.desk.parts.book _ replies c.in_ok-loaded.loaded.batch.items _ (rw c.deref.ensures.value at c.write_rows.ensures.crash) clean (held going) c.in_ok-loaded.ensures.loads.made.batch
          (_, _, load_carried _ _ _ _ _ _ _ c.in_ok-loaded.ensures.loads.answers c.in_ok-loaded.ensures.loads.made.moves, refl, kept_book _ c.in_ok-loaded.ensures.stays.good);
      opened = c.in_ok-loaded.ensures.stays.opened;
      whole = c.in_ok-loaded.ensures.whole;
    }))

pub returns-in_err-loaded-clause-keeps : goal.returns-in_err-loaded-clause-keeps
returns-in_err-loaded-clause-keeps g c =
    let gone : c.from_residual.result ≡ Err c.in_err-loaded.field-0.0 = grind arith in
    let going : c.self.inside.stopped ≡ false = ap (λ (s : Standing _). s.stopped) c.self.view_is ∙ c.requires.going in
    rw (← c.self.view_is)
    (record { stops = stops_refused _ _ _ _ gone going going (load_told c.args.stamp c.self.inside.desk.parts.book (loading_of c.args.name c.args.spelled.now) _ c.in_err-loaded.ensures.loads.answers.why); opened = c.in_err-loaded.ensures.stays.opened; promise = c.in_err-loaded.ensures.stays.promise; kept = kept_book _ c.in_err-loaded.ensures.stays.good })

pub returns-in-Ok-clause-keeps : goal.returns-in-Ok-clause-keeps
returns-in-Ok-clause-keeps g c =
    let going : c.self.inside.stopped ≡ false = ap (λ (s : Standing _). s.stopped) c.self.view_is ∙ c.requires.going in
    rw (← c.self.view_is) (record { stops = stops_ok _ _ _ going going; opened = c.in_ok-loaded.ensures.stays.opened; promise = c.in_ok-loaded.ensures.stays.promise; kept = kept_book _ c.in_ok-loaded.ensures.stays.good })

pub returns-in-Err-clause-keeps : goal.returns-in-Err-clause-keeps
returns-in-Err-clause-keeps g c = rw (← c.self.view_is) (record { stops = stops_failed _ _ _ refl refl; opened = c.in_ok-loaded.ensures.stays.opened; promise = c.in_ok-loaded.ensures.stays.promise; kept = kept_book _ c.in_ok-loaded.ensures.stays.good })

pub returns-in_err-loaded-clause-link : goal.returns-in_err-loaded-clause-link
returns-in_err-loaded-clause-link g c = rw (← c.self.view_is) (link_refused _ _ _ _ _ c.in_err-loaded.ensures.loads.answers c.in_err-loaded.ensures.whole)

pub returns-in-Ok-clause-link : goal.returns-in-Ok-clause-link
returns-in-Ok-clause-link g c = rw (← c.self.view_is) (link_loaded _ _ _ _ _ _ c.in_ok-loaded.ensures.loads.answers c.in_ok-loaded.ensures.whole)

pub returns-in-Err-clause-link : goal.returns-in-Err-clause-link
returns-in-Err-clause-link g c = rw (← c.self.view_is) (link_loaded _ _ _ _ _ _ c.in_ok-loaded.ensures.loads.answers c.in_ok-loaded.ensures.whole)
