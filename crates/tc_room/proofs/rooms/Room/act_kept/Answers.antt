use Rattle.std.proofs.Common.{arith, ◌≡◌, ◌∙◌, inl, inr, false, Err, refl, subst, sym, ap}
use Rattle.tc_book.specs.Book.{Book}
use Rattle.tc_room.specs.Calls.{reply_to}
use Rattle.tc_room.specs.Crash.{ledger_of}
use Rattle.tc_room.specs.Joined.{HasLedger, Standing}
use Rattle.tc_room.proofs.OnceLemmas.{kept_done, leaves_done, makes_done, makes_failed, makes_refused}
use Rattle.tc_room.proofs.ReplyLemmas.{act_grants}
use Rattle.tc_room.proofs.RoomLemmas.{carried, kept_book, refused}
use Rattle.tc_room.proofs.TableLemmas.{not_written}
use Rattle.tc_room.proofs.StopLemmas.{act_told, stops_failed, stops_ok, stops_refused}
use Rattle.tc_room.proofs.TruthLemmas.{link_kept}
use Rattle.tc_room.proofs.rooms.Room.act_kept.Goals as goal

pub returns-in_err-done-clause-answered : goal.returns-in_err-done-clause-answered
returns-in_err-done-clause-answered g c =
    let gone : c.from_residual.result ≡ Err c.in_err-done.field-0.0 = grind arith in
    let going : c.self.inside.stopped ≡ false = ap (λ (s : Standing _). s.stopped) c.self.view_is ∙ c.requires.going in
    let why = c.in_err-done.ensures.answers in
    rw (gone, ← c.self.view_is)
    (let made = makes_refused g.S.Store _ _ c.args.caller _ _ _ (refused _ _ _ _ _ why)
    (λ replies held clean. subst (λ (book : Book). HasLedger g.S.Store c.self.inside.tables (ledger_of book replies)) (sym why.same.book) (held going clean)) c.in_err-done.ensures.stays.opened going in
    (inl (link_kept _ _ why.same c.in_err-done.ensures.refused), made))

pub returns-in-Some-clause-answered : goal.returns-in-Some-clause-answered
returns-in-Some-clause-answered g c =
    let going : c.self.inside.stopped ≡ false = ap (λ (s : Standing _). s.stopped) c.self.view_is ∙ c.requires.going in
    let done = c.in_ok-done.ensures in
    let granted = act_grants c.in_ok-done.done.first c.in_ok-done.done.said c.in_ok-done.done.moves.items in
    rw (← c.self.view_is)
    (let made = makes_done g.S.Store _ _ c.args.caller _ _ (reply_to c.in_ok-done.done)
    (carried _ _ _ _ _ _ _ c.requires.acts done.answers.0 done.answers.1 done.made.moves)
    (λ replies held clean. kept_done g.S.Store c.self.inside.tables c.write_done.new.tables c.self.inside.desk.parts.book _ replies c.args.caller (reply_to c.in_ok-done.done) c.in_ok-done.done.batch.items granted done.made.batch c.write_done.ensures.crash clean (held going) (c.in-Some.ensures.written clean) (c.in-Some.ensures.durable clean))
    done.stays.opened going in
    (reply_to c.in_ok-done.done, c.in-Some.ensures.text.0, c.in-Some.ensures.text.1, granted, inr (record { first = c.in_ok-done.done.first; said = c.in_ok-done.done.said; moves = c.in_ok-done.done.moves.items; told = inl refl; is_true = record { fair = done.fair; taken = done.taken; clean = done.clean; whole = done.whole; summary = done.summary } }), made))

pub returns-clause-answered : goal.returns-clause-answered
returns-clause-answered g c =
    let going : c.self.inside.stopped ≡ false = ap (λ (s : Standing _). s.stopped) c.self.view_is ∙ c.requires.going in
    let done = c.in_ok-done.ensures in
    let granted = act_grants c.in_ok-done.done.first c.in_ok-done.done.said c.in_ok-done.done.moves.items in
    rw (← c.self.view_is)
    (let made = makes_failed g.S.Store _ _ c.args.caller _ _ done.answers.0 refl
    (λ replies held clean. not_written g.S.Store c.self.inside.tables c.write_done.new.tables (ledger_of c.self.inside.desk.parts.book replies) c.write_done.ensures.crash clean (λ was. (held going was).holds) (λ is_open. c.in-None.ensures.kept clean is_open refl))
    (λ replies held clean. leaves_done g.S.Store c.self.inside.tables c.write_done.new.tables c.self.inside.desk.parts.book _ replies c.args.caller (reply_to c.in_ok-done.done) c.in_ok-done.done.batch.items granted done.made.batch c.write_done.ensures.crash clean (held going) _ (inl refl)
    (inr (_, _, carried _ _ _ _ _ _ _ c.requires.acts done.answers.0 done.answers.1 done.made.moves, kept_book _ done.stays.good, refl)))
    done.stays.opened in
    (inr (record { first = c.in_ok-done.done.first; said = c.in_ok-done.done.said; moves = c.in_ok-done.done.moves.items; told = inr refl; is_true = record { fair = done.fair; taken = done.taken; clean = done.clean; whole = done.whole; summary = done.summary } }), made))

pub returns-in-Some-clause-clean : goal.returns-in-Some-clause-clean
returns-in-Some-clause-clean g c = rw (← c.self.view_is) (λ clean. omega (arith, clean, c.write_done.ensures.crash.clean))

pub returns-clause-clean : goal.returns-clause-clean
returns-clause-clean g c = rw (← c.self.view_is) (λ clean. omega (arith, clean, c.write_done.ensures.crash.clean))

pub returns-in_err-done-clause-keeps : goal.returns-in_err-done-clause-keeps
returns-in_err-done-clause-keeps g c =
    let gone : c.from_residual.result ≡ Err c.in_err-done.field-0.0 = grind arith in
    let going : c.self.inside.stopped ≡ false = ap (λ (s : Standing _). s.stopped) c.self.view_is ∙ c.requires.going in
    rw (← c.self.view_is)
    (record { stops = stops_refused _ _ _ _ gone going going (act_told _ c.self.inside.desk.parts c.args.act _ c.in_err-done.ensures.answers.why); opened = c.in_err-done.ensures.stays.opened; promise = c.in_err-done.ensures.stays.promise; kept = kept_book _ c.in_err-done.ensures.stays.good })

pub returns-in-Some-clause-keeps : goal.returns-in-Some-clause-keeps
returns-in-Some-clause-keeps g c =
    let going : c.self.inside.stopped ≡ false = ap (λ (s : Standing _). s.stopped) c.self.view_is ∙ c.requires.going in
    rw (← c.self.view_is) (record { stops = stops_ok _ _ _ going going; opened = c.in_ok-done.ensures.stays.opened; promise = c.in_ok-done.ensures.stays.promise; kept = kept_book _ c.in_ok-done.ensures.stays.good })

pub returns-clause-keeps : goal.returns-clause-keeps
returns-clause-keeps g c = rw (← c.self.view_is) (record { stops = stops_failed _ _ _ refl refl; opened = c.in_ok-done.ensures.stays.opened; promise = c.in_ok-done.ensures.stays.promise; kept = kept_book _ c.in_ok-done.ensures.stays.good })
