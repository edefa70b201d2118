-- A session that has started, and a call of the FOP.
use Rattle.std.proofs.Common.{◌≡◌, ℕ, ◌+◌, ◌%◌, ◌≤◌, ◌⊎◌, inl, inr, ⊎_elim, Bool, true, if◌then◌else◌, Option, Some, None, List, [], ◌∷◌, ◌++◌, length, take, drop, refl, sym, ◌∙◌, ap, subst, arith}
use Rattle.std.proofs.lemmas.List.{append-nil}
use Rattle.tc_farm.specs.declared.clcws.Clcw.{Clcw}
use Rattle.tc_fop.specs.declared.signals.FopState.{FopState}
use Rattle.tc_fop.specs.Machine.{Out}
use Rattle.tc_fop.specs.Requests.{sent_requests, acknowledged}
use Rattle.tc_fop.specs.Moves.{MovesIn, Rests, confirmed_in, transmitted_in, starts_in}
use Rattle.tc_world.specs.Sublist.{IsSublist-same}
use Rattle.tc_world.specs.Logs.{Log, noted, is_some_start}
use Rattle.tc_world.specs.Session.{Session, SessionRun}
use Rattle.tc_world.specs.Abstraction.{Bare, session_with}
use Rattle.tc_world.specs.Kept.{IsStarted, IsInWindow}
use Rattle.tc_world.proofs.FrameLists.{frames_sub, frames_append, frames_grow, leftover_sub, leftover_append}
use Rattle.tc_world.proofs.WindowSteps.{run_keeps_window, runs_on, run_of_step}
use Rattle.tc_world.proofs.Moving.{Moving}
use Rattle.tc_world.proofs.Distances.{distance_of, fronts_join}
use Rattle.tc_world.proofs.Putting.{Putting, session_after, taking_advances, advance_puts, rest_puts}

-- what the call puts out, by the state in which it comes
puts : (bound : ℕ) → (heard : Option Clcw) (w v : Bare) (out : Out) (ns rs : List ℕ) → Moving bound heard w v out → IsStarted bound w ns rs
    → Putting bound w.newest.base (session_after w.newest out ns rs) v.fop out
puts bound heard w v out ns rs moving kept =
    ⊎_elim
    (λ p. advance_puts bound w.newest.base w.newest ns rs (acknowledged w.fop heard) w.fop v.fop out moving.old_fop moving.fits p.1 kept.window
    (taking_advances w.fop.state heard w.fop v.fop out p.0 moving.moves))
    (λ e. rest_puts bound w.newest.base w.newest ns rs w.fop v.fop out (subst (λ (state : FopState). MovesIn state heard w.fop v.fop out) e moving.moves))
    kept.fop

-- what the call confirms: nothing, or what the report value acknowledges
confirms : (bound : ℕ) → (heard : Option Clcw) (w v : Bare) (out : Out) (ns rs : List ℕ) → Moving bound heard w v out → IsStarted bound w ns rs
    → (confirmed_in out ≡ [])
    ⊎ ((w.fop.nn ≡ (w.newest.base + length w.newest.confirmed) % 256)
    × (confirmed_in out ≡ take (acknowledged w.fop heard) (drop (length w.newest.confirmed) w.newest.sent)))
confirms bound heard w v out ns rs moving kept =
    ⊎_elim
    (λ p. let a = taking_advances w.fop.state heard w.fop v.fop out p.0 moving.moves in
    ⊎_elim
    (λ e. inl (a.confirms ∙ ap (λ (k : ℕ). take k (sent_requests w.fop)) e))
    (λ e. inr (p.1.nn, a.confirms ∙ ap (λ (k : ℕ). take k (sent_requests w.fop)) e ∙ ap (λ (l : List ℕ). take (acknowledged w.fop heard) l) p.1.sent))
    a.which)
    (λ e. let rests : Rests w.fop v.fop out = subst (λ (state : FopState). MovesIn state heard w.fop v.fop out) e moving.moves in
    inl (ap confirmed_in rests.silent))
    kept.fop

-- where nothing is confirmed
nothing_confirmed : (log : Log) (out : Out) → confirmed_in out ≡ [] → log.confirmed ++ confirmed_in out ≡ log.confirmed
nothing_confirmed log out e = ap (λ (l : List ℕ). log.confirmed ++ l) e ∙ append-nil log.confirmed

-- the session goes on from what was confirmed: requests are sent again and sent, and some of what flies is lost
goes_on : (bound : ℕ) → (heard : Option Clcw) (w v : Bare) (out : Out) (ns rs : List ℕ) → w.newest.started ≡ true
    → IsInWindow bound (session_after w.newest out ns rs) → Moving bound heard w v out → IsStarted bound w ns rs
    → (ms : List ℕ) × (v.newest.started ≡ true) × IsStarted bound v ms rs
    × SessionRun bound (session_after w.newest out ns rs) (session_with v.newest ms rs)
goes_on bound heard w v out ns rs started window moving kept =
    let base = w.newest.base in
    let s = session_after w.newest out ns rs in
    let put = puts bound heard w v out ns rs moving kept in
    let sent = w.newest.sent ++ transmitted_in out in
    let fly = frames_append base sent w.up out.frames ns put.ps
    (frames_grow base w.newest.sent (transmitted_in out) w.up ns kept.frames) put.frames
    in
    let left = frames_sub base sent v.up (w.up ++ out.frames) (ns ++ put.ps) moving.up fly in
    let ms = left.0 in
    let mid : Session = record s { sent = sent; up = ns ++ put.ps } in
    let last : Session = record s { sent = sent; up = ms } in
    let lost = run_of_step bound mid last
    (inr (inr (inr (inr (inr (record { up = left.1; down = IsSublist-same rs; whole = refl }))))))
    in
    let run = runs_on bound s mid last put.run lost in
    let after : Bare = record w { fop = v.fop; up = v.up; newest = noted out w.newest } in
    let is_started : IsStarted bound after ms rs = record {
      base = kept.base;
      window = run_keeps_window bound s last run window;
      frames = left.2;
      leftover = leftover_sub base (length w.newest.accepted) v.up (w.up ++ out.frames) moving.up
          (leftover_append base (length w.newest.accepted) w.up out.frames kept.leftover put.plain);
      words = kept.words;
      vr = kept.vr;
      fop = put.fop ms;
    }
    in
    let stays : after.newest.started ≡ true = ap (λ (f : Bool). if f then true else is_some_start (starts_in out)) started in
    let there : (after.newest.started ≡ true) × IsStarted bound after ms rs × SessionRun bound s (session_with after.newest ms rs) = (stays, is_started, run) in
    let reached = subst
    (λ (x : Bare). (x.newest.started ≡ true) × IsStarted bound x ms rs × SessionRun bound s (session_with x.newest ms rs))
    (sym moving.whole)
    there
    in
    (ms, reached.0, reached.1, reached.2)

-- without a control word: requests are sent and sent again
pub started_moves : (bound : ℕ) → (w v : Bare) (out : Out) (ns rs : List ℕ) → w.newest.started ≡ true → Moving bound None w v out → IsStarted bound w ns rs
    → (ms : List ℕ) × (v.newest.started ≡ true) × IsStarted bound v ms rs
    × SessionRun bound (session_with w.newest ns rs) (session_with v.newest ms rs)
started_moves bound w v out ns rs started moving kept =
    let s = session_with w.newest ns rs in
    let none : confirmed_in out ≡ [] = ⊎_elim (λ e. e) (λ p. p.1) (confirms bound None w v out ns rs moving kept) in
    let same : session_after w.newest out ns rs ≡ s = λ i. record s { confirmed = nothing_confirmed w.newest out none i } in
    let on = goes_on bound None w v out ns rs started (subst (λ (t : Session). IsInWindow bound t) (sym same) kept.window) moving kept in
    (on.0, on.1, on.2, subst (λ (t : Session). SessionRun bound t (session_with v.newest on.0 rs)) same on.3)

-- a control word that flew for r is heard: as many are confirmed, or none
hears : (bound : ℕ) → (w v : Bare) (out : Out) (clcw : Clcw) (r : ℕ) (ns rs : List ℕ) → clcw.report ≡ (w.newest.base + r) % 256
    → IsInWindow bound (session_with w.newest ns (r ∷ rs)) → Moving bound (Some clcw) w v out → IsStarted bound w ns rs
    → SessionRun bound (session_with w.newest ns (r ∷ rs)) (session_after w.newest out ns rs)
hears bound w v out clcw r ns rs value window moving kept =
    let s = session_with w.newest ns (r ∷ rs) in
    let t = session_after w.newest out ns rs in
    let n = length w.newest.confirmed in
    let low : n ≤ r = window.down_low.0 in
    let high : r ≤ length w.newest.accepted = window.down_high.0 in
    let accepted = window.accepted_few in
    let sent = window.sent_few in
    let near : r ≤ n + 255 = omega (arith, high, accepted, sent, window.small) in
    let ignored : (confirmed_in out ≡ []) → t ≡ record s { down = rs } =
    λ none i. record s { down = rs; confirmed = nothing_confirmed w.newest out none i }
    in
    run_of_step bound s t (inr (inr (inr (inr (inl (record {
      value = r;
      rest = rs;
      first = refl;
      whole = ⊎_elim
          (λ none. inl (ignored none))
          (λ p. let front : w.newest.confirmed ++ confirmed_in out ≡ take r w.newest.sent =
          ap (λ (l : List ℕ). l ++ confirmed_in out) window.confirmed
          ∙ ap (λ (l : List ℕ). take n w.newest.sent ++ l) p.1
          ∙ ap (λ (k : ℕ). take n w.newest.sent ++ take k (drop n w.newest.sent)) (distance_of w.newest.base n r clcw.report w.fop.nn value p.0 low near)
          ∙ fronts_join n r w.newest.sent low
          in
          inr (low, λ i. record s { down = rs; confirmed = front i }))
          (confirms bound (Some clcw) w v out ns rs moving kept);
    }))))))

-- with a control word that flew for r: some are confirmed, then requests are sent again and sent
pub started_hears : (bound : ℕ) → (w v : Bare) (out : Out) (clcw : Clcw) (r : ℕ) (ns rs : List ℕ) → w.newest.started ≡ true
    → clcw.report ≡ (w.newest.base + r) % 256
    → IsInWindow bound (session_with w.newest ns (r ∷ rs))
    → Moving bound (Some clcw) w v out → IsStarted bound w ns rs
    → (ms : List ℕ) × (v.newest.started ≡ true) × IsStarted bound v ms rs
    × SessionRun bound (session_with w.newest ns (r ∷ rs)) (session_with v.newest ms rs)
started_hears bound w v out clcw r ns rs started value window moving kept =
    let s = session_with w.newest ns (r ∷ rs) in
    let t = session_after w.newest out ns rs in
    let heard = hears bound w v out clcw r ns rs value window moving kept in
    let on = goes_on bound (Some clcw) w v out ns rs started (run_keeps_window bound s t heard window) moving kept in
    (on.0, on.1, on.2, runs_on bound s t (session_with v.newest on.0 rs) heard on.3)
