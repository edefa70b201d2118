-- The session that is on makes a run at each step, and stays sane.
use Rattle.std.proofs.Common.{◌≡◌, ℕ, ◌<◌, ◌≤◌, Bool, true, false, ◌⊎◌, inl, inr, Some, None, List, [], ◌∷◌, ◌++◌, refl, sym, ◌∙◌, subst, arith}
use Rattle.tc_farm.specs.declared.clcws.Clcw.{Clcw}
use Rattle.tc_types.specs.declared.link.frames.Frame.{Frame}
use Rattle.tc_types.specs.declared.link.reports.Report.{Report}
use Rattle.tc_types.specs.declared.link.reports.Report.TheVariants.{Word, Telemetry}
use Rattle.tc_types.specs.declared.link.reports.Telemetry.{Telemetry as Packet}
use Rattle.tc_farm.specs.Farm.{farm_after, verdict_of, released}
use Rattle.tc_types.specs.declared.link.frames.Frame.TheVariants.{Ad, Unlock, SetVr}
use Rattle.tc_farm.specs.FarmLaws.{IsNumbered, Says}
use Rattle.tc_fop.specs.Machine.{Out}
use Rattle.tc_world.specs.Sublist.{IsSublist}
use Rattle.tc_world.specs.Session.{SessionRun, nothing_yet}
use Rattle.tc_world.specs.Abstraction.{Bare, session_of, session_with, report_value}
use Rattle.tc_world.specs.Window.{Distinct}
use Rattle.tc_world.specs.Kept.{IsStarted, IsUnstarted, IsSane, AreFrames}
use Rattle.tc_world.proofs.Moving.{Moving, IsFollowed}
use Rattle.tc_world.proofs.FrameLists.{frames_behind}
use Rattle.tc_world.proofs.WindowSteps.{runs_on}
use Rattle.tc_world.proofs.StartedMoves.{started_moves, started_hears}
use Rattle.tc_world.proofs.Starting.{unstarted_moves}
use Rattle.tc_world.proofs.OtherSides.{after_frame, started_boards, unstarted_boards, started_releases, unstarted_releases, started_tells, unstarted_tells, started_reports, unstarted_reports, started_loses, unstarted_loses, started_word_taken, unstarted_word_taken}
use Rattle.tc_world.proofs.Abstracted.{session_started, session_unstarted}

-- what a step of the session that is on gives
pub record Steps (bound : ℕ) (w v : Bare) : Type 0 where
  pub sane : IsSane bound v
  pub run : SessionRun bound (session_of w) (session_of v)

-- from a started session to a started one
started_on : (bound : ℕ) → bound ≤ 255 → (w v : Bare) (ns rs ms qs : List ℕ) → Distinct w.newest.sent → Distinct v.newest.sent
    → w.newest.started ≡ true → IsStarted bound w ns rs → v.newest.started ≡ true → IsStarted bound v ms qs
    → SessionRun bound (session_with w.newest ns rs) (session_with v.newest ms qs) → Steps bound w v
started_on bound fit w v ns rs ms qs dw dv sw kw sv kv run = record {
  sane = inr (ms, qs, sv, kv);
  run = subst (λ s. SessionRun bound s (session_of v)) (sym (session_started bound w ns rs sw dw kw))
      (subst (λ t. SessionRun bound (session_with w.newest ns rs) t) (sym (session_started bound v ms qs sv dv kv)) run);
}

-- from a session that has not started to one that has not
unstarted_on : (bound : ℕ) → bound ≤ 255 → (w v : Bare) → w.newest.started ≡ false → IsUnstarted w → v.newest.started ≡ false → IsUnstarted v → Steps bound w v
unstarted_on bound fit w v sw kw sv kv = record {
  sane = inl (sv, kv);
  run = ([], session_unstarted v sv kv ∙ sym (session_unstarted w sw kw));
}

-- it begins
begun_on : (bound : ℕ) → bound ≤ 255 → (w v : Bare) (rs : List ℕ) → Distinct v.newest.sent → w.newest.started ≡ false → IsUnstarted w
    → v.newest.started ≡ true → IsStarted bound v [] rs → SessionRun bound nothing_yet (session_with v.newest [] rs) → Steps bound w v
begun_on bound fit w v rs dv sw kw sv kv run = record {
  sane = inr ([], rs, sv, kv);
  run = subst (λ s. SessionRun bound s (session_of v)) (sym (session_unstarted w sw kw))
      (subst (λ t. SessionRun bound nothing_yet t) (sym (session_started bound v [] rs sv dv kv)) run);
}

begun_or_not : (bound : ℕ) → bound ≤ 255 → (w v : Bare) → Distinct v.newest.sent → w.newest.started ≡ false → IsUnstarted w
    → (((v.newest.started ≡ false) × IsUnstarted v)
    ⊎ ((rs : List ℕ) × (v.newest.started ≡ true) × IsStarted bound v [] rs × SessionRun bound nothing_yet (session_with v.newest [] rs)))
    → Steps bound w v
begun_or_not bound fit w v dv sw kw (inl (sv, kv)) = unstarted_on bound fit w v sw kw sv kv
begun_or_not bound fit w v dv sw kw (inr (rs, sv, kv, run)) = begun_on bound fit w v rs dv sw kw sv kv run

-- a call of the FOP without a control word
pub moves_on : (bound : ℕ) → bound ≤ 255 → (w v : Bare) (out : Out) → Distinct w.newest.sent → Distinct v.newest.sent → Moving bound None w v out → IsSane bound w → Steps bound w v
moves_on bound fit w v out dw dv moving (inl (sw, kw)) = begun_or_not bound fit w v dv sw kw (unstarted_moves bound fit None w v out sw tt moving kw)
moves_on bound fit w v out dw dv moving (inr (ns, rs, sw, kw)) =
    let done = started_moves bound w v out ns rs sw moving kw in
    started_on bound fit w v ns rs done.0 rs dw dv sw kw done.1 done.2 done.3

-- frames in flight have numbers of 8 bits
front_numbered : (base : ℕ) (sent : List ℕ) (frame : Frame) (rest : List Frame) (ns : List ℕ) → AreFrames base sent (frame ∷ rest) ns → IsNumbered frame
front_numbered base sent (Ad number request body) rest ns (n, others, is, value, stands, a) = omega (arith, value)
front_numbered base sent Unlock rest ns a = tt
front_numbered base sent (SetVr v) rest ns a = tt

-- a frame came up
pub boards_on : (bound : ℕ) → bound ≤ 255 → (w : Bare) (frame : Frame) (room : Bool) (lost rest : List Frame) → Distinct w.newest.sent
    → (IsNumbered frame → Says (verdict_of w.farm frame room) w.farm frame room (farm_after w.farm frame room))
    → w.up ≡ lost ++ frame ∷ rest → IsSane bound w → Steps bound w (after_frame w frame room rest)
boards_on bound fit w frame room lost rest dw says up (inl (sw, kw)) =
    unstarted_on bound fit w (after_frame w frame room rest) sw kw sw (unstarted_boards w frame room lost rest up kw)
boards_on bound fit w frame room lost rest dw says up (inr (ns, rs, sw, kw)) =
    let behind = frames_behind w.newest.base w.newest.sent lost (frame ∷ rest) ns
    (subst (λ l. AreFrames w.newest.base w.newest.sent l ns) up kw.frames) in
    let numbered : IsNumbered frame = front_numbered w.newest.base w.newest.sent frame rest behind.1 behind.4 in
    let done = started_boards bound w frame room lost rest ns rs (says numbered) up kw in
    started_on bound fit w (after_frame w frame room rest) ns rs done.0 rs dw dw sw kw sw done.1 done.2

pub releases_on : (bound : ℕ) → bound ≤ 255 → (w : Bare) → Distinct w.newest.sent → IsSane bound w → Steps bound w (record w { farm = released w.farm })
releases_on bound fit w dw (inl (sw, kw)) = unstarted_on bound fit w (record w { farm = released w.farm }) sw kw sw (unstarted_releases w kw)
releases_on bound fit w dw (inr (ns, rs, sw, kw)) =
    started_on bound fit w (record w { farm = released w.farm }) ns rs ns rs dw dw sw kw sw (started_releases bound w ns rs kw) ([], refl)

pub tells_on : (bound : ℕ) → bound ≤ 255 → (w : Bare) (word : ℕ) (down : List Report) → Distinct w.newest.sent → report_value word ≡ w.farm.vr
    → IsSublist down (w.down ++ Word word ∷ []) → IsSane bound w → Steps bound w (record w { down = down })
tells_on bound fit w word down dw value sub (inl (sw, kw)) =
    unstarted_on bound fit w (record w { down = down }) sw kw sw (unstarted_tells w word down value sub kw)
tells_on bound fit w word down dw value sub (inr (ns, rs, sw, kw)) =
    let done = started_tells bound w word down ns rs value sub kw in
    started_on bound fit w (record w { down = down }) ns rs ns done.0 dw dw sw kw sw done.1 done.2

pub reports_on : (bound : ℕ) → bound ≤ 255 → (w : Bare) (telemetry : Packet) (down : List Report) → Distinct w.newest.sent
    → IsSublist down (w.down ++ Telemetry telemetry ∷ []) → IsSane bound w → Steps bound w (record w { down = down })
reports_on bound fit w telemetry down dw sub (inl (sw, kw)) =
    unstarted_on bound fit w (record w { down = down }) sw kw sw (unstarted_reports w telemetry down sub kw)
reports_on bound fit w telemetry down dw sub (inr (ns, rs, sw, kw)) =
    let done = started_reports bound w telemetry down ns rs sub kw in
    started_on bound fit w (record w { down = down }) ns rs ns done.0 dw dw sw kw sw done.1 done.2

pub loses_on : (bound : ℕ) → bound ≤ 255 → (w : Bare) (up : List Frame) (down : List Report) → Distinct w.newest.sent
    → IsSublist up w.up → IsSublist down w.down → IsSane bound w → Steps bound w (record w { up = up; down = down })
loses_on bound fit w up down dw sub_up sub_down (inl (sw, kw)) =
    unstarted_on bound fit w (record w { up = up; down = down }) sw kw sw (unstarted_loses w up down sub_up sub_down kw)
loses_on bound fit w up down dw sub_up sub_down (inr (ns, rs, sw, kw)) =
    let done = started_loses bound w up down ns rs sub_up sub_down kw in
    started_on bound fit w (record w { up = up; down = down }) ns rs done.0 done.1 dw dw sw kw sw done.2 done.3

-- a control word is taken and heard; what is left of the downlink is `rest`
pub hears_on : (bound : ℕ) → bound ≤ 255 → (w v : Bare) (out : Out) (word : ℕ) (clcw : Clcw) (lost rest : List Report) → Distinct w.newest.sent → Distinct v.newest.sent
    → clcw.report < 256 → report_value word ≡ clcw.report → w.down ≡ lost ++ Word word ∷ rest
    → Moving bound (Some clcw) (record w { down = rest }) v out → IsSane bound w → Steps bound w v
hears_on bound fit w v out word clcw lost rest dw dv small value down moving (inl (sw, kw)) =
    let taken = unstarted_word_taken w word lost rest down kw in
    let left : Bare = record w { down = rest } in
    let followed : IsFollowed clcw.report left = subst (λ n. IsFollowed n left) value taken.1 in
    begun_or_not bound fit w v dv sw kw (unstarted_moves bound fit (Some clcw) left v out sw (small, followed) moving taken.0)
hears_on bound fit w v out word clcw lost rest dw dv small value down moving (inr (ns, rs, sw, kw)) =
    let taken = started_word_taken bound w word lost rest ns rs down kw in
    let left : Bare = record w { down = rest } in
    let done = started_hears bound left v out clcw taken.0 ns taken.1 sw (sym value ∙ taken.2) taken.3 moving taken.4 in
    started_on bound fit w v ns rs done.0 taken.1 dw dv sw kw done.1 done.2
    (runs_on bound (session_with w.newest ns rs) (session_with w.newest ns (taken.0 ∷ taken.1)) (session_with v.newest done.0 taken.1) taken.5 done.3)
