-- What the FARM, the spacecraft and the links do to a session, and what is taken from the downlink.
use Rattle.std.proofs.Common.{◌≡◌, ◌⊎◌, inl, inr, ℕ, ◌+◌, ◌%◌, ◌<◌, ◌≤◌, Bool, true, Some, List, [], ◌∷◌, ◌++◌, length, slice_get, refl, sym, ◌∙◌, ap, subst, arith}
use Rattle.std.proofs.lemmas.List.{append-nil, length-append}
use Rattle.tc_types.specs.declared.link.telecommands.Payload.{Payload}
use Rattle.tc_types.specs.declared.link.frames.Frame.{Frame}
use Rattle.tc_types.specs.declared.link.frames.Frame.TheVariants.{Ad, Unlock, SetVr}
use Rattle.tc_types.specs.declared.link.reports.Report.{Report}
use Rattle.tc_types.specs.declared.link.reports.Report.TheVariants.{Word, Telemetry}
use Rattle.tc_types.specs.declared.link.reports.Telemetry.{Telemetry as Sent}
use Rattle.tc_farm.specs.declared.farms.FarmState.{FarmState}
use Rattle.tc_farm.specs.declared.farms.FarmState.TheVariants.{Open, Wait, Lockout}
use Rattle.tc_farm.specs.declared.farms.FarmView.{FarmView}
use Rattle.tc_farm.specs.declared.farms.FrameVerdict.{FrameVerdict}
use Rattle.tc_farm.specs.declared.farms.FrameVerdict.TheVariants.{Accepted, Discarded, Control}
use Rattle.tc_farm.specs.Farm.{farm_after, verdict_of, released, unlocked, with_vr}
use Rattle.tc_farm.specs.FarmLaws.{Says}
use Rattle.tc_fop.specs.declared.signals.FopState.TheVariants.{Initial}
use Rattle.tc_fop.specs.Machine.{Machine}
use Rattle.tc_fop.specs.Calls.{is_taking}
use Rattle.tc_world.specs.Sublist.{IsSublist, IsSublist-same, IsSublist-behind}
use Rattle.tc_world.specs.Logs.{Log, boarded}
use Rattle.tc_world.specs.Session.{SessionStep, SessionRun}
use Rattle.tc_world.specs.Abstraction.{Bare, session_with, report_value}
use Rattle.tc_world.specs.Kept.{IsStarted, IsUnstarted, IsInWindow, Stands, AreFrames, AreWords, HasNoSetVr, IsLeftover, AreControls, AllReport, Sticks}
use Rattle.tc_world.proofs.Lists.{sublist_trans}
use Rattle.tc_world.proofs.FrameLists.{frames_sub, frames_behind, no_set_vr_leftover, leftover_sub, leftover_behind, controls_sub, controls_behind}
use Rattle.tc_world.proofs.WordLists.{words_sub, words_append, words_behind, sticks_sub, sticks_behind, sticks_push, sticks_at_base}
use Rattle.tc_world.proofs.WindowSteps.{step_keeps_window, run_keeps_window, run_of_step}
use Rattle.tc_world.proofs.Moving.{IsFollowed}

-- the world after its FARM got this frame, with this left on the uplink
abbrev pub after_frame : Bare → Frame → Bool → List Frame → Bare
after_frame w frame room rest = record w {
  farm = farm_after w.farm frame room;
  up = rest;
  newest = boarded (verdict_of w.farm frame room) w.newest;
}

-- a step that loses something in flight
loses : (bound : ℕ) → (log : Log) (ns ms rs qs : List ℕ) → IsSublist ms ns → IsSublist qs rs
    → SessionStep bound (session_with log ns rs) (session_with log ms qs)
loses bound log ns ms rs qs h k = inr (inr (inr (inr (inr (record { up = h; down = k; whole = refl })))))

-- what the FOP stands for hangs on neither the accepted nor what is in flight
fop_stays : (base : ℕ) (log : Log) (accepted ns rs ms qs : List ℕ) (m : Machine)
    → ((is_taking m.state ≡ true) × Stands base (session_with log ns rs) m) ⊎ (m.state ≡ Initial)
    → ((is_taking m.state ≡ true) × Stands base (session_with (record log { accepted = accepted }) ms qs) m) ⊎ (m.state ≡ Initial)
fop_stays base log accepted ns rs ms qs m (inl h) = inl (h.0, record { nn = h.1.nn; vs = h.1.vs; sent = h.1.sent })
fop_stays base log accepted ns rs ms qs m (inr h) = inr h

-- what stands behind a front is the list with the front left out
left_behind : (front xs all : List ℕ) → all ≡ front ++ xs → IsSublist xs all
left_behind front xs all e = subst (λ (l : List ℕ). IsSublist xs l) (sym e) (IsSublist-behind front xs)

-- a Set V(R) to the base is done or not, and what flies down sticks
sticks_set : (base v : ℕ) (s : FarmState) (farm : FarmView) (xs : List Report) → v ≡ base → Sticks base farm.vr xs
    → Sticks base (with_vr v s farm).vr xs
sticks_set base v Open farm xs e a = subst (λ (x : ℕ). Sticks base x xs) (sym e) (sticks_at_base base farm.vr xs a)
sticks_set base v Wait farm xs e a = subst (λ (x : ℕ). Sticks base x xs) (sym e) (sticks_at_base base farm.vr xs a)
sticks_set base v Lockout farm xs e a = a

-- where nothing was accepted V(R) is the base, also after a Set V(R) to the base
vr_set : (base accepted v : ℕ) (s : FarmState) (farm : FarmView) → base < 256 → v ≡ base → accepted ≡ 0
    → farm.vr ≡ (base + accepted) % 256 → (with_vr v s farm).vr ≡ (base + accepted) % 256
vr_set base accepted v Open farm small e none vr = omega arith
vr_set base accepted v Wait farm small e none vr = omega arith
vr_set base accepted v Lockout farm small e none vr = vr

-- two positions with the same number, of which neither is 256 or more ahead, are the same
same_position : (base n accepted : ℕ) → (base + n) % 256 ≡ (base + accepted) % 256 → accepted ≤ n + 255 → n < accepted + 255
    → n ≡ accepted
same_position base n accepted e low high = omega arith

-- one more was accepted
next_number : (base accepted more vr next : ℕ) → vr ≡ (base + accepted) % 256 → next ≡ (vr + 1) % 256 → more ≡ accepted + 1
    → next ≡ (base + more) % 256
next_number base accepted more vr next e f g = omega arith

-- the number of a type-AD frame
number_of : Frame → ℕ
number_of (Ad number request body) = number
number_of Unlock = 0
number_of (SetVr v) = 0

-- the request of a type-AD frame
request_of : Frame → ℕ
request_of (Ad number request body) = request
request_of Unlock = 0
request_of (SetVr v) = 0

same_number : (n m q r : ℕ) (b c : Payload) → Ad n q b ≡ Ad m r c → n ≡ m
unfolding number_of
same_number n m q r b c e = ap number_of e

same_request : (n m q r : ℕ) (b c : Payload) → Ad n q b ≡ Ad m r c → q ≡ r
unfolding request_of
same_request n m q r b c e = ap request_of e

-- ---- a session that has started

-- the world where the FARM has V(R) as before, and of the uplink this is left
passes_with : (bound : ℕ) → (w : Bare) (farm : FarmView) (rest : List Frame) (ns os rs : List ℕ) → IsSublist os ns
    → AreFrames w.newest.base w.newest.sent rest os → IsLeftover w.newest.base (length w.newest.accepted) rest
    → farm.vr ≡ (w.newest.base + length w.newest.accepted) % 256 → IsStarted bound w ns rs
    → (ms : List ℕ) × IsStarted bound (record w { farm = farm; up = rest }) ms rs
    × SessionRun bound (session_with w.newest ns rs) (session_with w.newest ms rs)
passes_with bound w farm rest ns os rs sub frames leftover vr kept =
    let step = loses bound w.newest ns os rs rs sub (IsSublist-same rs) in (
      os,
      record {
        base = kept.base;
        window = step_keeps_window bound (session_with w.newest ns rs) (session_with w.newest os rs) step kept.window;
        frames = frames;
        leftover = leftover;
        words = kept.words;
        vr = vr;
        fop = fop_stays w.newest.base w.newest w.newest.accepted ns rs os rs w.fop kept.fop;
      },
      run_of_step bound (session_with w.newest ns rs) (session_with w.newest os rs) step,
    )

-- the same, with nothing added to the log
passes : (bound : ℕ) → (w : Bare) (farm : FarmView) (rest : List Frame) (ns os rs : List ℕ) → IsSublist os ns
    → AreFrames w.newest.base w.newest.sent rest os → IsLeftover w.newest.base (length w.newest.accepted) rest
    → farm.vr ≡ (w.newest.base + length w.newest.accepted) % 256 → IsStarted bound w ns rs
    → (ms : List ℕ) × IsStarted bound (record w { farm = farm; up = rest; newest = record w.newest { accepted = w.newest.accepted ++ [] } }) ms rs
    × SessionRun bound (session_with w.newest ns rs) (session_with (record w.newest { accepted = w.newest.accepted ++ [] }) ms rs)
passes bound w farm rest ns os rs sub frames leftover vr kept =
    subst
    (λ (l : List ℕ). (ms : List ℕ)
    × IsStarted bound (record w { farm = farm; up = rest; newest = record w.newest { accepted = l } }) ms rs
    × SessionRun bound (session_with w.newest ns rs) (session_with (record w.newest { accepted = l }) ms rs))
    (sym (append-nil w.newest.accepted))
    (passes_with bound w farm rest ns os rs sub frames leftover vr kept)

-- the next one arrives and is accepted
accepts : (bound : ℕ) → (w : Bare) (farm : FarmView) (request : ℕ) (rest : List Frame) (ns : List ℕ) (n : ℕ) (others rs : List ℕ)
    → IsSublist (n ∷ others) ns → AreFrames w.newest.base w.newest.sent rest others → HasNoSetVr rest
    → (w.newest.base + n) % 256 ≡ w.farm.vr → slice_get w.newest.sent n ≡ Some request → farm.vr ≡ (w.farm.vr + 1) % 256
    → IsStarted bound w ns rs
    → (ms : List ℕ)
    × IsStarted bound (record w { farm = farm; up = rest; newest = record w.newest { accepted = w.newest.accepted ++ request ∷ [] } }) ms rs
    × SessionRun bound (session_with w.newest ns rs) (session_with (record w.newest { accepted = w.newest.accepted ++ request ∷ [] }) ms rs)
accepts bound w farm request rest ns n others rs sub frames none number there next kept =
    let log = record w.newest { accepted = w.newest.accepted ++ request ∷ [] } in
    let base = w.newest.base in
    let start = session_with w.newest ns rs in
    let middle = session_with w.newest (n ∷ others) rs in
    let end = session_with log others rs in
    let first : SessionStep bound start middle = loses bound w.newest ns (n ∷ others) rs rs sub (IsSublist-same rs) in
    let window = step_keeps_window bound start middle first kept.window in
    let place = same_position base n (length w.newest.accepted) (number ∙ kept.vr) (omega (arith, window.up_low.0, window.small))
    (omega (arith, window.up_high.0, window.sent_few, window.confirmed_few, window.small)) in
    let second : SessionStep bound middle end =
    inr (inr (inl (record { position = n; rest = others; first = refl; whole = inr (request, place, there, refl) }))) in
    let grown = length-append w.newest.accepted (request ∷ []) in (
      others,
      record {
        base = kept.base;
        window = step_keeps_window bound middle end second window;
        frames = frames;
        leftover = no_set_vr_leftover base (length log.accepted) rest none;
        words = kept.words;
        vr = next_number base (length w.newest.accepted) (length log.accepted) w.farm.vr farm.vr kept.vr next grown;
        fop = fop_stays base w.newest log.accepted ns rs others rs w.fop kept.fop;
      },
      (middle ∷ end ∷ [], (first, (second, refl))),
    )

-- a type-AD frame arrives
ad_boards : (bound : ℕ) → (w : Bare) (number request : ℕ) (body : Payload) (room : Bool) (verdict : FrameVerdict) (farm : FarmView) (rest : List Frame)
    (ns : List ℕ) (n : ℕ) (others rs : List ℕ)
    → Says verdict w.farm (Ad number request body) room farm
    → IsSublist (n ∷ others) ns → AreFrames w.newest.base w.newest.sent rest others → HasNoSetVr rest
    → number ≡ (w.newest.base + n) % 256 → slice_get w.newest.sent n ≡ Some request → IsStarted bound w ns rs
    → (ms : List ℕ) × IsStarted bound (record w { farm = farm; up = rest; newest = boarded verdict w.newest }) ms rs
    × SessionRun bound (session_with w.newest ns rs) (session_with (boarded verdict w.newest) ms rs)
ad_boards bound w number request body room (Accepted other part) farm rest ns n others rs says sub frames none value there kept =
    let same = same_number number w.farm.vr request other body part says.expected in
    let asked = same_request number w.farm.vr request other body part says.expected in
    accepts bound w farm other rest ns n others rs sub frames none (sym value ∙ same) (there ∙ ap (λ (q : ℕ). Some q) asked) says.next_expected kept
ad_boards bound w number request body room Discarded farm rest ns n others rs says sub frames none value there kept =
    passes bound w farm rest ns others rs (sublist_trans others (n ∷ others) ns (inl (IsSublist-same others)) sub) frames
    (no_set_vr_leftover w.newest.base (length w.newest.accepted) rest none) (says ∙ kept.vr) kept
ad_boards bound w number request body room Control farm rest ns n others rs says sub frames none value there kept = absurd says

pub started_boards : (bound : ℕ) → (w : Bare) (frame : Frame) (room : Bool) (lost rest : List Frame) (ns rs : List ℕ)
    → Says (verdict_of w.farm frame room) w.farm frame room (farm_after w.farm frame room)
    → w.up ≡ lost ++ frame ∷ rest → IsStarted bound w ns rs
    → (ms : List ℕ) × IsStarted bound (after_frame w frame room rest) ms rs
    × SessionRun bound (session_with w.newest ns rs) (session_with (after_frame w frame room rest).newest ms rs)
started_boards bound w (Ad number request body) room lost rest ns rs says up kept =
    let base = w.newest.base in
    let frame = Ad number request body in
    let b = frames_behind base w.newest.sent lost (frame ∷ rest) ns (subst (λ (l : List Frame). AreFrames base w.newest.sent l ns) up kept.frames) in
    let none = leftover_behind base (length w.newest.accepted) lost (frame ∷ rest)
    (subst (λ (l : List Frame). IsLeftover base (length w.newest.accepted) l) up kept.leftover) in
    let f = b.4 in
    ad_boards bound w number request body room (verdict_of w.farm frame room) (farm_after w.farm frame room) rest ns f.0 f.1 rs says
    (left_behind b.0 (f.0 ∷ f.1) ns (b.2 ∙ ap (λ (l : List ℕ). b.0 ++ l) f.2)) f.5 none f.3 f.4 kept
started_boards bound w Unlock room lost rest ns rs says up kept =
    let base = w.newest.base in
    let b = frames_behind base w.newest.sent lost (Unlock ∷ rest) ns (subst (λ (l : List Frame). AreFrames base w.newest.sent l ns) up kept.frames) in
    let left = leftover_behind base (length w.newest.accepted) lost (Unlock ∷ rest)
    (subst (λ (l : List Frame). IsLeftover base (length w.newest.accepted) l) up kept.leftover) in
    passes bound w (unlocked w.farm) rest ns b.1 rs (left_behind b.0 b.1 ns b.2) b.4 left kept.vr kept
started_boards bound w (SetVr v) room lost rest ns rs says up kept =
    let base = w.newest.base in
    let b = frames_behind base w.newest.sent lost (SetVr v ∷ rest) ns (subst (λ (l : List Frame). AreFrames base w.newest.sent l ns) up kept.frames) in
    let left = leftover_behind base (length w.newest.accepted) lost (SetVr v ∷ rest)
    (subst (λ (l : List Frame). IsLeftover base (length w.newest.accepted) l) up kept.leftover) in
    passes bound w (with_vr v w.farm.state w.farm) rest ns b.1 rs (left_behind b.0 b.1 ns b.2) b.4 left.2
    (vr_set base (length w.newest.accepted) v w.farm.state w.farm kept.base left.0 left.1 kept.vr) kept

pub unstarted_boards : (w : Bare) (frame : Frame) (room : Bool) (lost rest : List Frame)
    → w.up ≡ lost ++ frame ∷ rest → IsUnstarted w → IsUnstarted (after_frame w frame room rest)
unstarted_boards w (Ad number request body) room lost rest up kept =
    absurd (controls_behind w.newest.base lost (Ad number request body ∷ rest) (subst (λ (l : List Frame). AreControls w.newest.base l) up kept.up))
unstarted_boards w Unlock room lost rest up kept =
    record {
      base = kept.base;
      sent = kept.sent;
      accepted = ap (λ (l : List ℕ). l ++ []) kept.accepted;
      confirmed = kept.confirmed;
      up = controls_behind w.newest.base lost (Unlock ∷ rest) (subst (λ (l : List Frame). AreControls w.newest.base l) up kept.up);
      down = kept.down;
      fop = kept.fop;
    }
unstarted_boards w (SetVr v) room lost rest up kept =
    let controls = controls_behind w.newest.base lost (SetVr v ∷ rest) (subst (λ (l : List Frame). AreControls w.newest.base l) up kept.up) in
    record {
      base = kept.base;
      sent = kept.sent;
      accepted = ap (λ (l : List ℕ). l ++ []) kept.accepted;
      confirmed = kept.confirmed;
      up = controls.1;
      down = sticks_set w.newest.base v w.farm.state w.farm w.down controls.0 kept.down;
      fop = kept.fop;
    }

pub started_releases : (bound : ℕ) → (w : Bare) (ns rs : List ℕ) → IsStarted bound w ns rs → IsStarted bound (record w { farm = released w.farm }) ns rs
started_releases bound w ns rs kept =
    record {
      base = kept.base;
      window = kept.window;
      frames = kept.frames;
      leftover = kept.leftover;
      words = kept.words;
      vr = kept.vr;
      fop = kept.fop;
    }

-- other things in flight, or the FARM in another state
unstarted_flies : (w : Bare) (farm : FarmView) (up : List Frame) (down : List Report) → AreControls w.newest.base up
    → Sticks w.newest.base farm.vr down → IsUnstarted w → IsUnstarted (record w { farm = farm; up = up; down = down })
unstarted_flies w farm up down controls sticks kept =
    record {
      base = kept.base;
      sent = kept.sent;
      accepted = kept.accepted;
      confirmed = kept.confirmed;
      up = controls;
      down = sticks;
      fop = kept.fop;
    }

pub unstarted_releases : (w : Bare) → IsUnstarted w → IsUnstarted (record w { farm = released w.farm })
unstarted_releases w kept = unstarted_flies w (released w.farm) w.up w.down kept.up kept.down kept

-- other things in flight, after a run
flies : (bound : ℕ) → (w : Bare) (up : List Frame) (down : List Report) (ns rs ms qs : List ℕ)
    → AreFrames w.newest.base w.newest.sent up ms → IsLeftover w.newest.base (length w.newest.accepted) up
    → AreWords w.newest.base down qs → SessionRun bound (session_with w.newest ns rs) (session_with w.newest ms qs) → IsStarted bound w ns rs
    → IsStarted bound (record w { up = up; down = down }) ms qs
flies bound w up down ns rs ms qs frames leftover words run kept =
    record {
      base = kept.base;
      window = run_keeps_window bound (session_with w.newest ns rs) (session_with w.newest ms qs) run kept.window;
      frames = frames;
      leftover = leftover;
      words = words;
      vr = kept.vr;
      fop = fop_stays w.newest.base w.newest w.newest.accepted ns rs ms qs w.fop kept.fop;
    }

-- the FARM's control word is put on the downlink
pub started_tells : (bound : ℕ) → (w : Bare) (word : ℕ) (down : List Report) (ns rs : List ℕ) → report_value word ≡ w.farm.vr
    → IsSublist down (w.down ++ Word word ∷ []) → IsStarted bound w ns rs
    → (qs : List ℕ) × IsStarted bound (record w { down = down }) ns qs
    × SessionRun bound (session_with w.newest ns rs) (session_with w.newest ns qs)
started_tells bound w word down ns rs value sub kept =
    let accepted = length w.newest.accepted in
    let put = words_append w.newest.base w.down (Word word ∷ []) rs (accepted ∷ []) kept.words (accepted, [], refl, value ∙ kept.vr, refl) in
    let q = words_sub w.newest.base down (w.down ++ Word word ∷ []) (rs ++ accepted ∷ []) sub put in
    let start = session_with w.newest ns rs in
    let middle = session_with w.newest ns (rs ++ accepted ∷ []) in
    let end = session_with w.newest ns q.0 in
    let told : SessionStep bound start middle = inr (inr (inr (inl refl))) in
    let lost : SessionStep bound middle end = loses bound w.newest ns ns (rs ++ accepted ∷ []) q.0 (IsSublist-same ns) q.1 in
    let run : SessionRun bound start end = (middle ∷ end ∷ [], (told, (lost, refl))) in
    (q.0, flies bound w w.up down ns rs ns q.0 kept.frames kept.leftover q.2 run kept, run)

pub unstarted_tells : (w : Bare) (word : ℕ) (down : List Report) → report_value word ≡ w.farm.vr
    → IsSublist down (w.down ++ Word word ∷ []) → IsUnstarted w → IsUnstarted (record w { down = down })
unstarted_tells w word down value sub kept =
    unstarted_flies w w.farm w.up down kept.up
    (sticks_sub w.newest.base w.farm.vr down (w.down ++ Word word ∷ []) sub
    (sticks_push w.newest.base w.farm.vr word w.down value kept.down))
    kept

-- no control word is put behind
all_report_telemetry : (base : ℕ) (telemetry : Sent) (xs : List Report) → AllReport base xs → AllReport base (xs ++ Telemetry telemetry ∷ [])
all_report_telemetry base telemetry [] a = a
all_report_telemetry base telemetry (Word word ∷ xs) a = (a.0, all_report_telemetry base telemetry xs a.1)
all_report_telemetry base telemetry (Telemetry other ∷ xs) a = all_report_telemetry base telemetry xs a

sticks_telemetry : (base vr : ℕ) (telemetry : Sent) (xs : List Report) → Sticks base vr xs → Sticks base vr (xs ++ Telemetry telemetry ∷ [])
sticks_telemetry base vr telemetry [] a = a
sticks_telemetry base vr telemetry (Word word ∷ xs) a =
    (λ e. (all_report_telemetry base telemetry xs (a.0 e).0, (a.0 e).1), sticks_telemetry base vr telemetry xs a.1)
sticks_telemetry base vr telemetry (Telemetry other ∷ xs) a = sticks_telemetry base vr telemetry xs a

-- a report of the spacecraft is put on the downlink
pub started_reports : (bound : ℕ) → (w : Bare) (telemetry : Sent) (down : List Report) (ns rs : List ℕ)
    → IsSublist down (w.down ++ Telemetry telemetry ∷ []) → IsStarted bound w ns rs
    → (qs : List ℕ) × IsStarted bound (record w { down = down }) ns qs
    × SessionRun bound (session_with w.newest ns rs) (session_with w.newest ns qs)
started_reports bound w telemetry down ns rs sub kept =
    let put = words_append w.newest.base w.down (Telemetry telemetry ∷ []) rs [] kept.words refl in
    let q = words_sub w.newest.base down (w.down ++ Telemetry telemetry ∷ []) (rs ++ []) sub put in
    let left = subst (λ (l : List ℕ). IsSublist q.0 l) (append-nil rs) q.1 in
    let run = run_of_step bound (session_with w.newest ns rs) (session_with w.newest ns q.0) (loses bound w.newest ns ns rs q.0 (IsSublist-same ns) left) in
    (q.0, flies bound w w.up down ns rs ns q.0 kept.frames kept.leftover q.2 run kept, run)

pub unstarted_reports : (w : Bare) (telemetry : Sent) (down : List Report)
    → IsSublist down (w.down ++ Telemetry telemetry ∷ []) → IsUnstarted w → IsUnstarted (record w { down = down })
unstarted_reports w telemetry down sub kept =
    unstarted_flies w w.farm w.up down kept.up
    (sticks_sub w.newest.base w.farm.vr down (w.down ++ Telemetry telemetry ∷ []) sub
    (sticks_telemetry w.newest.base w.farm.vr telemetry w.down kept.down))
    kept

-- something in flight is lost
pub started_loses : (bound : ℕ) → (w : Bare) (up : List Frame) (down : List Report) (ns rs : List ℕ)
    → IsSublist up w.up → IsSublist down w.down → IsStarted bound w ns rs
    → (ms qs : List ℕ) × IsStarted bound (record w { up = up; down = down }) ms qs
    × SessionRun bound (session_with w.newest ns rs) (session_with w.newest ms qs)
started_loses bound w up down ns rs sub_up sub_down kept =
    let m = frames_sub w.newest.base w.newest.sent up w.up ns sub_up kept.frames in
    let q = words_sub w.newest.base down w.down rs sub_down kept.words in
    let leftover = leftover_sub w.newest.base (length w.newest.accepted) up w.up sub_up kept.leftover in
    let run = run_of_step bound (session_with w.newest ns rs) (session_with w.newest m.0 q.0) (loses bound w.newest ns m.0 rs q.0 m.1 q.1) in
    (m.0, q.0, flies bound w up down ns rs m.0 q.0 m.2 leftover q.2 run kept, run)

pub unstarted_loses : (w : Bare) (up : List Frame) (down : List Report)
    → IsSublist up w.up → IsSublist down w.down → IsUnstarted w → IsUnstarted (record w { up = up; down = down })
unstarted_loses w up down sub_up sub_down kept =
    unstarted_flies w w.farm up down (controls_sub w.newest.base up w.up sub_up kept.up)
    (sticks_sub w.newest.base w.farm.vr down w.down sub_down kept.down) kept

-- the first of the downlink is taken, and others before it are lost: a control word flew for some r
pub started_word_taken : (bound : ℕ) → (w : Bare) (word : ℕ) (lost rest : List Report) (ns rs : List ℕ)
    → w.down ≡ lost ++ Word word ∷ rest → IsStarted bound w ns rs
    → (r : ℕ) × (qs : List ℕ) × (report_value word ≡ (w.newest.base + r) % 256)
    × IsInWindow bound (session_with w.newest ns (r ∷ qs)) × IsStarted bound (record w { down = rest }) ns qs
    × SessionRun bound (session_with w.newest ns rs) (session_with w.newest ns (r ∷ qs))
started_word_taken bound w word lost rest ns rs down kept =
    let base = w.newest.base in
    let b = words_behind base lost (Word word ∷ rest) rs (subst (λ (l : List Report). AreWords base l rs) down kept.words) in
    let f = b.4 in
    let behind = left_behind b.0 (f.0 ∷ f.1) rs (b.2 ∙ ap (λ (l : List ℕ). b.0 ++ l) f.2) in
    let start = session_with w.newest ns rs in
    let middle = session_with w.newest ns (f.0 ∷ f.1) in
    let end = session_with w.newest ns f.1 in
    let first = loses bound w.newest ns ns rs (f.0 ∷ f.1) (IsSublist-same ns) behind in
    let second = loses bound w.newest ns ns (f.0 ∷ f.1) f.1 (IsSublist-same ns) (inl (IsSublist-same f.1)) in
    let run : SessionRun bound start end = (middle ∷ end ∷ [], (first, (second, refl))) in (
      f.0,
      f.1,
      f.3,
      step_keeps_window bound start middle first kept.window,
      flies bound w w.up rest ns rs ns f.1 kept.frames kept.leftover f.4 run kept,
      run_of_step bound start middle first,
    )

pub unstarted_word_taken : (w : Bare) (word : ℕ) (lost rest : List Report)
    → w.down ≡ lost ++ Word word ∷ rest → IsUnstarted w
    → IsUnstarted (record w { down = rest }) × IsFollowed (report_value word) (record w { down = rest })
unstarted_word_taken w word lost rest down kept =
    let s = sticks_behind w.newest.base w.farm.vr lost (Word word ∷ rest) (subst (λ (l : List Report). Sticks w.newest.base w.farm.vr l) down kept.down) in
    (unstarted_flies w w.farm w.up rest kept.up s.1 kept, s.0)
