-- Where the windows fit, only those alerts come that may.
use Rattle.std.proofs.Common.{◌≡◌, ◌≢◌, ℕ, ◌+◌, ◌/◌, ◌%◌, ◌<◌, ◌≤◌, ◌⊎◌, inl, inr, ⊎_elim, Bool, true, false, if◌then◌else◌, is_some, Option, Some, None, List, [], ◌∷◌, ◌++◌, map, drop, length, refl, sym, ◌∙◌, ap, subst, append-nil, arith}
use Rattle.std.specs.Prelude.{nat_lt, ◌&&◌}
use Rattle.std.specs.List.{flat_map, list_all}
use Rattle.std.proofs.lemmas.List.{length-append}
use Rattle.std.proofs.lemmas.Bool.{false≢true, cases_Bool}
use Rattle.std.proofs.lemmas.Bool.Decides.{nat_tests}
use Rattle.tc_types.specs.declared.link.telecommands.Payload.{Payload}
use Rattle.tc_types.specs.declared.link.frames.Frame.{Frame}
use Rattle.tc_types.specs.declared.link.frames.Frame.TheVariants.{Ad, Unlock, SetVr}
use Rattle.tc_types.specs.declared.link.reports.Report.{Report}
use Rattle.tc_types.specs.declared.link.reports.Report.TheVariants.{Word}
use Rattle.tc_farm.specs.declared.clcws.Clcw.{Clcw}
use Rattle.tc_farm.specs.declared.farms.FarmState.{FarmState}
use Rattle.tc_farm.specs.declared.farms.FarmState.TheVariants as state
use Rattle.tc_farm.specs.declared.farms.FarmView.{FarmView}
use Rattle.tc_farm.specs.Farm.{IsFarm, farm_after, released, with_vr, distance}
use Rattle.tc_fop.specs.declared.signals.FopState.{FopState}
use Rattle.tc_fop.specs.declared.signals.FopState.TheVariants.{Active, RetransmitWithoutWait, RetransmitWithWait, InitialisingWithoutBc, InitialisingWithBc, Initial}
use Rattle.tc_fop.specs.declared.signals.Indication.{Indication as Signal}
use Rattle.tc_fop.specs.declared.signals.Indication.TheVariants as signal
use Rattle.tc_fop.specs.Machine.{Machine, Held, Out, frame_of, option_list}
use Rattle.tc_fop.specs.Calls.{is_taking}
use Rattle.tc_fop.specs.Standing.{is_starting, has_control}
use Rattle.tc_fop.specs.Requests.{acknowledged}
use Rattle.tc_fop.specs.Moves.{MovesIn, Advances, Opens, Rests, first_frame, transmitted_in}
use Rattle.tc_fop.specs.Fair.{alert_by, is_retransmitting, is_checking, may_alert}
use Rattle.tc_world.specs.declared.events.LinkIndication.TheVariants.{Fop}
use Rattle.tc_world.specs.Sublist.{IsSublist, IsSublist-same, IsSublist-behind}
use Rattle.tc_world.specs.Abstraction.{Bare, session_with, report_value}
use Rattle.tc_world.specs.Kept.{Each, AreFrames, AreControls, IsLeftover, IsStarted, IsUnstarted, IsStarting, IsSane, Stands, Starts}
use Rattle.tc_world.specs.Fitting.{IsFitting, half_window}
use Rattle.tc_world.specs.Fair.{is_fair, words_of, is_set, asks, AreOpen, NoControl, IsMarked, IsCalming, IsLevel, IsFair}
use Rattle.tc_world.proofs.Lists.{each_sub, each_append, each_map, sublist_trans}
use Rattle.tc_world.proofs.FrameLists.{frames_behind, leftover_behind, controls_behind}
use Rattle.tc_world.proofs.Moving.{Moving}
use Rattle.tc_world.proofs.Putting.{taking_advances}
use Rattle.tc_world.proofs.OtherSides.{after_frame}
use Rattle.tc_world.proofs.Marking.{words_of_sub, words_of_append, first_sub, has_sub, map_no_control, no_control_both, apart, not_beyond, marked_sub, marked_tell, marked_accept, marked_discard, marked_call, calming_sub, calming_tell, level_sub, level_tell}

-- ---- what is told

and_both : (a b : Bool) → (a && b) ≡ true → (a ≡ true) × (b ≡ true)
and_both true true e = (refl, refl)
and_both true false e = absurd (false≢true e)
and_both false true e = absurd (false≢true e)
and_both false false e = absurd (false≢true e)

pub and_of : (a b : Bool) → a ≡ true → b ≡ true → (a && b) ≡ true
and_of a b e f = ap (λ (x : Bool). x && b) e ∙ ap (λ (x : Bool). true && x) f

-- what is told of the FOP's indications has no other alerts than they
pub told_fairly : (level : Bool) (s : FopState) (is : List Signal) → list_all (may_alert level s) (flat_map alert_by is) ≡ true
    → list_all (is_fair level s) (map Fop is) ≡ true
told_fairly level s [] h = refl
told_fairly level s (signal.Sent n ∷ is) h = told_fairly level s is h
told_fairly level s (signal.Confirmed n ∷ is) h = told_fairly level s is h
told_fairly level s (signal.GivenBack n ∷ is) h = told_fairly level s is h
told_fairly level s (signal.InDoubt n ∷ is) h = told_fairly level s is h
told_fairly level s (signal.Alert kind ∷ is) h =
    let x = and_both (may_alert level s kind) (list_all (may_alert level s) (flat_map alert_by is)) h in
    and_of (may_alert level s kind) (list_all (is_fair level s) (map Fop is)) x.0 (told_fairly level s is x.1)
told_fairly level s (signal.Started ∷ is) h = told_fairly level s is h

-- ---- the states

pub starting_not_taking : (s : FopState) → is_starting s ≡ true → is_taking s ≡ false
starting_not_taking Active e = absurd (false≢true e)
starting_not_taking RetransmitWithoutWait e = absurd (false≢true e)
starting_not_taking RetransmitWithWait e = absurd (false≢true e)
starting_not_taking InitialisingWithoutBc e = refl
starting_not_taking InitialisingWithBc e = refl
starting_not_taking Initial e = absurd (false≢true e)

pub checking_starts : (s : FopState) → is_checking s ≡ true → (is_starting s ≡ true) × (has_control s ≡ false)
checking_starts Active e = absurd (false≢true e)
checking_starts RetransmitWithoutWait e = absurd (false≢true e)
checking_starts RetransmitWithWait e = absurd (false≢true e)
checking_starts InitialisingWithoutBc e = (refl, refl)
checking_starts InitialisingWithBc e = absurd (false≢true e)
checking_starts Initial e = absurd (false≢true e)

pub kinds : (s : FopState) → (is_taking s ≡ true) ⊎ ((is_starting s ≡ true) ⊎ (s ≡ Initial))
kinds Active = inl refl
kinds RetransmitWithoutWait = inl refl
kinds RetransmitWithWait = inl refl
kinds InitialisingWithoutBc = inr (inl refl)
kinds InitialisingWithBc = inr (inl refl)
kinds Initial = inr (inr refl)

pub starting_opens : (s : FopState) (heard : Option Clcw) (old new : Machine) (out : Out) → is_starting s ≡ true → MovesIn s heard old new out → Opens heard old new out
starting_opens Active heard old new out e moves = absurd (false≢true e)
starting_opens RetransmitWithoutWait heard old new out e moves = absurd (false≢true e)
starting_opens RetransmitWithWait heard old new out e moves = absurd (false≢true e)
starting_opens InitialisingWithoutBc heard old new out e moves = moves
starting_opens InitialisingWithBc heard old new out e moves = moves
starting_opens Initial heard old new out e moves = absurd (false≢true e)

starts_none : (base : ℕ) (s : FopState) (m : Machine) → is_taking s ≡ true → Starts base s m → ⊥
starts_none base Active m e starts = starts
starts_none base RetransmitWithoutWait m e starts = starts
starts_none base RetransmitWithWait m e starts = starts
starts_none base InitialisingWithoutBc m e starts = false≢true e
starts_none base InitialisingWithBc m e starts = false≢true e
starts_none base Initial m e starts = false≢true e

pub starting_of : (base : ℕ) (s : FopState) (m : Machine) → is_starting s ≡ true → Starts base s m → IsStarting base m
starting_of base Active m e starts = absurd (false≢true e)
starting_of base RetransmitWithoutWait m e starts = absurd (false≢true e)
starting_of base RetransmitWithWait m e starts = absurd (false≢true e)
starting_of base InitialisingWithoutBc m e starts = starts
starting_of base InitialisingWithBc m e starts = starts
starting_of base Initial m e starts = absurd (false≢true e)

-- ---- the numbers of a session in S1 to S3

pub record Numbers (w : Bare) : Type 0 where
  pub ns : List ℕ
  pub rs : List ℕ
  pub kept : IsStarted (half_window w) w ns rs
  pub stands : Stands w.newest.base (session_with w.newest ns rs) w.fop
  pub half : half_window w ≤ 127
  pub accepted : length w.newest.accepted ≤ length w.newest.sent
  pub confirmed : length w.newest.confirmed ≤ length w.newest.accepted
  pub few : length w.newest.sent ≤ length w.newest.confirmed + 127

numbers_started : (w : Bare) (ns rs : List ℕ) → half_window w ≤ 127 → IsStarted (half_window w) w ns rs → is_taking w.fop.state ≡ true → Numbers w
numbers_started w ns rs small kept taking = record {
  ns = ns;
  rs = rs;
  kept = kept;
  stands = ⊎_elim (λ p. p.1) (λ e. absurd (false≢true (sym (ap is_taking e) ∙ taking))) kept.fop;
  half = small;
  accepted = kept.window.accepted_few;
  confirmed = kept.window.confirmed_few;
  few = omega (arith, kept.window.sent_few, small);
}

numbers_by : (w : Bare) → half_window w ≤ 127 → IsSane (half_window w) w → is_taking w.fop.state ≡ true → Numbers w
numbers_by w small (inl (started, kept)) taking = absurd (starts_none w.newest.base w.fop.state w.fop taking kept.fop)
numbers_by w small (inr (ns, rs, started, kept)) taking = numbers_started w ns rs small kept taking

pub numbers : (w : Bare) → IsFarm w.farm → IsFitting w → is_taking w.fop.state ≡ true → Numbers w
numbers w farm fit taking = numbers_by w (omega (arith, farm.window.2)) fit.sane taking

pub unstarted_by : (bound : ℕ) (w : Bare) → IsSane bound w → is_starting w.fop.state ≡ true → IsUnstarted w
unstarted_by bound w (inl (started, kept)) starting = kept
unstarted_by bound w (inr (ns, rs, started, kept)) starting =
    ⊎_elim
    (λ p. absurd (false≢true (sym (starting_not_taking w.fop.state starting) ∙ p.0)))
    (λ e. absurd (false≢true (sym (ap is_starting e) ∙ starting)))
    kept.fop

-- ---- events that leave the FOP

pub fair_loses : (w : Bare) (up : List Frame) (down : List Report) → IsFair w → IsSublist up w.up → IsSublist (words_of down) (words_of w.down)
    → IsFair (record w { up = up; down = down })
fair_loses w up down h sub_up sub = record {
  open_words = each_sub (λ (x : ℕ). (is_set 13 x ≡ false) × (is_set 12 x ≡ true → asks x ≡ true)) (words_of down) (words_of w.down) sub h.open_words;
  marked = λ t. marked_sub w.fop w.farm w.farm w.up up (words_of w.down) (words_of down) (h.marked t) refl refl sub_up sub;
  calming = λ t. calming_sub w.farm w.farm (words_of w.down) (words_of down) (h.calming t) (λ e. e) sub;
  level = λ t l. level_sub w.fop w.fop w.farm w.farm w.up up (words_of w.down) (words_of down) (h.level t l) refl refl (λ e. e) refl sub_up sub;
}

pub fair_releases : (w : Bare) → IsFair w → IsFair (record w { farm = released w.farm })
fair_releases w h = record {
  open_words = h.open_words;
  marked = λ t. marked_sub w.fop w.farm (released w.farm) w.up w.up (words_of w.down) (words_of w.down) (h.marked t) refl refl (IsSublist-same w.up) (IsSublist-same (words_of w.down));
  calming = λ t. calming_sub w.farm (released w.farm) (words_of w.down) (words_of w.down) (h.calming t) (λ e. e) (IsSublist-same (words_of w.down));
  level = λ t l. level_sub w.fop w.fop w.farm (released w.farm) w.up w.up (words_of w.down) (words_of w.down) (h.level t l) refl refl (λ e. refl) refl (IsSublist-same w.up) (IsSublist-same (words_of w.down));
}

-- the FARM's word is put behind
fair_put : (w : Bare) (word : ℕ) → IsFair w → IsFarm w.farm → w.farm.lockout ≡ false → report_value word ≡ w.farm.vr → is_set 13 word ≡ w.farm.lockout
    → is_set 12 word ≡ w.farm.wait → asks word ≡ w.farm.retransmit → IsFair (record w { down = w.down ++ Word word ∷ [] })
fair_put w word h farm open_farm value locks waits flag =
    let more : words_of w.down ++ word ∷ [] ≡ words_of (w.down ++ Word word ∷ []) = sym (words_of_append w.down (Word word ∷ [])) in
    record {
      open_words = subst (λ (l : List ℕ). AreOpen l) more
          (each_append (λ (x : ℕ). (is_set 13 x ≡ false) × (is_set 12 x ≡ true → asks x ≡ true)) (words_of w.down) (word ∷ []) h.open_words
          ((locks ∙ open_farm, λ e. flag ∙ farm.wait_implies_retransmit (sym waits ∙ e)), tt));
      marked = λ t. subst (λ (l : List ℕ). IsMarked w.fop w.farm w.up l) more (marked_tell w.fop w.farm w.up (words_of w.down) word (h.marked t) value flag);
      calming = λ t. subst (λ (l : List ℕ). IsCalming w.farm l) more (calming_tell w.farm (words_of w.down) word (h.calming t) flag);
      level = λ t l. subst (λ (ws : List ℕ). IsLevel w.fop w.farm w.up ws) more (level_tell w.fop w.farm w.up (words_of w.down) word (h.level t l) value waits flag);
    }

pub fair_tells : (w : Bare) (word : ℕ) (down : List Report) → IsFair w → IsFarm w.farm → w.farm.lockout ≡ false → report_value word ≡ w.farm.vr → is_set 13 word ≡ w.farm.lockout
    → is_set 12 word ≡ w.farm.wait → asks word ≡ w.farm.retransmit → IsSublist down (w.down ++ Word word ∷ []) → IsFair (record w { down = down })
fair_tells w word down h farm open_farm value locks waits flag sub =
    fair_loses (record w { down = w.down ++ Word word ∷ [] }) w.up down (fair_put w word h farm open_farm value locks waits flag)
    (IsSublist-same w.up) (words_of_sub down (w.down ++ Word word ∷ []) sub)

-- ---- a frame at the FARM

-- what the table says of Retransmit at a type-AD frame
abbrev pub AsksAhead : Type 0
AsksAhead = (farm : FarmView) (ns request : ℕ) (body : Payload) (free_buffer : Bool) → IsFarm farm
    → (((farm_after farm (Ad ns request body) free_buffer).vr ≡ (farm.vr + 1) % 256) × ((farm_after farm (Ad ns request body) free_buffer).retransmit ≡ false))
    ⊎ (((farm_after farm (Ad ns request body) free_buffer).vr ≡ farm.vr)
    × ((farm_after farm (Ad ns request body) free_buffer).retransmit ≡ true → (farm.retransmit ≡ true) ⊎ (distance ns farm.vr < farm.window / 2))
    × (farm.retransmit ≡ true → (farm_after farm (Ad ns request body) free_buffer).retransmit ≡ true))

-- a frame ahead in the window was sent and not accepted: more were sent
ahead_sent : (base n accepted sent confirmed half number vr vs : ℕ) → number ≡ (base + n) % 256 → vr ≡ (base + accepted) % 256 → vs ≡ (base + sent) % 256
    → half ≤ 127 → accepted ≤ n + half → n < sent → sent ≤ confirmed + half → confirmed ≤ accepted → distance number vr < half → vr ≢ vs
ahead_sent base n accepted sent confirmed half number vr vs e f g few low high wide order near =
    let after : accepted ≤ n = omega (arith, e, f, few, low, high, wide, order, near) in
    λ same. absurd (omega (arith, f, g, few, after, high, wide, order, same))

ad_marked : AsksAhead → (w : Bare) (number request : ℕ) (body : Payload) (room : Bool) (lost rest : List Frame) → w.up ≡ lost ++ Ad number request body ∷ rest
    → IsFarm w.farm → Numbers w → IsMarked w.fop w.farm w.up (words_of w.down)
    → IsMarked w.fop (farm_after w.farm (Ad number request body) room) rest (words_of w.down)
ad_marked law w number request body room lost rest up farm n h =
    let base = w.newest.base in
    let frame : Frame = Ad number request body in
    let half = half_window w in
    let new = farm_after w.farm frame room in
    let none : NoControl rest =
    first_sub (frame ∷ rest) w.up (subst (λ (l : List Frame). IsSublist (frame ∷ rest) l) (sym up) (IsSublist-behind lost (frame ∷ rest))) h.first in
    let b = frames_behind base w.newest.sent lost (frame ∷ rest) n.ns (subst (λ (l : List Frame). AreFrames base w.newest.sent l n.ns) up n.kept.frames) in
    let f = b.4 in
    let sub = subst (λ (l : List ℕ). IsSublist (f.0 ∷ f.1) l) (sym (b.2 ∙ ap (λ (l : List ℕ). b.0 ++ l) f.2)) (IsSublist-behind b.0 (f.0 ∷ f.1)) in
    let low = (each_sub (λ (k : ℕ). length w.newest.accepted ≤ k + half) (f.0 ∷ f.1) n.ns sub n.kept.window.up_low).0 in
    let high = (each_sub (λ (k : ℕ). k < length w.newest.sent) (f.0 ∷ f.1) n.ns sub n.kept.window.up_high).0 in
    ⊎_elim
    (λ accepts.
    let next : new.vr ≡ (base + (length w.newest.accepted + 1)) % 256 = omega (arith, accepts.0, n.kept.vr) in
    marked_accept w.fop w.farm new w.up rest (words_of w.down) h accepts.1
    (each_map (λ (x : ℕ). report_value x ≢ (base + (length w.newest.accepted + 1)) % 256) (λ (x : ℕ). report_value x ≢ new.vr) (words_of w.down) (λ x g e. g (e ∙ next))
    (not_beyond base (length w.newest.confirmed) (length w.newest.accepted + 1) w.down n.rs n.kept.words n.kept.window.down_low
    (each_map (λ (r : ℕ). r ≤ length w.newest.accepted) (λ (r : ℕ). r < length w.newest.accepted + 1) n.rs (λ r g. omega (arith, g)) n.kept.window.down_high)
    (omega (arith, n.accepted, n.few))))
    (λ e. apart base (length w.newest.confirmed) (length w.newest.confirmed) (length w.newest.accepted + 1) (omega arith) (omega (arith, n.confirmed)) (omega (arith, n.accepted, n.few))
    (sym n.stands.nn ∙ sym e ∙ next))
    none)
    (λ discards.
    marked_discard w.fop w.farm new w.up rest (words_of w.down) h discards.0 discards.2
    (λ a. ⊎_elim (λ old. inl old)
    (λ near. inr (ahead_sent base f.0 (length w.newest.accepted) (length w.newest.sent) (length w.newest.confirmed) half number w.farm.vr w.fop.vs f.3 n.kept.vr n.stands.vs n.half low high n.kept.window.sent_few n.confirmed near))
    (discards.1 a))
    none)
    (law w.farm number request body room farm)

-- a Set V(R) to V(R), while nothing asks
set_vr_same : (v : ℕ) (s : FarmState) (farm : FarmView) → v ≡ farm.vr → farm.retransmit ≡ false
    → ((with_vr v s farm).vr ≡ farm.vr) × ((with_vr v s farm).retransmit ≡ farm.retransmit)
set_vr_same v state.Open farm e calm = (e, sym calm)
set_vr_same v state.Wait farm e calm = (e, sym calm)
set_vr_same v state.Lockout farm e calm = (refl, refl)

set_vr_calm : (v : ℕ) (s : FarmState) (farm : FarmView) → farm.retransmit ≡ false → (with_vr v s farm).retransmit ≡ false
set_vr_calm v state.Open farm e = refl
set_vr_calm v state.Wait farm e = refl
set_vr_calm v state.Lockout farm e = e

board_marked : AsksAhead → (w : Bare) (frame : Frame) (room : Bool) (lost rest : List Frame) → w.up ≡ lost ++ frame ∷ rest
    → IsFarm w.farm → Numbers w → IsMarked w.fop w.farm w.up (words_of w.down)
    → IsMarked w.fop (farm_after w.farm frame room) rest (words_of w.down)
board_marked law w (Ad number request body) room lost rest up farm n h = ad_marked law w number request body room lost rest up farm n h
board_marked law w Unlock room lost rest up farm n h =
    let behind = subst (λ (l : List Frame). IsSublist (Unlock ∷ rest) l) (sym up) (IsSublist-behind lost (Unlock ∷ rest)) in
    let q = h.quiet (has_sub (Unlock ∷ rest) w.up behind refl) in
    marked_sub w.fop w.farm (farm_after w.farm Unlock room) w.up rest (words_of w.down) (words_of w.down) h refl (sym q.1)
    (sublist_trans rest (Unlock ∷ rest) w.up (inl (IsSublist-same rest)) behind) (IsSublist-same (words_of w.down))
board_marked law w (SetVr v) room lost rest up farm n h =
    let base = w.newest.base in
    let behind = subst (λ (l : List Frame). IsSublist (SetVr v ∷ rest) l) (sym up) (IsSublist-behind lost (SetVr v ∷ rest)) in
    let q = h.quiet (has_sub (SetVr v ∷ rest) w.up behind refl) in
    let left = leftover_behind base (length w.newest.accepted) lost (SetVr v ∷ rest)
    (subst (λ (l : List Frame). IsLeftover base (length w.newest.accepted) l) up n.kept.leftover) in
    let same : v ≡ w.farm.vr = omega (arith, left.0, left.1, n.kept.vr, n.kept.base) in
    let set = set_vr_same v w.farm.state w.farm same q.1 in
    marked_sub w.fop w.farm (farm_after w.farm (SetVr v) room) w.up rest (words_of w.down) (words_of w.down) h set.0 set.1
    (sublist_trans rest (SetVr v ∷ rest) w.up (inl (IsSublist-same rest)) behind) (IsSublist-same (words_of w.down))

board_calm : (w : Bare) (frame : Frame) (room : Bool) (lost rest : List Frame) → w.up ≡ lost ++ frame ∷ rest → IsUnstarted w
    → w.farm.retransmit ≡ false → (farm_after w.farm frame room).retransmit ≡ false
board_calm w (Ad number request body) room lost rest up kept calm =
    absurd (controls_behind w.newest.base lost (Ad number request body ∷ rest) (subst (λ (l : List Frame). AreControls w.newest.base l) up kept.up))
board_calm w Unlock room lost rest up kept calm = refl
board_calm w (SetVr v) room lost rest up kept calm = set_vr_calm v w.farm.state w.farm calm

no_front : (lost rest : List Frame) (frame : Frame) → lost ++ frame ∷ rest ≡ [] → ⊥
no_front [] rest frame e = cc
no_front (x ∷ lost) rest frame e = cc

pub fair_boards : AsksAhead → (w : Bare) (frame : Frame) (room : Bool) (lost rest : List Frame) → w.up ≡ lost ++ frame ∷ rest
    → IsFarm w.farm → IsFitting w → IsFair w → IsFair (after_frame w frame room rest)
fair_boards law w frame room lost rest up farm fit h = record {
  open_words = h.open_words;
  marked = λ t. board_marked law w frame room lost rest up farm (numbers w farm fit t) (h.marked t);
  calming = λ t. calming_sub w.farm (farm_after w.farm frame room) (words_of w.down) (words_of w.down) (h.calming t)
      (board_calm w frame room lost rest up (unstarted_by (half_window w) w fit.sane t)) (IsSublist-same (words_of w.down));
  level = λ t l. absurd (no_front lost rest frame (sym up ∙ (h.level t l).nothing_up));
}

-- ---- a call of the FOP

again_plain : (again : Bool) (queue : List Held) → NoControl (if again then map frame_of queue else [])
again_plain true queue = map_no_control frame_of (λ held. tt) queue
again_plain false queue = tt

plain : (acknowledged : ℕ) (old new : Machine) (out : Out) → Advances acknowledged old new out → NoControl out.frames
plain acknowledged old new out a =
    subst (λ (fs : List Frame). NoControl fs) (sym a.frames)
    (no_control_both (if a.again then map frame_of (drop a.confirmed old.sent) else []) (map (first_frame old.vs) (option_list a.fresh))
    (again_plain a.again (drop a.confirmed old.sent)) (map_no_control (first_frame old.vs) (λ waiting. tt) (option_list a.fresh)))

-- the session after a call: as many accepted, and no fewer sent
pub record Grows (w v : Bare) : Type 0 where
  pub base : v.newest.base ≡ w.newest.base
  pub accepted : length v.newest.accepted ≡ length w.newest.accepted
  pub sent : length w.newest.sent ≤ length v.newest.sent
  pub farm : v.farm ≡ w.farm

below_call : (w v : Bare) → Numbers w → Numbers v → Grows w v → Each (λ (x : ℕ). asks x ≡ true → report_value x ≢ w.fop.vs) (words_of v.down)
    → (w.farm.retransmit ≡ true → w.farm.vr ≢ w.fop.vs)
    → Each (λ (x : ℕ). asks x ≡ true → report_value x ≢ v.fop.vs) (words_of v.down) × (w.farm.retransmit ≡ true → w.farm.vr ≢ v.fop.vs)
below_call w v nw nv g old old_farm =
    let s = length w.newest.sent in
    let t = length v.newest.sent in
    let r = length v.newest.accepted in
    let base = v.newest.base in
    let vr : v.farm.vr ≡ w.farm.vr = ap (λ (x : FarmView). x.vr) g.farm in
    elim (cases_Bool (nat_lt s t)) [
      | inl more ↦
          let far : s < t = grind (arith, nat_tests, more) in
          let within : r < t = omega (arith, far, g.accepted, nw.accepted) in (
            each_map (λ (x : ℕ). report_value x ≢ (base + t) % 256) (λ (x : ℕ). asks x ≡ true → report_value x ≢ v.fop.vs) (words_of v.down)
                (λ x f a e. f (e ∙ nv.stands.vs))
                (not_beyond base (length v.newest.confirmed) t v.down nv.rs nv.kept.words nv.kept.window.down_low
                (each_map (λ (q : ℕ). q ≤ r) (λ (q : ℕ). q < t) nv.rs (λ q f. omega (arith, f, within)) nv.kept.window.down_high)
                (omega (arith, nv.few))),
            (λ a e. apart base (length v.newest.confirmed) r t nv.confirmed within (omega (arith, nv.few)) (sym nv.kept.vr ∙ vr ∙ e ∙ nv.stands.vs)),
          )
      | inr same ↦
          let not_more : t ≤ s = grind (arith, nat_tests, same) in
          let stays : t ≡ s = omega (arith, not_more, g.sent) in
          let vs : v.fop.vs ≡ w.fop.vs = nv.stands.vs ∙ ap (λ (k : ℕ). (base + k) % 256) stays ∙ ap (λ (k : ℕ). (k + s) % 256) g.base ∙ sym nw.stands.vs in (
            each_map (λ (x : ℕ). asks x ≡ true → report_value x ≢ w.fop.vs) (λ (x : ℕ). asks x ≡ true → report_value x ≢ v.fop.vs) (words_of v.down) (λ x f a e. f a (e ∙ vs)) old,
            (λ a e. old_farm a (e ∙ vs)),
          )
    ]

-- in S1 to S3 before and after
pub taking_call : (bound : ℕ) (heard : Option Clcw) (w v : Bare) (left : List Report) (out : Out) → Moving bound heard (record w { down = left }) v out
    → IsSublist (words_of left) (words_of w.down) → Numbers w → Numbers v → IsMarked w.fop w.farm w.up (words_of w.down) → is_taking w.fop.state ≡ true
    → (is_retransmitting v.fop.state ≡ true → Each (λ (x : ℕ). report_value x ≡ v.fop.nn → asks x ≡ true) (words_of left) × (w.farm.vr ≡ v.fop.nn → w.farm.retransmit ≡ true))
    → IsMarked v.fop w.farm v.up (words_of left)
taking_call bound heard w v left out moving sub nw nv h taking asked =
    let here = marked_sub w.fop w.farm w.farm w.up w.up (words_of w.down) (words_of left) h refl refl (IsSublist-same w.up) sub in
    let down : v.down ≡ left = ap (λ (x : Bare). x.down) moving.whole in
    let grows : Grows w v = record {
      base = ap (λ (x : Bare). x.newest.base) moving.whole;
      accepted = ap (λ (x : Bare). length x.newest.accepted) moving.whole;
      sent = let more : length v.newest.sent ≡ length w.newest.sent + length (transmitted_in out) = ap (λ (x : Bare). length x.newest.sent) moving.whole ∙ length-append w.newest.sent (transmitted_in out) in
          omega (arith, more);
      farm = ap (λ (x : Bare). x.farm) moving.whole;
    } in
    let below = below_call w v nw nv grows
    (subst (λ (l : List Report). Each (λ (x : ℕ). asks x ≡ true → report_value x ≢ w.fop.vs) (words_of l)) (sym down) here.below) here.below_farm in
    marked_call w.fop v.fop w.farm w.up v.up out.frames (words_of left) here
    (subst (λ (l : List Report). Each (λ (x : ℕ). asks x ≡ true → report_value x ≢ v.fop.vs) (words_of l)) down below.0)
    below.1 asked
    (plain (acknowledged w.fop heard) w.fop v.fop out (taking_advances w.fop.state heard w.fop v.fop out taking moving.moves))
    moving.up

none_of : (control : Option Frame) → is_some control ≡ false → option_list control ≡ []
none_of None e = refl
none_of (Some frame) e = absurd (let no : true ≡ false = e in cc)

-- from S1 to S3 a call leads to none of S4 and S5, nor from S6
not_starting : (heard : Option Clcw) (old new : Machine) (out : Out) → MovesIn old.state heard old new out → is_starting new.state ≡ true → is_starting old.state ≡ true
not_starting heard old new out moves starting =
    ⊎_elim
    (λ taking. let a = taking_advances old.state heard old new out taking moves in
    absurd (false≢true (sym (ap is_starting (a.stops (starting_not_taking new.state starting)).0) ∙ starting)))
    (λ other. ⊎_elim (λ there. there)
    (λ initial. let rests : Rests old new out = subst (λ (s : FopState). MovesIn s heard old new out) initial moves in
    absurd (false≢true (sym (ap is_starting rests.state) ∙ starting)))
    other)
    (kinds old.state)

pub fair_call : (bound : ℕ) (heard : Option Clcw) (w v : Bare) (left : List Report) (out : Out) → Moving bound heard (record w { down = left }) v out
    → IsSublist (words_of left) (words_of w.down) → IsFair w
    → (is_taking w.fop.state ≡ true → is_taking v.fop.state ≡ true → IsMarked v.fop w.farm v.up (words_of left))
    → (is_starting w.fop.state ≡ true → is_taking v.fop.state ≡ true → IsMarked v.fop w.farm v.up (words_of left))
    → IsFair v
fair_call bound heard w v left out moving sub h goes_on begins =
    subst (λ (x : Bare). IsFair x) (sym moving.whole) (record {
      open_words = each_sub (λ (x : ℕ). (is_set 13 x ≡ false) × (is_set 12 x ≡ true → asks x ≡ true)) (words_of left) (words_of w.down) sub h.open_words;
      marked = λ t. ⊎_elim (λ taking. goes_on taking t)
          (λ other. ⊎_elim (λ starting. begins starting t)
          (λ initial. let rests : Rests w.fop v.fop out = subst (λ (s : FopState). MovesIn s heard w.fop v.fop out) initial moving.moves in
          absurd (false≢true (sym (ap is_taking rests.state) ∙ t)))
          other)
          (kinds w.fop.state);
      calming = λ t. calming_sub w.farm w.farm (words_of w.down) (words_of left) (h.calming (not_starting heard w.fop v.fop out moving.moves t)) (λ e. e) sub;
      level = λ t l.
          let starts = (checking_starts v.fop.state t).0 in
          let was = not_starting heard w.fop v.fop out moving.moves starts in
          let opens = starting_opens w.fop.state heard w.fop v.fop out was moving.moves in
          let on = opens.goes_on starts in
          let checking : is_checking w.fop.state ≡ true = sym (ap is_checking on.state) ∙ t in
          let no_control = none_of w.fop.control (moving.old_fop.control ∙ (checking_starts w.fop.state checking).1) in
          let silent : out.frames ≡ [] = ⊎_elim (λ e. e) (λ e. e ∙ no_control) opens.frames in
          let up : IsSublist v.up w.up = subst (λ (fs : List Frame). IsSublist v.up fs) (ap (λ (fs : List Frame). w.up ++ fs) silent ∙ append-nil w.up) moving.up in
          level_sub w.fop v.fop w.farm w.farm w.up v.up (words_of w.down) (words_of left) (h.level checking l) on.vs refl (λ e. e) refl up sub;
    })
