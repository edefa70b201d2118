-- Which frames are put out, by induction over a list of actions.
use Rattle.std.proofs.Common.{◌≡◌, ℕ, zero, suc, Bool, true, false, if◌then◌else◌, inl, inr, ⊎_elim, Option, Some, None, Ok, List, [], ◌∷◌, ◌++◌, map, drop, refl, sym, ◌∙◌, ap, subst}
use Rattle.std.specs.List.{list_all}
use Rattle.std.proofs.lemmas.Bool.{false≢true}
use Rattle.std.proofs.lemmas.List.{append_assoc, append-nil, map-append}
use Rattle.tc_types.specs.declared.link.frames.Frame.{Frame}
use Rattle.tc_types.specs.declared.link.frames.Frame.TheVariants.{Ad}
use Rattle.tc_farm.specs.declared.clcws.Clcw.{Clcw}
use Rattle.tc_fop.specs.Machine.{Machine, Held, Waiting, Out, Action, Remove, InitiateRetransmission, Resend, Transmit, Alert, SendControl, DropControl, LowerTimer, Wait, Initiate, SetVsAlone, SetVsAndNn, change, said, output, frame_of, flagged, cleared, flagged_of, is_window_open, due_from, transmitted, transmits, option_list}
use Rattle.tc_fop.specs.Rows.{row_of}
use Rattle.tc_fop.specs.Cells.{cell, timer_ended, timer_ended_at_limit}
use Rattle.tc_fop.specs.Calls.{Answers, is_taking, look_in, offered, reported, ticked}
use Rattle.tc_fop.specs.Standing.{IsFop}
use Rattle.tc_fop.specs.Requests.{frames_of, IsAmong, AreAmong}
use Rattle.tc_fop.proofs.RequestLemmas.{is_inner, both}
use Rattle.tc_fop.proofs.TableLemmas.{cell_inner, timer_inner, limit_inner, look_inner, of_tick, of_offer}

abbrev pub Within : List Frame → List Frame → Type 0
Within xs ys = (f : Frame) → IsAmong xs f → IsAmong ys f

among_left : (xs ys : List Frame) → Within xs (xs ++ ys)
among_left [] ys f r = absurd r
among_left (x ∷ xs) ys f r = ⊎_elim (λ e. inl e) (λ q. inr (among_left xs ys f q)) r

among_right : (xs ys : List Frame) → Within ys (xs ++ ys)
among_right [] ys f r = r
among_right (x ∷ xs) ys f r = inr (among_right xs ys f r)

within_append : (xs ys may : List Frame) → Within xs may → Within ys may → Within (xs ++ ys) may
within_append [] ys may h k f r = k f r
within_append (x ∷ xs) ys may h k f r = ⊎_elim (λ e. h f (inl e)) (λ q. within_append xs ys may (λ g p. h g (inr p)) k f q) r

within_same : (xs ys : List Frame) → xs ≡ ys → Within xs ys
within_same xs ys e f r = subst (λ l. IsAmong l f) e r

are_within : (fs xs ys : List Frame) → Within xs ys → AreAmong xs fs → AreAmong ys fs
are_within [] xs ys h r = tt
are_within (f ∷ fs) xs ys h r = (h f r.0, are_within fs xs ys h r.1)

are_append : (may fs gs : List Frame) → AreAmong may fs → AreAmong may gs → AreAmong may (fs ++ gs)
are_append may [] gs r q = q
are_append may (f ∷ fs) gs r q = (r.0, are_append may fs gs r.1 q)

are_of : (fs may : List Frame) → Within fs may → AreAmong may fs
are_of [] may h = tt
are_of (f ∷ fs) may h = (h f (inl refl), are_of fs may (λ g p. h g (inr p)))

-- flags are no part of a frame
pub flagged_frames : (sent : List Held) → map frame_of (map flagged sent) ≡ map frame_of sent
flagged_frames [] = refl
flagged_frames (first ∷ others) = ap (λ l. frame_of first ∷ l) (flagged_frames others)

cleared_frames : (sent : List Held) → map frame_of (map cleared sent) ≡ map frame_of sent
cleared_frames [] = refl
cleared_frames (first ∷ others) = ap (λ l. frame_of first ∷ l) (cleared_frames others)

dropped_frames : (d : ℕ) (sent : List Held) → Within (map frame_of (drop d sent)) (map frame_of sent)
dropped_frames zero sent f r = r
dropped_frames (suc d) [] f r = r
dropped_frames (suc d) (first ∷ others) f r = inr (dropped_frames d others f r)

kept_first : (keep : Bool) (first : Held) (some others : List Held) → Within (map frame_of some) (map frame_of others) → Within (map frame_of (if keep then first ∷ some else some)) (map frame_of (first ∷ others))
kept_first true first some others h f r = ⊎_elim (λ e. inl e) (λ q. inr (h f q)) r
kept_first false first some others h f r = inr (h f r)

kept_frames : (sent : List Held) → Within (map frame_of (flagged_of sent)) (map frame_of sent)
kept_frames [] f r = r
kept_frames (first ∷ others) f r = kept_first first.flagged first (flagged_of others) others (kept_frames others) f r

-- of the parts, one within another
middle : (control sent less waits : List Frame) → Within less sent → Within (control ++ less ++ waits) (control ++ sent ++ waits)
middle control sent less waits h =
    within_append (control ++ less) waits (control ++ sent ++ waits)
    (within_append control less (control ++ sent ++ waits)
    (λ f r. among_left (control ++ sent) waits f (among_left control sent f r))
    (λ f r. among_left (control ++ sent) waits f (among_right control sent f (h f r))))
    (among_right (control ++ sent) waits)

transmit_within : (opened : Bool) (w : Option Waiting) (m : Machine) → m.waiting ≡ w → Within (frames_of (transmitted (due_from opened w) m)) (frames_of m)
transmit_within false w m e f r = r
transmit_within true None m e f r = r
transmit_within true (Some w) m e f r =
    let control = option_list m.control in
    let sent = map frame_of m.sent in
    let one : Held = record { ns = m.vs; request = w.request; body = w.body; flagged = false } in
    let same : frames_of (transmitted (Some w) m) ≡ frames_of m =
    append-nil (control ++ map frame_of (m.sent ++ one ∷ []))
    ∙ ap (λ l. control ++ l) (map-append frame_of m.sent (one ∷ []))
    ∙ sym (append_assoc control sent (frame_of one ∷ []))
    ∙ ap (λ o. control ++ sent ++ map (λ (x : Waiting). Ad m.vs x.request x.body) (option_list o)) (sym e)
    in
    within_same (frames_of (transmitted (Some w) m)) (frames_of m) same f r

step_within : (a : Action) (m : Machine) → is_inner a ≡ true → Within (frames_of (change a m)) (frames_of m)
step_within (Remove d) m h = middle (option_list m.control) (map frame_of m.sent) (map frame_of (drop d m.sent)) (map (λ (w : Waiting). Ad m.vs w.request w.body) (option_list m.waiting)) (dropped_frames d m.sent)
step_within InitiateRetransmission m h = middle (option_list m.control) (map frame_of m.sent) (map frame_of (map flagged m.sent)) (map (λ (w : Waiting). Ad m.vs w.request w.body) (option_list m.waiting)) (within_same (map frame_of (map flagged m.sent)) (map frame_of m.sent) (flagged_frames m.sent))
step_within Resend m h = middle (option_list m.control) (map frame_of m.sent) (map frame_of (map cleared m.sent)) (map (λ (w : Waiting). Ad m.vs w.request w.body) (option_list m.waiting)) (within_same (map frame_of (map cleared m.sent)) (map frame_of m.sent) (cleared_frames m.sent))
step_within Transmit m h = transmit_within (is_window_open m) m.waiting m refl
step_within (Alert kind) m h = λ f r. absurd r
step_within DropControl m h =
    let sent = map frame_of m.sent in
    let waits = map (λ (w : Waiting). Ad m.vs w.request w.body) (option_list m.waiting) in
    within_append sent waits (frames_of m) (λ f r. among_left (option_list m.control ++ sent) waits f (among_right (option_list m.control) sent f r)) (among_right (option_list m.control ++ sent) waits)
step_within (Wait w) m h = absurd (false≢true h)
step_within (Initiate frame) m h = absurd (false≢true h)
step_within (SetVsAlone v) m h = absurd (false≢true h)
step_within (SetVsAndNn v) m h = absurd (false≢true h)
step_within a m h = λ f r. r

transmit_among : (opened : Bool) (w : Option Waiting) (m : Machine) → m.waiting ≡ w → AreAmong (frames_of m) (transmits (due_from opened w) m.vs).frames
transmit_among false w m e = tt
transmit_among true None m e = tt
transmit_among true (Some w) m e =
    let first = option_list m.control ++ map frame_of m.sent in
    let there : IsAmong (first ++ (Ad m.vs w.request w.body ∷ [])) (Ad m.vs w.request w.body) = among_right first (Ad m.vs w.request w.body ∷ []) (Ad m.vs w.request w.body) (inl refl) in
    (subst (λ o. IsAmong (first ++ map (λ (x : Waiting). Ad m.vs x.request x.body) (option_list o)) (Ad m.vs w.request w.body)) (sym e) there, tt)

step_among : (a : Action) (m : Machine) → AreAmong (frames_of m) (said a m).frames
step_among Resend m =
    let sent = map frame_of m.sent in
    let waits = map (λ (w : Waiting). Ad m.vs w.request w.body) (option_list m.waiting) in
    are_of (map frame_of (flagged_of m.sent)) (frames_of m) (λ f r. among_left (option_list m.control ++ sent) waits f (among_right (option_list m.control) sent f (kept_frames m.sent f r)))
step_among Transmit m = transmit_among (is_window_open m) m.waiting m refl
step_among SendControl m =
    let sent = map frame_of m.sent in
    let waits = map (λ (w : Waiting). Ad m.vs w.request w.body) (option_list m.waiting) in
    are_of (option_list m.control) (frames_of m) (λ f r. among_left (option_list m.control ++ sent) waits f (among_left (option_list m.control) sent f r))
step_among a m = tt

run_frames : (todo : List Action) (m : Machine) → list_all is_inner todo ≡ true → AreAmong (frames_of m) (output todo m).frames
run_frames [] m h = tt
run_frames (a ∷ todo) m h =
    let x = both (is_inner a) (list_all is_inner todo) h in
    are_append (frames_of m) (said a m).frames (output todo (change a m)).frames (step_among a m)
    (are_within (output todo (change a m)).frames (frames_of (change a m)) (frames_of m) (step_within a m x.0) (run_frames todo (change a m) x.1))

carried_frames : (todo : List Action) (m new : Machine) (out : Out) → list_all is_inner todo ≡ true → Answers (Ok todo) m new (Ok out) → AreAmong (frames_of m) out.frames
carried_frames todo m new out h e = subst (λ (o : Out). AreAmong (frames_of m) o.frames) (sym e.1) (run_frames todo m h)

pub words_frames : (m : Machine) (word : Option Clcw) (new : Machine) (out : Out) → IsFop m → IsFop new → Answers (reported m word) m new (Ok out) → AreAmong (frames_of m) out.frames
words_frames m word new out h n e = carried_frames (cell (row_of m word) m.state) m new out (cell_inner (row_of m word) m.state) e

pub ticks_frames : (m new : Machine) (out : Out) → IsFop m → IsFop new → Answers (ticked m) m new (Ok out) → AreAmong (frames_of m) out.frames
ticks_frames m new out h n =
    of_tick (λ given. Answers given m new (Ok out) → AreAmong (frames_of m) out.frames) m
    (λ e. carried_frames [] m new out refl e)
    (λ e. carried_frames (LowerTimer ∷ []) m new out refl e)
    (λ e. carried_frames (LowerTimer ∷ timer_ended m.state) m new out (timer_inner m.state) e)
    (λ e. carried_frames (LowerTimer ∷ timer_ended_at_limit m.state) m new out (limit_inner m.state) e)

pub offers_frames : (m : Machine) (w : Waiting) (new : Machine) (out : Out) → IsFop m → IsFop new → Answers (offered m w) m new (Ok out) → AreAmong (frames_of (change (Wait w) m)) out.frames
offers_frames m w new out h n =
    of_offer (λ given. Answers given m new (Ok out) → AreAmong (frames_of (change (Wait w) m)) out.frames) (is_taking m.state) m.waiting (Wait w ∷ look_in m.state) (λ e. absurd e) (λ e. absurd e)
    (λ none e. subst (λ (o : Out). AreAmong (frames_of (change (Wait w) m)) o.frames) (sym e.1) (run_frames (look_in m.state) (change (Wait w) m) (look_inner m.state)))
