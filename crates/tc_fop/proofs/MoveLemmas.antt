-- In S1 to S3: what a list of actions confirms, sends again and sends for the first time, for each kind of list that the
-- table has there.
use Rattle.std.proofs.Common.{◌≡◌, ℕ, zero, suc, ◌+◌, ◌-◌, ◌%◌, ◌<◌, ◌≤◌, Bool, true, false, if◌then◌else◌, is_some, ◌⊎◌, inl, Option, Some, None, List, [], ◌∷◌, ◌++◌, map, take, drop, length, refl, sym, ◌∙◌, ap, subst, arith}
use Rattle.std.specs.List.{flat_map}
use Rattle.std.proofs.lemmas.Bool.{true≢false, false≢true}
use Rattle.std.proofs.lemmas.Bool.Decides.{nat_tests}
use Rattle.std.proofs.lemmas.Grind.{flat_map-append}
use Rattle.std.proofs.lemmas.List.{append-nil, length-drop, map-append, drop-map, take-map}
use Rattle.tc_fop.specs.declared.signals.AlertKind.{AlertKind}
use Rattle.tc_fop.specs.declared.signals.FopState.TheVariants.{Initial}
use Rattle.tc_fop.specs.declared.signals.Indication.{Indication}
use Rattle.tc_fop.specs.declared.signals.Indication.TheVariants as indication
use Rattle.tc_fop.specs.Machine.{Machine, Held, Waiting, Out, Resend, Alert, joined, frame_of, flagged, flagged_of, change, after, output, is_window_open, due_from, due, transmitted, transmits, option_list, given_back}
use Rattle.tc_fop.specs.Cells.{look}
use Rattle.tc_fop.specs.Calls.{is_taking}
use Rattle.tc_fop.specs.Standing.{IsFop}
use Rattle.tc_fop.specs.Requests.{sent_requests, confirms}
use Rattle.tc_fop.specs.Moves.{transmitted_by, is_start, first_frame, GoesOn, Advances}
use Rattle.tc_fop.proofs.RequestLemmas.{confirmed_confirm, flagged_requests, cleared_requests}
use Rattle.tc_fop.proofs.FrameLemmas.{flagged_frames}

abbrev pub start_of : Indication → List Indication
start_of i = if is_start i then i ∷ [] else []

-- indications that each give nothing give nothing
pub silent_map : {X Y : Type 0} (f : Indication → List Y) (g : X → Indication) → ((x : X) → f (g x) ≡ []) → (xs : List X) → flat_map f (map g xs) ≡ []
silent_map f g h [] = refl
silent_map f g h (x ∷ xs) = ap (λ l. l ++ flat_map f (map g xs)) (h x) ∙ silent_map f g h xs

pub silent_append : {Y : Type 0} (f : Indication → List Y) (is js : List Indication) → flat_map f is ≡ [] → flat_map f js ≡ [] → flat_map f (is ++ js) ≡ []
silent_append f is js h k = flat_map-append f is js ∙ ap (λ l. l ++ flat_map f js) h ∙ k

-- an alert's indications give nothing, where none of their kinds does
pub silent_alert : {Y : Type 0} (f : Indication → List Y) → ((n : ℕ) → f (indication.InDoubt n) ≡ []) → ((n : ℕ) → f (indication.GivenBack n) ≡ []) → (kind : AlertKind) → f (indication.Alert kind) ≡ [] → (m : Machine) → flat_map f (given_back kind m) ≡ []
silent_alert f doubts backs kind last m =
    let doubted = map (λ (held : Held). indication.InDoubt held.request) m.sent in
    let back = map (λ (w : Waiting). indication.GivenBack w.request) (option_list m.waiting) in
    silent_append f (doubted ++ back) (indication.Alert kind ∷ [])
    (silent_append f doubted back (silent_map f (λ (held : Held). indication.InDoubt held.request) (λ (held : Held). doubts held.request) m.sent) (silent_map f (λ (w : Waiting). indication.GivenBack w.request) (λ (w : Waiting). backs w.request) (option_list m.waiting)))
    (ap (λ l. l ++ []) last)

-- so many confirmed from the front
abbrev pub front_of : ℕ → Machine → List Indication
front_of d m = map (λ (held : Held). indication.Confirmed held.request) (take d m.sent)

front_silent : {Y : Type 0} (f : Indication → List Y) → ((n : ℕ) → f (indication.Confirmed n) ≡ []) → (d : ℕ) (m : Machine) → flat_map f (front_of d m) ≡ []
front_silent f h d m = silent_map f (λ (held : Held). indication.Confirmed held.request) (λ (held : Held). h held.request) (take d m.sent)

-- what the front and then these others give
front_first : {Y : Type 0} (f : Indication → List Y) → ((n : ℕ) → f (indication.Confirmed n) ≡ []) → (d : ℕ) (m : Machine) (is : List Indication) → flat_map f (front_of d m ++ is) ≡ flat_map f is
front_first f h d m is = flat_map-append f (front_of d m) is ∙ ap (λ l. l ++ flat_map f is) (front_silent f h d m)

front_confirms : (d : ℕ) (m : Machine) (is : List Indication) → flat_map confirms is ≡ [] → flat_map confirms (front_of d m ++ is) ≡ take d (sent_requests m)
front_confirms d m is h =
    let mine = map (λ (held : Held). held.request) (take d m.sent) in
    flat_map-append confirms (front_of d m) is
    ∙ ap (λ l. l ++ flat_map confirms is) (confirmed_confirm (take d m.sent))
    ∙ ap (λ l. mine ++ l) h
    ∙ append-nil mine
    ∙ sym (take-map (λ (held : Held). held.request) d m.sent)

-- a transmission tells its request to be sent
fresh_confirms : (fresh : Option Waiting) (vs : ℕ) → flat_map confirms (transmits fresh vs).indications ≡ []
fresh_confirms None vs = refl
fresh_confirms (Some w) vs = refl

fresh_transmits : (fresh : Option Waiting) (vs : ℕ) → flat_map transmitted_by (transmits fresh vs).indications ≡ map (λ (w : Waiting). w.request) (option_list fresh)
fresh_transmits None vs = refl
fresh_transmits (Some w) vs = refl

fresh_starts : (fresh : Option Waiting) (vs : ℕ) → flat_map start_of (transmits fresh vs).indications ≡ []
fresh_starts None vs = refl
fresh_starts (Some w) vs = refl

fresh_frames : (fresh : Option Waiting) (vs : ℕ) → (transmits fresh vs).frames ≡ map (first_frame vs) (option_list fresh)
fresh_frames None vs = refl
fresh_frames (Some w) vs = refl

-- the machine before the transmission: so many were removed
pub record Remains (d : ℕ) (m x : Machine) : Type 0 where
  pub vs : x.vs ≡ m.vs
  pub nn : x.nn ≡ (m.nn + d) % 256
  pub sent : sent_requests x ≡ drop d (sent_requests m)
  pub taking : is_taking x.state ≡ true

-- and after it
fresh_on : (d : ℕ) (fresh : Option Waiting) (m x : Machine) → m.vs < 256 → Remains d m x → GoesOn d fresh m (transmitted fresh x)
fresh_on d None m x small r = record {
  nn = r.nn;
  vs = r.vs ∙ (let same : m.vs ≡ (m.vs + 0) % 256 = omega (arith, small) in same);
  sent = r.sent ∙ sym (append-nil (drop d (sent_requests m)));
}
fresh_on d (Some w) m x small r =
    let one : Held = record { ns = x.vs; request = w.request; body = w.body; flagged = false } in
    record {
      nn = r.nn;
      vs = ap (λ v. (v + 1) % 256) r.vs;
      sent = map-append (λ (held : Held). held.request) x.sent (one ∷ []) ∙ ap (λ l. l ++ w.request ∷ []) r.sent;
    }

fresh_state : (fresh : Option Waiting) (x : Machine) → (transmitted fresh x).state ≡ x.state
fresh_state None x = refl
fresh_state (Some w) x = refl

-- which are confirmed: none, or as many as the report value acknowledges
pub record Confirmable (most d : ℕ) (m : Machine) : Type 0 where
  pub few : d ≤ length m.sent
  pub which : (d ≡ 0) ⊎ (d ≡ most)

pub none_confirmable : (most : ℕ) (m : Machine) → Confirmable most 0 m
none_confirmable most m = record { few = omega arith; which = inl refl }

advance : (most d : ℕ) (again : Bool) (fresh : Option Waiting) (m x new : Machine) (out : Out)
    → Confirmable most d m → m.vs < 256 → Remains d m x → (is_some fresh ≡ true → length (drop d m.sent) < m.k)
    → new ≡ transmitted fresh x
    → out.frames ≡ (if again then map frame_of (drop d m.sent) else []) ++ (transmits fresh m.vs).frames
    → out.indications ≡ front_of d m ++ (transmits fresh m.vs).indications
    → Advances most m new out
advance most d again fresh m x new out which small r few_out e f i =
    let indicated = (transmits fresh m.vs).indications in
    let taking : is_taking new.state ≡ true =
    ap (λ (n : Machine). is_taking n.state) e ∙ ap (λ s. is_taking s) (fresh_state fresh x) ∙ r.taking
    in
    record {
      confirmed = d;
      again = again;
      fresh = fresh;
      few = which.few;
      which = which.which;
      confirms = ap (λ l. flat_map confirms l) i ∙ front_confirms d m indicated (fresh_confirms fresh m.vs);
      transmits = ap (λ l. flat_map transmitted_by l) i ∙ front_first transmitted_by (λ n. refl) d m indicated ∙ fresh_transmits fresh m.vs;
      frames = f ∙ ap (λ l. (if again then map frame_of (drop d m.sent) else []) ++ l) (fresh_frames fresh m.vs);
      few_out = few_out;
      no_start = ap (λ l. flat_map start_of l) i ∙ front_first start_of (λ n. refl) d m indicated ∙ fresh_starts fresh m.vs;
      goes_on = λ t. subst (λ n. GoesOn d fresh m n) (sym e) (fresh_on d fresh m x small r);
      stops = λ t. absurd (true≢false (sym taking ∙ t));
    }

-- flagged whole, the queue is sent again whole
flagged_all : (sent : List Held) → flagged_of (map flagged sent) ≡ map flagged sent
flagged_all [] = refl
flagged_all (first ∷ others) = ap (λ l. flagged first ∷ l) (flagged_all others)

unflagged_tail : (flag : Bool) (first : Held) (others : List Held) → (if flag then first ∷ others else others) ≡ [] → others ≡ []
unflagged_tail true first others h = cc
unflagged_tail false first others h = h

-- with no flag in the queue, none stands behind its front
unflagged_rest : (d : ℕ) (sent : List Held) → flagged_of sent ≡ [] → flagged_of (drop d sent) ≡ []
unflagged_rest zero sent h = h
unflagged_rest (suc d) [] h = refl
unflagged_rest (suc d) (first ∷ others) h = unflagged_rest d others (unflagged_tail first.flagged first (flagged_of others) h)

-- so many were removed
pub removed_remains : (d : ℕ) (m x : Machine) → x.vs ≡ m.vs → x.nn ≡ (m.nn + d) % 256 → x.sent ≡ drop d m.sent → is_taking x.state ≡ true → Remains d m x
removed_remains d m x vs nn sent taking = record {
  vs = vs;
  nn = nn;
  sent = ap (λ l. map (λ (held : Held). held.request) l) sent ∙ sym (drop-map (λ (held : Held). held.request) d m.sent);
  taking = taking;
}

-- the machine before the look: the rest of the queue is flagged, or nothing is
pub record Looks (d : ℕ) (again : Bool) (m y : Machine) : Type 0 where
  pub remains : Remains d m y
  pub k : y.k ≡ m.k
  pub frames : map frame_of (flagged_of y.sent) ≡ (if again then map frame_of (drop d m.sent) else [])

-- so many were removed, and none is flagged
pub removed_looks : (d : ℕ) (m y : Machine) → IsFop m → y.vs ≡ m.vs → y.nn ≡ (m.nn + d) % 256 → y.k ≡ m.k → y.sent ≡ drop d m.sent → is_taking y.state ≡ true → Looks d false m y
removed_looks d m y h vs nn k sent taking = record {
  remains = removed_remains d m y vs nn sent taking;
  k = k;
  frames = ap (λ l. map frame_of (flagged_of l)) sent ∙ ap (λ l. map frame_of l) (unflagged_rest d m.sent h.no_flag);
}

-- so many were removed, and the others are flagged
pub flagged_looks : (d : ℕ) (m y : Machine) → y.vs ≡ m.vs → y.nn ≡ (m.nn + d) % 256 → y.k ≡ m.k → y.sent ≡ map flagged (drop d m.sent) → is_taking y.state ≡ true → Looks d true m y
flagged_looks d m y vs nn k sent taking = record {
  remains = record {
    vs = vs;
    nn = nn;
    sent = ap (λ l. map (λ (held : Held). held.request) l) sent ∙ flagged_requests (drop d m.sent) ∙ sym (drop-map (λ (held : Held). held.request) d m.sent);
    taking = taking;
  };
  k = k;
  frames = ap (λ l. map frame_of (flagged_of l)) sent ∙ ap (λ l. map frame_of l) (flagged_all (drop d m.sent)) ∙ flagged_frames (drop d m.sent);
}

-- where a request is due, the window is open, so that fewer than K are out
ready_room : (opened : Bool) (w : Option Waiting) (out k : ℕ) → (opened ≡ true → out < k) → is_some (due_from opened w) ≡ true → out < k
ready_room true w out k h e = h refl
ready_room false w out k h e = absurd (false≢true e)

open_room : (d : ℕ) (again : Bool) (m y : Machine) → IsFop m → is_taking m.state ≡ true → d ≤ length m.sent → Looks d again m y → is_window_open y ≡ true → length (drop d m.sent) < y.k
open_room d again m y h t few l o =
    let next : m.vs ≡ (m.nn + length m.sent) % 256 = h.next t in
    let most : length m.sent ≤ 255 = h.few in
    let small : m.nn < 256 = h.nn in
    let left : length (drop d m.sent) ≡ length m.sent - d = length-drop d m.sent in
    let vs : y.vs ≡ m.vs = l.remains.vs in
    let nn : y.nn ≡ (m.nn + d) % 256 = l.remains.nn in
    let opened : (y.vs + 256 - y.nn) % 256 < y.k = grind (arith, nat_tests, o) in
    omega (arith, next, most, small, left, vs, nn, opened, few)

-- confirmed are so many, and then comes the look
pub looked : (most d : ℕ) (again : Bool) (m y new : Machine) (out : Out) → IsFop m → is_taking m.state ≡ true → Confirmable most d m → Looks d again m y → new ≡ after look y → out ≡ joined (record { frames = []; indications = front_of d m }) (output look y) → Advances most m new out
looked most d again m y new out h t which l e o =
    let x = change Resend y in
    let same : (transmits (due x) x.vs).frames ≡ (transmits (due x) m.vs).frames = ap (λ v. (transmits (due x) v).frames) l.remains.vs in
    let indicated : (transmits (due x) x.vs).indications ≡ (transmits (due x) m.vs).indications = ap (λ v. (transmits (due x) v).indications) l.remains.vs in
    let repeated = map frame_of (flagged_of y.sent) in
    advance most d again (due x) m x new out which h.vs
    (record { vs = l.remains.vs; nn = l.remains.nn; sent = cleared_requests y.sent ∙ l.remains.sent; taking = l.remains.taking })
    (λ n. subst (λ k. length (drop d m.sent) < k) l.k (ready_room (is_window_open y) y.waiting (length (drop d m.sent)) y.k (open_room d again m y h t which.few l) n))
    e
    (ap (λ (q : Out). q.frames) o
    ∙ ap (λ s. repeated ++ s) (append-nil (transmits (due x) x.vs).frames ∙ same)
    ∙ ap (λ s. s ++ (transmits (due x) m.vs).frames) l.frames)
    (ap (λ (q : Out). q.indications) o ∙ ap (λ s. front_of d m ++ s) (append-nil (transmits (due x) x.vs).indications ∙ indicated))

-- confirmed are so many, and nothing is sent
pub unlooked : (most d : ℕ) (m y new : Machine) (out : Out) → IsFop m → Confirmable most d m → Remains d m y → new ≡ y → out ≡ record { frames = []; indications = front_of d m } → Advances most m new out
unlooked most d m y new out h which l e o =
    advance most d false None m y new out which h.vs l (λ n. absurd (false≢true n)) e
    (ap (λ (q : Out). q.frames) o)
    (ap (λ (q : Out). q.indications) o ∙ sym (append-nil (front_of d m)))

-- confirmed are so many, and the service stops
pub stopped : (most d : ℕ) (kind : AlertKind) (m y new : Machine) (out : Out) → Confirmable most d m → new ≡ change (Alert kind) y → out ≡ record { frames = []; indications = front_of d m ++ given_back kind y } → Advances most m new out
stopped most d kind m y new out which e o =
    let indicated = given_back kind y in
    let state : new.state ≡ Initial = ap (λ (n : Machine). n.state) e in
    record {
      confirmed = d;
      again = false;
      fresh = None;
      few = which.few;
      which = which.which;
      confirms = ap (λ (q : Out). flat_map confirms q.indications) o ∙ front_confirms d m indicated (silent_alert confirms (λ n. refl) (λ n. refl) kind refl y);
      transmits = ap (λ (q : Out). flat_map transmitted_by q.indications) o ∙ front_first transmitted_by (λ n. refl) d m indicated ∙ silent_alert transmitted_by (λ n. refl) (λ n. refl) kind refl y;
      frames = ap (λ (q : Out). q.frames) o;
      few_out = λ n. absurd (false≢true n);
      no_start = ap (λ (q : Out). flat_map start_of q.indications) o ∙ front_first start_of (λ n. refl) d m indicated ∙ silent_alert start_of (λ n. refl) (λ n. refl) kind refl y;
      goes_on = λ t. absurd (false≢true (sym (ap (λ s. is_taking s) state) ∙ t));
      stops = λ t. (state, ap (λ (q : Out). q.frames) o, refl);
    }
