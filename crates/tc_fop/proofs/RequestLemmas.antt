-- What a list of actions does with the requests in the queues, by induction over the list.
use Rattle.std.proofs.Common.{◌≡◌, ℕ, Bool, true, false, ◌&&◌, Option, Some, None, List, [], ◌∷◌, ◌++◌, map, take, drop, refl, sym, ◌∙◌, ap}
use Rattle.std.specs.List.{flat_map, list_all}
use Rattle.std.proofs.lemmas.Bool.{false≢true}
use Rattle.std.proofs.lemmas.Grind.{flat_map-append}
use Rattle.std.proofs.lemmas.List.{append_assoc, append-nil, map-append, take-append-drop}
use Rattle.tc_fop.specs.declared.signals.AlertKind.{AlertKind}
use Rattle.tc_fop.specs.declared.signals.Indication.{Indication}
use Rattle.tc_fop.specs.declared.signals.Indication.TheVariants as indication
use Rattle.tc_fop.specs.Machine.{Machine, Held, Waiting, Action, Remove, InitiateRetransmission, Resend, Transmit, Alert, StartTimer, CancelTimer, LowerTimer, CountOne, SendControl, DropControl, Begin, To, Wait, Initiate, SetVsAlone, SetVsAndNn, SetKTo, SetT1To, SetLimitTo, change, said, after, output, flagged, cleared, is_window_open, due_from, transmitted, transmits, option_list, given_back}
use Rattle.tc_fop.specs.Requests.{sent_requests, waiting_requests, queued, ends, leaves, confirms}

request_of : Held → ℕ
request_of held = held.request

-- an offer and an initiation are not
abbrev pub is_inner : Action → Bool
is_inner (Remove d) = true
is_inner InitiateRetransmission = true
is_inner Resend = true
is_inner Transmit = true
is_inner (Alert kind) = true
is_inner StartTimer = true
is_inner CancelTimer = true
is_inner LowerTimer = true
is_inner CountOne = true
is_inner SendControl = true
is_inner DropControl = true
is_inner Begin = true
is_inner (To state) = true
is_inner (Wait w) = false
is_inner (Initiate frame) = false
is_inner (SetVsAlone v) = false
is_inner (SetVsAndNn v) = false
is_inner (SetKTo k) = true
is_inner (SetT1To t1) = true
is_inner (SetLimitTo limit) = true

pub both : (a b : Bool) → (a && b) ≡ true → (a ≡ true) × (b ≡ true)
both true b e = (refl, e)
both false b e = absurd (false≢true e)

-- each of these indications ends, leaves or confirms the requests, or none of them
confirmed_end : (sent : List Held) → flat_map ends (map (λ (held : Held). indication.Confirmed held.request) sent) ≡ map (λ (held : Held). held.request) sent
confirmed_end [] = refl
confirmed_end (first ∷ others) = ap (λ l. first.request ∷ l) (confirmed_end others)

doubted_end : (sent : List Held) → flat_map ends (map (λ (held : Held). indication.InDoubt held.request) sent) ≡ map (λ (held : Held). held.request) sent
doubted_end [] = refl
doubted_end (first ∷ others) = ap (λ l. first.request ∷ l) (doubted_end others)

back_end : (ws : List Waiting) → flat_map ends (map (λ (w : Waiting). indication.GivenBack w.request) ws) ≡ map (λ (w : Waiting). w.request) ws
back_end [] = refl
back_end (first ∷ others) = ap (λ l. first.request ∷ l) (back_end others)

confirmed_stay : (sent : List Held) → flat_map leaves (map (λ (held : Held). indication.Confirmed held.request) sent) ≡ []
confirmed_stay [] = refl
confirmed_stay (first ∷ others) = confirmed_stay others

doubted_stay : (sent : List Held) → flat_map leaves (map (λ (held : Held). indication.InDoubt held.request) sent) ≡ []
doubted_stay [] = refl
doubted_stay (first ∷ others) = doubted_stay others

back_leave : (ws : List Waiting) → flat_map leaves (map (λ (w : Waiting). indication.GivenBack w.request) ws) ≡ map (λ (w : Waiting). w.request) ws
back_leave [] = refl
back_leave (first ∷ others) = ap (λ l. first.request ∷ l) (back_leave others)

pub confirmed_confirm : (sent : List Held) → flat_map confirms (map (λ (held : Held). indication.Confirmed held.request) sent) ≡ map (λ (held : Held). held.request) sent
confirmed_confirm [] = refl
confirmed_confirm (first ∷ others) = ap (λ l. first.request ∷ l) (confirmed_confirm others)

pub doubted_unconfirmed : (sent : List Held) → flat_map confirms (map (λ (held : Held). indication.InDoubt held.request) sent) ≡ []
doubted_unconfirmed [] = refl
doubted_unconfirmed (first ∷ others) = doubted_unconfirmed others

pub back_unconfirmed : (ws : List Waiting) → flat_map confirms (map (λ (w : Waiting). indication.GivenBack w.request) ws) ≡ []
back_unconfirmed [] = refl
back_unconfirmed (first ∷ others) = back_unconfirmed others

-- of an alert's indications: what the ones in doubt give, then what the one that is given back gives
pub alerted : (f : Indication → List ℕ) (kind : AlertKind) (m : Machine) → f (indication.Alert kind) ≡ [] → flat_map f (given_back kind m) ≡ flat_map f (map (λ (held : Held). indication.InDoubt held.request) m.sent) ++ flat_map f (map (λ (w : Waiting). indication.GivenBack w.request) (option_list m.waiting))
alerted f kind m e =
    let doubted = map (λ (held : Held). indication.InDoubt held.request) m.sent in
    let back = map (λ (w : Waiting). indication.GivenBack w.request) (option_list m.waiting) in
    flat_map-append f (doubted ++ back) (indication.Alert kind ∷ [])
    ∙ ap (λ l. flat_map f (doubted ++ back) ++ (l ++ [])) e
    ∙ append-nil (flat_map f (doubted ++ back))
    ∙ flat_map-append f doubted back

pub flagged_requests : (sent : List Held) → map (λ (held : Held). held.request) (map flagged sent) ≡ map (λ (held : Held). held.request) sent
flagged_requests [] = refl
flagged_requests (first ∷ others) = ap (λ l. first.request ∷ l) (flagged_requests others)

pub cleared_requests : (sent : List Held) → map (λ (held : Held). held.request) (map cleared sent) ≡ map (λ (held : Held). held.request) sent
cleared_requests [] = refl
cleared_requests (first ∷ others) = ap (λ l. first.request ∷ l) (cleared_requests others)

-- a transmission moves the request from one queue to the other
transmit_requests : (opened : Bool) (w : Option Waiting) (m : Machine) → m.waiting ≡ w → queued m ≡ flat_map ends (transmits (due_from opened w) m.vs).indications ++ queued (transmitted (due_from opened w) m)
transmit_requests false w m e = refl
transmit_requests true None m e = refl
transmit_requests true (Some w) m e =
    let one : Held = record { ns = m.vs; request = w.request; body = w.body; flagged = false } in
    ap (λ o. sent_requests m ++ map (λ (x : Waiting). x.request) (option_list o)) e
    ∙ sym (append-nil (map (λ (held : Held). held.request) (m.sent ++ one ∷ [])) ∙ map-append (λ (held : Held). held.request) m.sent (one ∷ []))

transmit_order : (opened : Bool) (w : Option Waiting) (m : Machine) → m.waiting ≡ w → waiting_requests m ≡ flat_map leaves (transmits (due_from opened w) m.vs).indications ++ waiting_requests (transmitted (due_from opened w) m)
transmit_order false w m e = refl
transmit_order true None m e = refl
transmit_order true (Some w) m e = ap (λ o. map (λ (x : Waiting). x.request) (option_list o)) e

step_requests : (a : Action) (m : Machine) → is_inner a ≡ true → queued m ≡ flat_map ends (said a m).indications ++ queued (change a m)
step_requests (Remove d) m h =
    let waits = waiting_requests m in
    let front = map (λ (held : Held). held.request) (take d m.sent) in
    let rest = map (λ (held : Held). held.request) (drop d m.sent) in
    ap (λ l. map (λ (held : Held). held.request) l ++ waits) (sym (take-append-drop d m.sent))
    ∙ ap (λ l. l ++ waits) (map-append (λ (held : Held). held.request) (take d m.sent) (drop d m.sent))
    ∙ append_assoc front rest waits
    ∙ ap (λ l. l ++ (rest ++ waits)) (sym (confirmed_end (take d m.sent)))
step_requests InitiateRetransmission m h = ap (λ l. l ++ waiting_requests m) (sym (flagged_requests m.sent))
step_requests Resend m h = ap (λ l. l ++ waiting_requests m) (sym (cleared_requests m.sent))
step_requests Transmit m h = transmit_requests (is_window_open m) m.waiting m refl
step_requests (Alert kind) m h =
    let back = flat_map ends (map (λ (w : Waiting). indication.GivenBack w.request) (option_list m.waiting)) in
    sym (append-nil (flat_map ends (given_back kind m)) ∙ alerted ends kind m refl ∙ ap (λ l. l ++ back) (doubted_end m.sent) ∙ ap (λ l. sent_requests m ++ l) (back_end (option_list m.waiting)))
step_requests StartTimer m h = refl
step_requests CancelTimer m h = refl
step_requests LowerTimer m h = refl
step_requests CountOne m h = refl
step_requests SendControl m h = refl
step_requests DropControl m h = refl
step_requests Begin m h = refl
step_requests (To state) m h = refl
step_requests (Wait w) m h = absurd (false≢true h)
step_requests (Initiate frame) m h = absurd (false≢true h)
step_requests (SetVsAlone v) m h = refl
step_requests (SetVsAndNn v) m h = refl
step_requests (SetKTo k) m h = refl
step_requests (SetT1To t1) m h = refl
step_requests (SetLimitTo limit) m h = refl

step_order : (a : Action) (m : Machine) → is_inner a ≡ true → waiting_requests m ≡ flat_map leaves (said a m).indications ++ waiting_requests (change a m)
step_order (Remove d) m h = ap (λ l. l ++ waiting_requests m) (sym (confirmed_stay (take d m.sent)))
step_order InitiateRetransmission m h = refl
step_order Resend m h = refl
step_order Transmit m h = transmit_order (is_window_open m) m.waiting m refl
step_order (Alert kind) m h =
    let back = flat_map leaves (map (λ (w : Waiting). indication.GivenBack w.request) (option_list m.waiting)) in
    sym (append-nil (flat_map leaves (given_back kind m)) ∙ alerted leaves kind m refl ∙ ap (λ l. l ++ back) (doubted_stay m.sent) ∙ back_leave (option_list m.waiting))
step_order StartTimer m h = refl
step_order CancelTimer m h = refl
step_order LowerTimer m h = refl
step_order CountOne m h = refl
step_order SendControl m h = refl
step_order DropControl m h = refl
step_order Begin m h = refl
step_order (To state) m h = refl
step_order (Wait w) m h = absurd (false≢true h)
step_order (Initiate frame) m h = absurd (false≢true h)
step_order (SetVsAlone v) m h = refl
step_order (SetVsAndNn v) m h = refl
step_order (SetKTo k) m h = refl
step_order (SetT1To t1) m h = refl
step_order (SetLimitTo limit) m h = refl

-- one action after the other
run : (q : Machine → List ℕ) (f : Indication → List ℕ) → ((a : Action) (m : Machine) → is_inner a ≡ true → q m ≡ flat_map f (said a m).indications ++ q (change a m)) → (todo : List Action) (m : Machine) → list_all is_inner todo ≡ true → q m ≡ flat_map f (output todo m).indications ++ q (after todo m)
run q f step [] m h = refl
run q f step (a ∷ todo) m h =
    let inner = both (is_inner a) (list_all is_inner todo) h in
    let mine = flat_map f (said a m).indications in
    let others = flat_map f (output todo (change a m)).indications in
    let last = q (after todo (change a m)) in
    step a m inner.0
    ∙ ap (λ l. mine ++ l) (run q f step todo (change a m) inner.1)
    ∙ sym (append_assoc mine others last)
    ∙ ap (λ l. l ++ last) (sym (flat_map-append f (said a m).indications (output todo (change a m)).indications))

pub run_requests : (todo : List Action) (m : Machine) → list_all is_inner todo ≡ true → queued m ≡ flat_map ends (output todo m).indications ++ queued (after todo m)
run_requests todo m h = run queued ends step_requests todo m h

pub run_order : (todo : List Action) (m : Machine) → list_all is_inner todo ≡ true → waiting_requests m ≡ flat_map leaves (output todo m).indications ++ waiting_requests (after todo m)
run_order todo m h = run waiting_requests leaves step_order todo m h
