-- The payloads in the FOP's queues and in the frames that it puts out, by induction over a list of actions.
use Rattle.std.proofs.Common.{◌≡◌, ℕ, ◌==◌, Bool, true, false, ◌||◌, Option, Some, None, List, [], ◌∷◌, ◌++◌, refl, sym, ◌∙◌, ap, subst, append_assoc, arith}
use Rattle.std.specs.List.{list_any, AllByRecursion}
use Rattle.std.proofs.lemmas.Grind.{flat_map-append}
use Rattle.std.proofs.lemmas.List.Folds.{list_any-append}
use Rattle.tc_types.specs.declared.link.telecommands.Payload.{Payload}
use Rattle.tc_types.specs.declared.link.frames.Frame.{Frame}
use Rattle.tc_types.specs.declared.link.frames.Frame.TheVariants.{Ad, Unlock, SetVr}
use Rattle.tc_fop.specs.Machine.{Machine, Held, Waiting, Action, Remove, InitiateRetransmission, Resend, Transmit, Alert, SendControl, DropControl, Wait, Initiate, change, said, after, output, frame_of, flagged, cleared, flagged_of, is_window_open, due_from, transmitted, transmits, option_list}
use Rattle.tc_fop.specs.Moves.{transmitted_by, transmitted_in}
use Rattle.tc_world.specs.Payloads.{IsOneOf, CarriesOf}
use Rattle.tc_world.proofs.AllLists.{all_append, all_drop, all_follow, all_made, all_filter}

-- ---- more requests are sent

-- one of the numbers is one of them with more behind
one_of_front : (n : ℕ) (sent more : List ℕ) → IsOneOf n sent → IsOneOf n (sent ++ more)
one_of_front n sent more h =
    list_any-append (λ (m : ℕ). m == n) sent more ∙ ap (λ b. b || list_any (λ (m : ℕ). m == n) more) h

-- one of two, where the second is
or_last : (before last : Bool) → last ≡ true → (before || last) ≡ true
or_last true last h = refl
or_last false last h = h

-- the last of the numbers is one of them
one_of_last : (n : ℕ) (sent : List ℕ) → IsOneOf n (sent ++ n ∷ [])
one_of_last n sent =
    let same : (n == n) ≡ true = grind arith in
    list_any-append (λ (m : ℕ). m == n) sent (n ∷ [])
    ∙ or_last (list_any (λ (m : ℕ). m == n) sent) ((n == n) || false) (ap (λ b. b || false) same)

-- a frame carries a request that was sent, where more were
pub carries_more : (P : ℕ → Payload → Type 0) (sent more : List ℕ) (frame : Frame) → CarriesOf P sent frame → CarriesOf P (sent ++ more) frame
carries_more P sent more (Ad number request body) h = (h.0, one_of_front request sent more h.1)
carries_more P sent more Unlock h = tt
carries_more P sent more (SetVr v) h = tt

-- each of these frames does
pub all_carry_more : (P : ℕ → Payload → Type 0) (sent more : List ℕ) (frames : List Frame) → AllByRecursion (CarriesOf P sent) frames → AllByRecursion (CarriesOf P (sent ++ more)) frames
all_carry_more P sent more frames h = all_follow (CarriesOf P sent) (CarriesOf P (sent ++ more)) frames (carries_more P sent more) h

-- ---- what stands in the FOP

-- a request of the Sent_Queue was sent, and P holds of it with its payload
abbrev pub HoldsOf : (P : ℕ → Payload → Type 0) → List ℕ → Held → Type 0
HoldsOf P sent held = P held.request held.body × IsOneOf held.request sent

-- a request that waits has a payload of which P holds
abbrev pub WaitsOf : (P : ℕ → Payload → Type 0) → Waiting → Type 0
WaitsOf P w = P w.request w.body

-- of each request in the FOP P holds with its payload; those in the Sent_Queue and in a BC frame are among these
pub record AreQueued (P : ℕ → Payload → Type 0) (sent : List ℕ) (m : Machine) : Type 0 where
  pub waiting : AllByRecursion (WaitsOf P) (option_list m.waiting)
  pub held : AllByRecursion (HoldsOf P sent) m.sent
  pub control : AllByRecursion (CarriesOf P sent) (option_list m.control)

-- they are among more
queued_more : (P : ℕ → Payload → Type 0) (sent more : List ℕ) (m : Machine) → AreQueued P sent m → AreQueued P (sent ++ more) m
queued_more P sent more m q = record {
  waiting = q.waiting;
  held = all_follow (HoldsOf P sent) (HoldsOf P (sent ++ more)) m.sent (λ held h. (h.0, one_of_front held.request sent more h.1)) q.held;
  control = all_carry_more P sent more (option_list m.control) q.control;
}

-- What an action brings into the FOP: P holds of a request that begins to wait, and a BC frame carries none.
abbrev pub Brings : (P : ℕ → Payload → Type 0) → Action → Type 0
Brings P (Wait w) = WaitsOf P w
Brings P (Initiate frame) = AllByRecursion (CarriesOf P []) (option_list frame)
Brings P action = Unit {0}

-- ---- one action

-- the waiting request goes to the Sent_Queue, or stays
transmit_queued : (P : ℕ → Payload → Type 0) (sent : List ℕ) (opened : Bool) (w : Option Waiting) (m : Machine) → m.waiting ≡ w → AreQueued P sent m → AreQueued P (sent ++ transmitted_in (transmits (due_from opened w) m.vs)) (transmitted (due_from opened w) m)
transmit_queued P sent false w m e q = queued_more P sent [] m q
transmit_queued P sent true None m e q = queued_more P sent [] m q
transmit_queued P sent true (Some w) m e q =
    let more = w.request ∷ [] in
    let one : Held = record { ns = m.vs; request = w.request; body = w.body; flagged = false } in
    let own : P w.request w.body = (subst (λ o. AllByRecursion (WaitsOf P) (option_list o)) e q.waiting).0 in
    let grown = queued_more P sent more m q in
    record {
      waiting = tt;
      held = all_append (HoldsOf P (sent ++ more)) m.sent (one ∷ []) grown.held ((own, one_of_last w.request sent), tt);
      control = grown.control;
    }

-- its frame carries it
transmit_carries : (P : ℕ → Payload → Type 0) (sent : List ℕ) (opened : Bool) (w : Option Waiting) (m : Machine) → m.waiting ≡ w → AreQueued P sent m → AllByRecursion (CarriesOf P (sent ++ transmitted_in (transmits (due_from opened w) m.vs))) (transmits (due_from opened w) m.vs).frames
transmit_carries P sent false w m e q = tt
transmit_carries P sent true None m e q = tt
transmit_carries P sent true (Some w) m e q =
    let own : P w.request w.body = (subst (λ o. AllByRecursion (WaitsOf P) (option_list o)) e q.waiting).0 in
    ((own, one_of_last w.request sent), tt)

-- the queues after an action, among what was sent before it and what it tells to be sent
step_queued : (P : ℕ → Payload → Type 0) (sent : List ℕ) (a : Action) (m : Machine) → Brings P a → AreQueued P sent m → AreQueued P (sent ++ transmitted_in (said a m)) (change a m)
step_queued P sent (Remove d) m b q =
    let more = transmitted_in (said (Remove d) m) in
    let grown = queued_more P sent more m q in
    record { waiting = grown.waiting; held = all_drop (HoldsOf P (sent ++ more)) d m.sent grown.held; control = grown.control }
step_queued P sent InitiateRetransmission m b q =
    let grown = queued_more P sent [] m q in
    let same = HoldsOf P (sent ++ []) in
    record { waiting = grown.waiting; held = all_made same same flagged m.sent (λ held h. h) grown.held; control = grown.control }
step_queued P sent Resend m b q =
    let grown = queued_more P sent [] m q in
    let same = HoldsOf P (sent ++ []) in
    record { waiting = grown.waiting; held = all_made same same cleared m.sent (λ held h. h) grown.held; control = grown.control }
step_queued P sent Transmit m b q = transmit_queued P sent (is_window_open m) m.waiting m refl q
step_queued P sent (Alert kind) m b q = record { waiting = tt; held = tt; control = tt }
step_queued P sent DropControl m b q =
    let grown = queued_more P sent [] m q in
    record { waiting = grown.waiting; held = grown.held; control = tt }
step_queued P sent (Wait w) m b q =
    let grown = queued_more P sent [] m q in
    record { waiting = (b, tt); held = grown.held; control = grown.control }
step_queued P sent (Initiate frame) m b q =
    record { waiting = tt; held = tt; control = all_carry_more P [] (sent ++ []) (option_list frame) b }
step_queued P sent a m b q =
    let grown = queued_more P sent [] m q in
    record { waiting = grown.waiting; held = grown.held; control = grown.control }

-- each frame that an action puts out carries one of these
step_carries : (P : ℕ → Payload → Type 0) (sent : List ℕ) (a : Action) (m : Machine) → AreQueued P sent m → AllByRecursion (CarriesOf P (sent ++ transmitted_in (said a m))) (said a m).frames
step_carries P sent Resend m q =
    let grown = queued_more P sent [] m q in
    let same = HoldsOf P (sent ++ []) in
    all_made same (CarriesOf P (sent ++ [])) frame_of (flagged_of m.sent) (λ held h. h)
    (all_filter same (λ (held : Held). held.flagged) m.sent grown.held)
step_carries P sent Transmit m q = transmit_carries P sent (is_window_open m) m.waiting m refl q
step_carries P sent SendControl m q = (queued_more P sent [] m q).control
step_carries P sent a m q = tt

-- ---- one action after the other

-- The queues after a list of actions, and the frames that it puts out: all of requests that were sent before, or that
-- its output tells to be sent.
pub run_queued : (P : ℕ → Payload → Type 0) (sent : List ℕ) (todo : List Action) (m : Machine) → AllByRecursion (Brings P) todo → AreQueued P sent m → AreQueued P (sent ++ transmitted_in (output todo m)) (after todo m) × AllByRecursion (CarriesOf P (sent ++ transmitted_in (output todo m))) (output todo m).frames
run_queued P sent [] m b q = (queued_more P sent [] m q, tt)
run_queued P sent (a ∷ todo) m b q =
    let next = change a m in
    let mine = transmitted_in (said a m) in
    let others = transmitted_in (output todo next) in
    let frames = (said a m).frames ++ (output todo next).frames in
    let whole : (sent ++ mine) ++ others ≡ sent ++ transmitted_in (output (a ∷ todo) m) =
    append_assoc sent mine others
    ∙ ap (λ (l : List ℕ). sent ++ l) (sym (flat_map-append transmitted_by (said a m).indications (output todo next).indications))
    in
    let rest = run_queued P (sent ++ mine) todo next b.1 (step_queued P sent a m b.0 q) in
    let first = all_carry_more P (sent ++ mine) others (said a m).frames (step_carries P sent a m q) in (
      subst (λ (l : List ℕ). AreQueued P l (after todo next)) whole rest.0,
      subst (λ (l : List ℕ). AllByRecursion (CarriesOf P l) frames) whole
          (all_append (CarriesOf P ((sent ++ mine) ++ others)) (said a m).frames (output todo next).frames first rest.1),
    )
