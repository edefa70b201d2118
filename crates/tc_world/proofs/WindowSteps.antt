-- The window is kept by each step of a session, and by each run.
use Rattle.std.proofs.Common.{◌≡◌, ℕ, zero, suc, ◌+◌, ◌<◌, ◌≤◌, inl, inr, Some, List, [], ◌∷◌, ◌++◌, length, take, slice_get, refl, sym, ◌∙◌, ap, subst, arith}
use Rattle.std.proofs.lemmas.List.{length-append, length-take-le, take-append-le}
use Rattle.tc_world.specs.Session.{Session, Sends, SendsAgain, Arrives, Reports, IsHeard, Loses, SessionStep, SessionRun, GoesThrough}
use Rattle.tc_world.specs.Kept.{Each, Pairs, IsInWindow}
use Rattle.tc_world.proofs.Lists.{each_sub, each_append, each_map, pairs_sub, pairs_push}

-- one more of a front
pub take_next : (xs : List ℕ) (n x : ℕ) → slice_get xs n ≡ Some x → take n xs ++ x ∷ [] ≡ take (suc n) xs
take_next [] n x e = cc
take_next (y ∷ ys) zero x e =
    let same : y ≡ x = cc in
    ap (λ z. z ∷ []) (sym same)
take_next (y ∷ ys) (suc n) x e = ap (λ l. y ∷ l) (take_next ys n x e)

-- other positions are in flight
up_in_window : (bound : ℕ) (s : Session) (up : List ℕ) → Each (λ (n : ℕ). length s.accepted ≤ n + bound) up
    → Each (λ (n : ℕ). n < length s.sent) up → Pairs (λ (n m : ℕ). n + 1 ≤ m + bound) up
    → IsInWindow bound s → IsInWindow bound (record s { up = up })
up_in_window bound s up low high order w = record {
  small = w.small;
  accepted = w.accepted;
  confirmed = w.confirmed;
  confirmed_few = w.confirmed_few;
  accepted_few = w.accepted_few;
  sent_few = w.sent_few;
  up_low = low;
  up_high = high;
  up_order = order;
  down_low = w.down_low;
  down_high = w.down_high;
  down_order = w.down_order;
}

-- other reports are in flight
down_in_window : (bound : ℕ) (s : Session) (down : List ℕ) → Each (λ (r : ℕ). length s.confirmed ≤ r) down
    → Each (λ (r : ℕ). r ≤ length s.accepted) down → Pairs (λ (r q : ℕ). r ≤ q) down
    → IsInWindow bound s → IsInWindow bound (record s { down = down })
down_in_window bound s down low high order w = record {
  small = w.small;
  accepted = w.accepted;
  confirmed = w.confirmed;
  confirmed_few = w.confirmed_few;
  accepted_few = w.accepted_few;
  sent_few = w.sent_few;
  up_low = w.up_low;
  up_high = w.up_high;
  up_order = w.up_order;
  down_low = low;
  down_high = high;
  down_order = order;
}

-- a first transmission
pub sends_keeps : (bound : ℕ) (s t : Session) → Sends bound s t → IsInWindow bound s → IsInWindow bound t
sends_keeps bound s t h w =
    let longer : length (s.sent ++ h.request ∷ []) ≡ length s.sent + 1 = length-append s.sent (h.request ∷ []) in
    let few : length s.confirmed ≤ length s.sent = omega (arith, w.confirmed_few, w.accepted_few) in
    let next : Session = record s { sent = s.sent ++ h.request ∷ []; up = s.up ++ length s.sent ∷ [] } in
    let kept : IsInWindow bound next = record {
      small = w.small;
      accepted = w.accepted ∙ sym (take-append-le (length s.accepted) s.sent (h.request ∷ []) w.accepted_few);
      confirmed = w.confirmed ∙ sym (take-append-le (length s.confirmed) s.sent (h.request ∷ []) few);
      confirmed_few = w.confirmed_few;
      accepted_few = omega (arith, longer, w.accepted_few);
      sent_few = omega (arith, longer, h.room);
      up_low =
          each_append (λ (n : ℕ). length s.accepted ≤ n + bound) s.up (length s.sent ∷ []) w.up_low (omega (arith, w.accepted_few), tt);
      up_high =
          each_append (λ (n : ℕ). n < length (s.sent ++ h.request ∷ [])) s.up (length s.sent ∷ [])
          (each_map (λ (n : ℕ). n < length s.sent) (λ (n : ℕ). n < length (s.sent ++ h.request ∷ [])) s.up (λ n p. omega (arith, longer, p)) w.up_high)
          (omega (arith, longer), tt);
      up_order =
          pairs_push (λ (n m : ℕ). n + 1 ≤ m + bound) s.up (length s.sent) w.up_order
          (each_map (λ (n : ℕ). n < length s.sent) (λ (n : ℕ). n + 1 ≤ length s.sent + bound) s.up (λ n p. omega (arith, p)) w.up_high);
      down_low = w.down_low;
      down_high = w.down_high;
      down_order = w.down_order;
    } in
    subst (λ u. IsInWindow bound u) (sym h.whole) kept

-- a transmission again
pub sends_again_keeps : (bound : ℕ) (s t : Session) → SendsAgain s t → IsInWindow bound s → IsInWindow bound t
sends_again_keeps bound s t h w =
    subst (λ u. IsInWindow bound u) (sym h.whole)
    (up_in_window bound s (s.up ++ h.position ∷ [])
    (each_append (λ (n : ℕ). length s.accepted ≤ n + bound) s.up (h.position ∷ []) w.up_low
    (omega (arith, w.accepted_few, w.sent_few, h.low), tt))
    (each_append (λ (n : ℕ). n < length s.sent) s.up (h.position ∷ []) w.up_high (h.high, tt))
    (pairs_push (λ (n m : ℕ). n + 1 ≤ m + bound) s.up h.position w.up_order
    (each_map (λ (n : ℕ). n < length s.sent) (λ (n : ℕ). n + 1 ≤ h.position + bound) s.up (λ n p. omega (arith, p, w.sent_few, h.low)) w.up_high))
    w)

-- the first of the uplink is discarded
pub discarded_keeps : (bound : ℕ) (s : Session) (position : ℕ) (rest : List ℕ) → s.up ≡ position ∷ rest
    → IsInWindow bound s → IsInWindow bound (record s { up = rest })
discarded_keeps bound s position rest first w =
    let low : Each (λ (n : ℕ). length s.accepted ≤ n + bound) (position ∷ rest) = subst (λ l. Each (λ (n : ℕ). length s.accepted ≤ n + bound) l) first w.up_low in
    let high : Each (λ (n : ℕ). n < length s.sent) (position ∷ rest) = subst (λ l. Each (λ (n : ℕ). n < length s.sent) l) first w.up_high in
    let order : Pairs (λ (n m : ℕ). n + 1 ≤ m + bound) (position ∷ rest) = subst (λ l. Pairs (λ (n m : ℕ). n + 1 ≤ m + bound) l) first w.up_order in
    up_in_window bound s rest low.1 high.1 order.1 w

-- the first of the uplink is accepted
pub accepted_keeps : (bound : ℕ) (s : Session) (position : ℕ) (rest : List ℕ) (request : ℕ) → s.up ≡ position ∷ rest
    → position ≡ length s.accepted → slice_get s.sent position ≡ Some request
    → IsInWindow bound s → IsInWindow bound (record s { up = rest; accepted = s.accepted ++ request ∷ [] })
accepted_keeps bound s position rest request first place there w =
    let high : Each (λ (n : ℕ). n < length s.sent) (position ∷ rest) = subst (λ l. Each (λ (n : ℕ). n < length s.sent) l) first w.up_high in
    let order : Pairs (λ (n m : ℕ). n + 1 ≤ m + bound) (position ∷ rest) = subst (λ l. Pairs (λ (n m : ℕ). n + 1 ≤ m + bound) l) first w.up_order in
    let longer : length (s.accepted ++ request ∷ []) ≡ length s.accepted + 1 = length-append s.accepted (request ∷ []) in
    let one : suc (length s.accepted) ≡ length (s.accepted ++ request ∷ []) = omega (arith, longer) in
    let here : slice_get s.sent (length s.accepted) ≡ Some request = ap (λ n. slice_get s.sent n) (sym place) ∙ there in
    record {
      small = w.small;
      accepted =
          ap (λ l. l ++ request ∷ []) w.accepted
          ∙ take_next s.sent (length s.accepted) request here
          ∙ ap (λ n. take n s.sent) one;
      confirmed = w.confirmed;
      confirmed_few = omega (arith, longer, w.confirmed_few);
      accepted_few = omega (arith, longer, high.0, place);
      sent_few = w.sent_few;
      up_low =
          each_map (λ (m : ℕ). position + 1 ≤ m + bound) (λ (m : ℕ). length (s.accepted ++ request ∷ []) ≤ m + bound) rest
          (λ m p. omega (arith, longer, place, p)) order.0;
      up_high = high.1;
      up_order = order.1;
      down_low = w.down_low;
      down_high =
          each_map (λ (r : ℕ). r ≤ length s.accepted) (λ (r : ℕ). r ≤ length (s.accepted ++ request ∷ [])) s.down
          (λ r p. omega (arith, longer, p)) w.down_high;
      down_order = w.down_order;
    }

-- an arrival
pub arrives_keeps : (bound : ℕ) (s t : Session) → Arrives s t → IsInWindow bound s → IsInWindow bound t
arrives_keeps bound s t h w =
    elim h.whole [
      | inl e ↦ subst (λ u. IsInWindow bound u) (sym e) (discarded_keeps bound s h.position h.rest h.first w)
      | inr e ↦ subst (λ u. IsInWindow bound u) (sym e.3) (accepted_keeps bound s h.position h.rest e.0 h.first e.1 e.2 w)
    ]

-- a report
pub reports_keeps : (bound : ℕ) (s t : Session) → Reports s t → IsInWindow bound s → IsInWindow bound t
reports_keeps bound s t h w =
    subst (λ u. IsInWindow bound u) (sym h)
    (down_in_window bound s (s.down ++ length s.accepted ∷ [])
    (each_append (λ (r : ℕ). length s.confirmed ≤ r) s.down (length s.accepted ∷ []) w.down_low (w.confirmed_few, tt))
    (each_append (λ (r : ℕ). r ≤ length s.accepted) s.down (length s.accepted ∷ []) w.down_high (omega arith, tt))
    (pairs_push (λ (r q : ℕ). r ≤ q) s.down (length s.accepted) w.down_order w.down_high)
    w)

-- the first of the downlink is heard, and nothing is done
pub ignored_keeps : (bound : ℕ) (s : Session) (value : ℕ) (rest : List ℕ) → s.down ≡ value ∷ rest
    → IsInWindow bound s → IsInWindow bound (record s { down = rest })
ignored_keeps bound s value rest first w =
    let low : Each (λ (r : ℕ). length s.confirmed ≤ r) (value ∷ rest) = subst (λ l. Each (λ (r : ℕ). length s.confirmed ≤ r) l) first w.down_low in
    let high : Each (λ (r : ℕ). r ≤ length s.accepted) (value ∷ rest) = subst (λ l. Each (λ (r : ℕ). r ≤ length s.accepted) l) first w.down_high in
    let order : Pairs (λ (r q : ℕ). r ≤ q) (value ∷ rest) = subst (λ l. Pairs (λ (r q : ℕ). r ≤ q) l) first w.down_order in
    down_in_window bound s rest low.1 high.1 order.1 w

-- the first of the downlink is heard, and so many are confirmed
pub confirmed_keeps : (bound : ℕ) (s : Session) (value : ℕ) (rest : List ℕ) → s.down ≡ value ∷ rest → length s.confirmed ≤ value
    → IsInWindow bound s → IsInWindow bound (record s { down = rest; confirmed = take value s.sent })
confirmed_keeps bound s value rest first more w =
    let high : Each (λ (r : ℕ). r ≤ length s.accepted) (value ∷ rest) = subst (λ l. Each (λ (r : ℕ). r ≤ length s.accepted) l) first w.down_high in
    let order : Pairs (λ (r q : ℕ). r ≤ q) (value ∷ rest) = subst (λ l. Pairs (λ (r q : ℕ). r ≤ q) l) first w.down_order in
    let within : value ≤ length s.sent = omega (arith, high.0, w.accepted_few) in
    let count : length (take value s.sent) ≡ value = length-take-le value s.sent within in
    record {
      small = w.small;
      accepted = w.accepted;
      confirmed = ap (λ n. take n s.sent) (sym count);
      confirmed_few = omega (arith, count, high.0);
      accepted_few = w.accepted_few;
      sent_few = omega (arith, count, more, w.sent_few);
      up_low = w.up_low;
      up_high = w.up_high;
      up_order = w.up_order;
      down_low =
          each_map (λ (q : ℕ). value ≤ q) (λ (q : ℕ). length (take value s.sent) ≤ q) rest (λ q p. omega (arith, count, p)) order.0;
      down_high = high.1;
      down_order = order.1;
    }

-- a word is heard
pub heard_keeps : (bound : ℕ) (s t : Session) → IsHeard s t → IsInWindow bound s → IsInWindow bound t
heard_keeps bound s t h w =
    elim h.whole [
      | inl e ↦ subst (λ u. IsInWindow bound u) (sym e) (ignored_keeps bound s h.value h.rest h.first w)
      | inr e ↦ subst (λ u. IsInWindow bound u) (sym e.1) (confirmed_keeps bound s h.value h.rest h.first e.0 w)
    ]

-- a loss
pub loses_keeps : (bound : ℕ) (s t : Session) → Loses s t → IsInWindow bound s → IsInWindow bound t
loses_keeps bound s t h w =
    subst (λ u. IsInWindow bound u) (sym h.whole)
    (down_in_window bound (record s { up = t.up }) t.down
    (each_sub (λ (r : ℕ). length s.confirmed ≤ r) t.down s.down h.down w.down_low)
    (each_sub (λ (r : ℕ). r ≤ length s.accepted) t.down s.down h.down w.down_high)
    (pairs_sub (λ (r q : ℕ). r ≤ q) t.down s.down h.down w.down_order)
    (up_in_window bound s t.up
    (each_sub (λ (n : ℕ). length s.accepted ≤ n + bound) t.up s.up h.up w.up_low)
    (each_sub (λ (n : ℕ). n < length s.sent) t.up s.up h.up w.up_high)
    (pairs_sub (λ (n m : ℕ). n + 1 ≤ m + bound) t.up s.up h.up w.up_order)
    w))

-- each step keeps it
pub step_keeps_window : (bound : ℕ) (s t : Session) → SessionStep bound s t → IsInWindow bound s → IsInWindow bound t
step_keeps_window bound s t h w =
    elim h [
      | inl a ↦ sends_keeps bound s t a w
      | inr b ↦ elim b [
        | inl a ↦ sends_again_keeps bound s t a w
        | inr c ↦ elim c [
          | inl a ↦ arrives_keeps bound s t a w
          | inr d ↦ elim d [
            | inl a ↦ reports_keeps bound s t a w
            | inr e ↦ elim e [ inl a ↦ heard_keeps bound s t a w | inr a ↦ loses_keeps bound s t a w ]
          ]
        ]
      ]
    ]

-- so do these steps
steps_keep_window : (bound : ℕ) (s : Session) (steps : List Session) (t : Session) → GoesThrough bound s steps t → IsInWindow bound s → IsInWindow bound t
steps_keep_window bound s [] t h w = subst (λ u. IsInWindow bound u) (sym h) w
steps_keep_window bound s (next ∷ others) t h w = steps_keep_window bound next others t h.1 (step_keeps_window bound s next h.0 w)

-- each run keeps it
pub run_keeps_window : (bound : ℕ) (s t : Session) → SessionRun bound s t → IsInWindow bound s → IsInWindow bound t
run_keeps_window bound s t h w = steps_keep_window bound s h.0 t h.1 w

-- these steps, and then those
steps_on : (bound : ℕ) (s : Session) (steps : List Session) (t : Session) (more : List Session) (u : Session)
    → GoesThrough bound s steps t → GoesThrough bound t more u → GoesThrough bound s (steps ++ more) u
steps_on bound s [] t more u h k = subst (λ v. GoesThrough bound v more u) h k
steps_on bound s (next ∷ others) t more u h k = (h.0, steps_on bound next others t more u h.1 k)

-- runs, one after the other
pub runs_on : (bound : ℕ) (s t u : Session) → SessionRun bound s t → SessionRun bound t u → SessionRun bound s u
runs_on bound s t u h k = (h.0 ++ k.0, steps_on bound s h.0 t k.0 u h.1 k.1)

-- one step is a run
pub run_of_step : (bound : ℕ) (s t : Session) → SessionStep bound s t → SessionRun bound s t
run_of_step bound s t h = (t ∷ [], (h, refl))
