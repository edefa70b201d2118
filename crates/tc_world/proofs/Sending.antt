-- Requests that are sent again, and then one for the first time: the positions for which their frames fly, and the
-- session's run.
use Rattle.std.proofs.Common.{◌≡◌, ℕ, zero, suc, ◌+◌, ◌-◌, ◌%◌, ◌<◌, ◌≤◌, Bool, true, false, if◌then◌else◌, is_some, inl, inr, Option, Some, None, List, [], ◌∷◌, ◌++◌, map, length, drop, slice_get, refl, sym, ◌∙◌, ap, subst, arith}
use Rattle.std.proofs.lemmas.List.{append_assoc, append-nil, length-map, length-drop}
use Rattle.tc_types.specs.declared.link.frames.Frame.{Frame}
use Rattle.tc_fop.specs.Machine.{Held, Waiting, frame_of, option_list}
use Rattle.tc_fop.specs.Moves.{first_frame}
use Rattle.tc_world.specs.Session.{Session, SessionRun}
use Rattle.tc_world.specs.Kept.{AreFrames, HasNoSetVr}
use Rattle.tc_world.proofs.FrameLists.{frames_append, frames_grow, no_set_vr_append}
use Rattle.tc_world.proofs.WindowSteps.{runs_on, run_of_step}

abbrev pub request_of : Held → ℕ
request_of held = held.request

-- the request that is sent for the first time, if there is one
abbrev pub requests_of : Option Waiting → List ℕ
requests_of fresh = map (λ (w : Waiting). w.request) (option_list fresh)

-- the frames of a queue that is sent again, or none
abbrev pub frames_again : Bool → List Held → List Frame
frames_again again queue = if again then map frame_of queue else []

-- so many positions from this one on
abbrev pub positions_from : ℕ → ℕ → List ℕ
positions_from n zero = []
positions_from n (suc k) = n ∷ positions_from (suc n) k

-- the first of what is left of a list stands at its place there
first_left : (n x : ℕ) (xs ys : List ℕ) → x ∷ xs ≡ drop n ys → (slice_get ys n ≡ Some x) × (xs ≡ drop (suc n) ys)
first_left zero x xs ys e = (ap (λ (l : List ℕ). slice_get l 0) (sym e), ap (λ (l : List ℕ). drop 1 l) e)
first_left (suc n) x xs [] e = cc
first_left (suc n) x xs (y ∷ ys) e = first_left n x xs ys e

-- an item put behind a list stands at the list's length
last_stands : (xs : List ℕ) (x : ℕ) → slice_get (xs ++ x ∷ []) (length xs) ≡ Some x
last_stands [] x = refl
last_stands (y ∷ ys) x = last_stands ys x

-- the frames of the queue fly for the positions of its requests
queue_flies : (base : ℕ) (sent : List ℕ) (n : ℕ) (queue : List Held)
    → ((i : ℕ) (held : Held) → slice_get queue i ≡ Some held → held.ns ≡ (base + (n + i)) % 256)
    → map request_of queue ≡ drop n sent
    → AreFrames base sent (map frame_of queue) (positions_from n (length queue))
queue_flies base sent n [] numbers e = refl
queue_flies base sent n (held ∷ queue) numbers e =
    let split = first_left n held.request (map request_of queue) sent e in
    let known = numbers 0 held refl in
    let own : held.ns ≡ (base + n) % 256 = omega (arith, known) in (
      n,
      positions_from (suc n) (length queue),
      refl,
      own,
      split.0,
      queue_flies base sent (suc n) queue
          (λ i other there. let far = numbers (suc i) other there in omega (arith, far))
          split.1,
    )

-- one after the other is sent again
runs_again : (bound : ℕ) → (s : Session) (n k : ℕ) (up : List ℕ) → length s.confirmed ≤ n → n + k ≤ length s.sent
    → up ≡ s.up ++ positions_from n k → SessionRun bound s (record s { up = up })
runs_again bound s n zero up low high e = ([], ap (λ (l : List ℕ). let t : Session = record s { up = l } in t) (e ∙ append-nil s.up))
runs_again bound s n (suc k) up low high e =
    let next : Session = record s { up = s.up ++ n ∷ [] } in
    runs_on bound s next (record s { up = up })
    (run_of_step bound s next (inr (inl (record { position = n; low = low; high = omega (arith, high); whole = refl }))))
    (runs_again bound next (suc n) k up (omega (arith, low)) (omega (arith, high))
    (e ∙ sym (append_assoc s.up (n ∷ []) (positions_from (suc n) k))))

-- the queue of what is not confirmed is sent again, or not
again_flies : (bound : ℕ) → (base : ℕ) (s : Session) (again : Bool) (queue : List Held)
    → ((i : ℕ) (held : Held) → slice_get queue i ≡ Some held → held.ns ≡ (base + (length s.confirmed + i)) % 256)
    → map request_of queue ≡ drop (length s.confirmed) s.sent → length s.confirmed ≤ length s.sent
    → (ps : List ℕ) × AreFrames base s.sent (frames_again again queue) ps × SessionRun bound s (record s { up = s.up ++ ps })
again_flies bound base s true queue numbers e few =
    let size : length queue ≡ length s.sent - length s.confirmed =
    sym (length-map queue request_of) ∙ ap length e ∙ length-drop (length s.confirmed) s.sent
    in
    let ps = positions_from (length s.confirmed) (length queue) in (
      ps,
      queue_flies base s.sent (length s.confirmed) queue numbers e,
      runs_again bound s (length s.confirmed) (length queue) (s.up ++ ps)
          (omega arith)
          (omega (arith, size, few))
          refl,
    )
again_flies bound base s false queue numbers e few =
    ([], refl, runs_again bound s (length s.sent) 0 (s.up ++ []) few (omega arith) refl)

-- one is sent for the first time, or none
fresh_flies : (bound : ℕ) → (base : ℕ) (s : Session) (vs : ℕ) (fresh : Option Waiting) → vs ≡ (base + length s.sent) % 256
    → (is_some fresh ≡ true → length s.sent < length s.confirmed + bound)
    → (ps : List ℕ) × AreFrames base (s.sent ++ requests_of fresh) (map (first_frame vs) (option_list fresh)) ps
    × SessionRun bound s (record s { sent = s.sent ++ requests_of fresh; up = s.up ++ ps })
fresh_flies bound base s vs None e room =
    ([], refl, ([], λ i. record s { sent = append-nil s.sent i; up = append-nil s.up i }))
fresh_flies bound base s vs (Some w) e room =
    let next : Session = record s { sent = s.sent ++ w.request ∷ []; up = s.up ++ length s.sent ∷ [] } in (
      length s.sent ∷ [],
      (length s.sent, [], refl, e, last_stands s.sent w.request, refl),
      run_of_step bound s next
          (inl (record { request = w.request; room = room refl; whole = refl })),
    )

-- both, one after the other
pub all_fly : (bound : ℕ) → (base : ℕ) (s : Session) (again : Bool) (queue : List Held) (vs : ℕ) (fresh : Option Waiting)
    → ((i : ℕ) (held : Held) → slice_get queue i ≡ Some held → held.ns ≡ (base + (length s.confirmed + i)) % 256)
    → map request_of queue ≡ drop (length s.confirmed) s.sent → length s.confirmed ≤ length s.sent
    → vs ≡ (base + length s.sent) % 256 → (is_some fresh ≡ true → length s.sent < length s.confirmed + bound)
    → (ps : List ℕ)
    × AreFrames base (s.sent ++ requests_of fresh) (frames_again again queue ++ map (first_frame vs) (option_list fresh)) ps
    × SessionRun bound s (record s { sent = s.sent ++ requests_of fresh; up = s.up ++ ps })
all_fly bound base s again queue vs fresh numbers e few next room =
    let old = again_flies bound base s again queue numbers e few in
    let mid : Session = record s { up = s.up ++ old.0 } in
    let new = fresh_flies bound base mid vs fresh next room in
    let sent = s.sent ++ requests_of fresh in
    let last : SessionRun bound s (record s { sent = sent; up = (s.up ++ old.0) ++ new.0 }) =
    runs_on bound s mid (record s { sent = sent; up = (s.up ++ old.0) ++ new.0 }) old.2 new.2
    in (
      old.0 ++ new.0,
      frames_append base sent (frames_again again queue) (map (first_frame vs) (option_list fresh)) old.0 new.0
          (frames_grow base s.sent (requests_of fresh) (frames_again again queue) old.0 old.1)
          new.1,
      subst (λ (up : List ℕ). SessionRun bound s (record s { sent = sent; up = up })) (append_assoc s.up old.0 new.0) last,
    )

plain_queue : (queue : List Held) → HasNoSetVr (map frame_of queue)
plain_queue [] = tt
plain_queue (held ∷ queue) = plain_queue queue

plain_again : (again : Bool) (queue : List Held) → HasNoSetVr (frames_again again queue)
plain_again true queue = plain_queue queue
plain_again false queue = tt

plain_fresh : (vs : ℕ) (fresh : Option Waiting) → HasNoSetVr (map (first_frame vs) (option_list fresh))
plain_fresh vs None = tt
plain_fresh vs (Some w) = tt

-- no Set V(R) is among these frames
pub all_plain : (again : Bool) (queue : List Held) (vs : ℕ) (fresh : Option Waiting)
    → HasNoSetVr (frames_again again queue ++ map (first_frame vs) (option_list fresh))
all_plain again queue vs fresh =
    no_set_vr_append (frames_again again queue) (map (first_frame vs) (option_list fresh)) (plain_again again queue) (plain_fresh vs fresh)
