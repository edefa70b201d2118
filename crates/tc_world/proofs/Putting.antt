-- What a call of the FOP puts out in a session that has started, in S1 to S3 and in S6.
use Rattle.std.proofs.Common.{◌≡◌, ℕ, zero, suc, ◌+◌, ◌-◌, ◌%◌, ◌<◌, ◌≤◌, ◌⊎◌, inl, inr, ⊎_elim, true, is_some, Option, Some, List, [], ◌∷◌, ◌++◌, map, length, take, drop, slice_get, refl, sym, ◌∙◌, ap, subst, zero-add, arith}
use Rattle.std.proofs.lemmas.Bool.{false≢true, cases_Bool}
use Rattle.std.proofs.lemmas.List.{append-nil, length-append, length-map, length-take-le, length-drop, drop-drop, drop-map, drop-append-le}
use Rattle.tc_types.specs.declared.link.frames.Frame.{Frame}
use Rattle.tc_farm.specs.declared.clcws.Clcw.{Clcw}
use Rattle.tc_fop.specs.declared.signals.FopState.{FopState}
use Rattle.tc_fop.specs.declared.signals.FopState.TheVariants.{Active, RetransmitWithoutWait, RetransmitWithWait, InitialisingWithoutBc, InitialisingWithBc, Initial}
use Rattle.tc_fop.specs.Machine.{Machine, Held, Waiting, Out, nothing, option_list}
use Rattle.tc_fop.specs.Calls.{is_taking}
use Rattle.tc_fop.specs.Standing.{IsFop}
use Rattle.tc_fop.specs.Requests.{sent_requests, acknowledged}
use Rattle.tc_fop.specs.Moves.{MovesIn, Advances, GoesOn, Rests, confirmed_in, transmitted_in}
use Rattle.tc_world.specs.Logs.{Log}
use Rattle.tc_world.specs.Session.{Session, SessionRun}
use Rattle.tc_world.specs.Abstraction.{session_with}
use Rattle.tc_world.specs.Kept.{AreFrames, HasNoSetVr, IsInWindow, Stands}
use Rattle.tc_world.proofs.Sending.{request_of, requests_of, all_fly, all_plain}

-- the session with what the call confirms
abbrev pub session_after : Log → Out → List ℕ → List ℕ → Session
session_after log out ns rs = session_with (record log { confirmed = log.confirmed ++ confirmed_in out }) ns rs

-- The frames that are put out fly for these positions, by a run of the session; none is a Set V(R); the service stands
-- for the session after it, or has stopped.
pub record Putting (bound : ℕ) (base : ℕ) (s : Session) (new : Machine) (out : Out) : Type 0 where
  pub ps : List ℕ
  pub frames : AreFrames base (s.sent ++ transmitted_in out) out.frames ps
  pub run : SessionRun bound s (record s { sent = s.sent ++ transmitted_in out; up = s.up ++ ps })
  pub plain : HasNoSetVr out.frames
  pub fop : (up : List ℕ) → ((is_taking new.state ≡ true) × Stands base (record s { sent = s.sent ++ transmitted_in out; up = up }) new) ⊎ (new.state ≡ Initial)

-- in S1 to S3
pub taking_advances : (state : FopState) (heard : Option Clcw) (old new : Machine) (out : Out) → is_taking state ≡ true
    → MovesIn state heard old new out → Advances (acknowledged old heard) old new out
taking_advances Active heard old new out t moves = moves
taking_advances RetransmitWithoutWait heard old new out t moves = moves
taking_advances RetransmitWithWait heard old new out t moves = moves
taking_advances InitialisingWithoutBc heard old new out t moves = absurd (false≢true t)
taking_advances InitialisingWithBc heard old new out t moves = absurd (false≢true t)
taking_advances Initial heard old new out t moves = absurd (false≢true t)

-- an item behind a front
item_behind : {X : Type 0} (d : ℕ) (xs : List X) (i : ℕ) → slice_get (drop d xs) i ≡ slice_get xs (d + i)
item_behind zero xs i = ap (λ j. slice_get xs j) (sym (zero-add i))
item_behind (suc d) [] i = refl
item_behind (suc d) (x ∷ xs) i =
    let e : suc (d + i) ≡ suc d + i = omega arith in
    item_behind d xs i ∙ ap (λ j. slice_get (x ∷ xs) j) e

-- as many are out as were sent and not confirmed
out_count : (base : ℕ) (log : Log) (ns rs : List ℕ) (m : Machine) → Stands base (session_with log ns rs) m
    → length m.sent ≡ length log.sent - length log.confirmed
out_count base log ns rs m stands =
    sym (length-map m.sent request_of) ∙ ap length stands.sent ∙ length-drop (length log.confirmed) log.sent

-- how many are confirmed after the call
confirmed_count : (log : Log) (old : Machine) (out : Out) (confirmed : ℕ) → confirmed ≤ length old.sent
    → confirmed_in out ≡ take confirmed (sent_requests old)
    → length (log.confirmed ++ confirmed_in out) ≡ length log.confirmed + confirmed
confirmed_count log old out confirmed few e =
    let same = length-map old.sent request_of in
    let within : confirmed ≤ length (sent_requests old) = omega (arith, few, same) in
    length-append log.confirmed (confirmed_in out)
    ∙ ap (λ (k : ℕ). length log.confirmed + k) (ap length e ∙ length-take-le confirmed (sent_requests old) within)

-- the service goes on, and stands for the session after the call
goes_standing : (base : ℕ) (log : Log) (ns rs up : List ℕ) (old new : Machine) (out : Out) (confirmed : ℕ) (fresh : Option Waiting)
    → Stands base (session_with log ns rs) old → length log.confirmed + confirmed ≤ length log.sent
    → length (log.confirmed ++ confirmed_in out) ≡ length log.confirmed + confirmed → transmitted_in out ≡ requests_of fresh
    → GoesOn confirmed fresh old new
    → Stands base (record (session_after log out ns rs) { sent = log.sent ++ transmitted_in out; up = up }) new
goes_standing base log ns rs up old new out confirmed fresh stands within many transmits goes =
    let old_nn = stands.nn in
    let new_nn = goes.nn in
    let old_vs = stands.vs in
    let new_vs = goes.vs in
    let more : length (log.sent ++ transmitted_in out) ≡ length log.sent + length (option_list fresh) =
    length-append log.sent (transmitted_in out)
    ∙ ap (λ (k : ℕ). length log.sent + k) (ap length transmits ∙ length-map (option_list fresh) (λ (w : Waiting). w.request))
    in
    record {
      nn = omega (arith, old_nn, new_nn, many);
      vs = omega (arith, old_vs, new_vs, more);
      sent = goes.sent
          ∙ ap (λ (l : List ℕ). drop confirmed l ++ requests_of fresh) stands.sent
          ∙ ap (λ (l : List ℕ). l ++ requests_of fresh) (drop-drop confirmed (length log.confirmed) log.sent)
          ∙ sym (drop-append-le (length log.confirmed + confirmed) log.sent (requests_of fresh) within)
          ∙ ap (λ (k : ℕ). drop k (log.sent ++ requests_of fresh)) (sym many)
          ∙ ap (λ (l : List ℕ). drop (length (log.confirmed ++ confirmed_in out)) (log.sent ++ l)) (sym transmits);
    }

-- S1 to S3
pub advance_puts : (bound : ℕ) → (base : ℕ) (log : Log) (ns rs : List ℕ) (acknowledged : ℕ) (old new : Machine) (out : Out) → IsFop old → old.k ≤ bound
    → Stands base (session_with log ns rs) old → IsInWindow bound (session_with log ns rs) → Advances acknowledged old new out
    → Putting bound base (session_after log out ns rs) new out
advance_puts bound base log ns rs acknowledged old new out is_fop fits stands window a =
    let s = session_after log out ns rs in
    let size = out_count base log ns rs old stands in
    let some = a.few in
    let many = confirmed_count log old out a.confirmed a.few a.confirms in
    let below = window.confirmed_few in
    let above = window.accepted_few in
    let within : length log.confirmed + a.confirmed ≤ length log.sent = omega (arith, size, some, below, above) in
    let few : length s.confirmed ≤ length log.sent = omega (arith, many, within) in
    let queue = drop a.confirmed old.sent in
    let rest : map request_of queue ≡ drop (length s.confirmed) log.sent =
    sym (drop-map request_of a.confirmed old.sent)
    ∙ ap (λ (l : List ℕ). drop a.confirmed l) stands.sent
    ∙ drop-drop a.confirmed (length log.confirmed) log.sent
    ∙ ap (λ (k : ℕ). drop k log.sent) (sym many)
    in
    let numbers : (i : ℕ) (held : Held) → slice_get queue i ≡ Some held → held.ns ≡ (base + (length s.confirmed + i)) % 256 =
    λ i held there.
    let known = is_fop.numbered.each (a.confirmed + i) held (sym (item_behind a.confirmed old.sent i) ∙ there) in
    let nn = stands.nn in
    omega (arith, known, nn, many)
    in
    let left = length-drop a.confirmed old.sent in
    let room : is_some a.fresh ≡ true → length log.sent < length s.confirmed + bound =
    λ t. let few_left = a.few_out t in omega (arith, few_left, left, size, many, within, fits)
    in
    let flies = all_fly bound base s a.again queue old.vs a.fresh numbers rest few stands.vs room in
    let sent = log.sent ++ requests_of a.fresh in
    record {
      ps = flies.0;
      frames = subst (λ (l : List ℕ). AreFrames base (log.sent ++ l) out.frames flies.0) (sym a.transmits)
          (subst (λ (fs : List Frame). AreFrames base sent fs flies.0) (sym a.frames) flies.1);
      run = subst (λ (l : List ℕ). SessionRun bound s (record s { sent = log.sent ++ l; up = ns ++ flies.0 })) (sym a.transmits) flies.2;
      plain = subst (λ (fs : List Frame). HasNoSetVr fs) (sym a.frames) (all_plain a.again queue old.vs a.fresh);
      fop = λ up. ⊎_elim
          (λ t. inl (t, goes_standing base log ns rs up old new out a.confirmed a.fresh stands within many a.transmits (a.goes_on t)))
          (λ f. inr ((a.stops f).0))
          (cases_Bool (is_taking new.state));
    }

-- S6
pub rest_puts : (bound : ℕ) → (base : ℕ) (log : Log) (ns rs : List ℕ) (old new : Machine) (out : Out) → Rests old new out
    → Putting bound base (session_after log out ns rs) new out
rest_puts bound base log ns rs old new out rests =
    let s = session_after log nothing ns rs in
    let silent : Putting bound base s new nothing = record {
      ps = [];
      frames = refl;
      run = ([], λ i. record s { sent = append-nil s.sent i; up = append-nil s.up i });
      plain = tt;
      fop = λ up. inr rests.state;
    }
    in
    subst (λ (o : Out). Putting bound base (session_after log o ns rs) new o) (sym rests.silent) silent
