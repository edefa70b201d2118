-- What flies, from what stands between events.
use Rattle.std.proofs.Common.{◌≡◌, ℕ, zero, suc, ◌+◌, ◌%◌, ◌<◌, true, false, inl, inr, Some, List, [], ◌∷◌, length, slice_get, sym, ◌∙◌, ap, subst, arith}
use Rattle.tc_types.specs.declared.link.frames.Frame.{Frame}
use Rattle.tc_types.specs.declared.link.frames.Frame.TheVariants.{Ad, Unlock, SetVr}
use Rattle.tc_fop.specs.Requests.{waiting_requests}
use Rattle.tc_world.specs.Logs.{Log}
use Rattle.tc_world.specs.Session.{nothing_yet}
use Rattle.tc_world.specs.Abstraction.{Bare, position_of, session_of}
use Rattle.tc_world.specs.Window.{Distinct}
use Rattle.tc_world.specs.Kept.{IsKept, IsSane, IsInWindow, AreFrames, AreControls}
use Rattle.tc_world.specs.Flight.{AreNumbered, FliesInOrder}
use Rattle.tc_world.proofs.Abstracted.{position_at, session_started, session_unstarted}
use Rattle.tc_world.proofs.Newest.{distinct_newest}
use Rattle.tc_world.proofs.Starting.{zeros_window}

-- a number that stands at a place stands before the end
within_at : (xs : List ℕ) (n x : ℕ) → slice_get xs n ≡ Some x → n < length xs
within_at [] n x stands = cc
within_at (first ∷ others) zero x stands = omega arith
within_at (first ∷ others) (suc n) x stands = omega (arith, within_at others n x stands)

-- frames that fly for positions have their numbers
frames_numbered : (log : Log) (fs : List Frame) (ns : List ℕ) → Distinct log.sent → AreFrames log.base log.sent fs ns → AreNumbered log fs
frames_numbered log [] ns distinct frames = tt
frames_numbered log (Ad number request body ∷ fs) ns distinct (n, others, is, value, stands, rest) =
    let at : position_of request log.sent ≡ n = position_at log.sent n request distinct stands in (
      subst (λ (k : ℕ). k < length log.sent) (sym at) (within_at log.sent n request stands),
      value ∙ ap (λ (k : ℕ). (log.base + k) % 256) (sym at),
      frames_numbered log fs others distinct rest,
    )
frames_numbered log (Unlock ∷ fs) ns distinct frames = frames_numbered log fs ns distinct frames
frames_numbered log (SetVr v ∷ fs) ns distinct frames = frames_numbered log fs ns distinct frames

-- control commands have none
controls_numbered : (log : Log) (base : ℕ) (fs : List Frame) → AreControls base fs → AreNumbered log fs
controls_numbered log base [] controls = tt
controls_numbered log base (Ad number request body ∷ fs) controls = absurd controls
controls_numbered log base (Unlock ∷ fs) controls = controls_numbered log base fs controls
controls_numbered log base (SetVr v ∷ fs) controls = controls_numbered log base fs controls.1

nothing_in_window : IsInWindow 255 nothing_yet
nothing_in_window = zeros_window 255 (omega arith) 0 [] tt

sane_flies : (w : Bare) → Distinct w.newest.sent → IsSane 255 w → FliesInOrder w
sane_flies w distinct (inl (started, kept)) =
    let is : session_of w ≡ nothing_yet = session_unstarted w started kept in
    record {
      numbered = controls_numbered w.newest w.newest.base w.up kept.up;
      unstarted = λ e. (kept.up, is);
      bounds = subst (IsInWindow 255) (sym is) nothing_in_window;
    }
sane_flies w distinct (inr (ns, rs, started, kept)) = record {
  numbered = frames_numbered w.newest w.up ns distinct kept.frames;
  unstarted = λ e. absurd (let not : true ≡ false = sym started ∙ e in cc);
  bounds = subst (IsInWindow 255) (sym (session_started 255 w ns rs started distinct kept)) kept.window;
}

pub flies_in_order : (w : Bare) → IsKept w → w.clean ≡ true → FliesInOrder w
flies_in_order w kept clean = sane_flies w (distinct_newest w (waiting_requests w.fop) kept.distinct) (kept.sane clean)
