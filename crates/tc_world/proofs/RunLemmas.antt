-- Events in turn.
use Rattle.std.proofs.Common.{◌≡◌, true, ℕ, ◌+◌, ◌<◌, List, [], ◌∷◌, ◌++◌, length, map, take, get_or, refl, sym, subst}
use Rattle.std.proofs.lemmas.List.{take_more, map-append}
use Rattle.tc_types.specs.declared.link.frames.Frame.{Frame}
use Rattle.tc_types.specs.declared.link.reports.Report.{Report}
use Rattle.tc_world.specs.declared.events.Event.{Event}
use Rattle.tc_world.specs.declared.events.LinkIndication.{LinkIndication}
use Rattle.tc_world.specs.Links.{Kind}
use Rattle.tc_world.specs.Abstraction.{Bare, seen}
use Rattle.tc_world.specs.Window.{Follows, FollowsThrough}
use Rattle.tc_world.specs.World.{Whole, Happens}
use Rattle.tc_world.specs.Runs.{Runs, RunsFairly, RunsOn}
use Rattle.std.specs.List.{list_all}
use Rattle.tc_world.specs.Fair.{is_fair}
use Rattle.tc_world.proofs.Claims.{follows_push}

-- one event behind others
runs_push : {U D : Type 0} (uplink : Kind U Frame) (downlink : Kind D Report) (events : List Event) (given : Event) (old : Whole U D) (worlds : List (Whole U D)) (mid new : Whole U D) (answer : List LinkIndication) → Runs uplink downlink events old worlds mid → Happens uplink downlink given mid new answer → Runs uplink downlink (events ++ given ∷ []) old (worlds ++ new ∷ []) new
runs_push {U} {D} uplink downlink [] given old [] mid new answer same happens =
    (answer, subst (λ (w : Whole U D). Happens uplink downlink given w new answer) same happens, refl)
runs_push uplink downlink [] given old (next ∷ worlds) mid new answer runs happens = absurd runs
runs_push uplink downlink (first ∷ others) given old [] mid new answer runs happens = absurd runs
runs_push uplink downlink (first ∷ others) given old (next ∷ worlds) mid new answer runs happens =
    (runs.0, runs.1, runs_push uplink downlink others given next worlds mid new answer runs.2 happens)

-- one event behind others, that tells no other alert than those that may come
fairly_push : {U D : Type 0} (uplink : Kind U Frame) (downlink : Kind D Report) (events : List Event) (given : Event) (old : Whole U D) (worlds : List (Whole U D)) (mid new : Whole U D) (answer : List LinkIndication) → RunsFairly uplink downlink events old worlds mid → Happens uplink downlink given mid new answer → list_all (is_fair mid.level mid.fop.state) answer ≡ true → RunsFairly uplink downlink (events ++ given ∷ []) old (worlds ++ new ∷ []) new
fairly_push {U} {D} uplink downlink [] given old [] mid new answer same happens tells = (
  answer,
  subst (λ (w : Whole U D). Happens uplink downlink given w new answer) same happens,
  subst (λ (w : Whole U D). list_all (is_fair w.level w.fop.state) answer ≡ true) same tells,
  refl,
)
fairly_push uplink downlink [] given old (next ∷ worlds) mid new answer runs happens tells = absurd runs
fairly_push uplink downlink (first ∷ others) given old [] mid new answer runs happens tells = absurd runs
fairly_push uplink downlink (first ∷ others) given old (next ∷ worlds) mid new answer runs happens tells =
    (runs.0, runs.1, runs.2, fairly_push uplink downlink others given next worlds mid new answer runs.3 happens tells)

-- one more turn of a loop over the events
pub runs_more : {U D : Type 0} (uplink : Kind U Frame) (downlink : Kind D Report) (events : List Event) (k : ℕ) (d : Event) (old mid new : Whole U D) (answer : List LinkIndication)
    → k < length events → RunsOn uplink downlink (take k events) old mid → Happens uplink downlink (get_or events k d) mid new answer
    → (new.clean ≡ true → mid.clean ≡ true) → (new.clean ≡ true → Follows (seen uplink downlink mid) (seen uplink downlink new))
    → (new.fits ≡ true → mid.fits ≡ true) → (new.clean ≡ true → new.fits ≡ true → list_all (is_fair mid.level mid.fop.state) answer ≡ true)
    → RunsOn uplink downlink (take (k + 1) events) old new
runs_more {U} {D} uplink downlink events k d old mid new answer within runs happens was follows was_fitting fair =
    let bare : Whole U D → Bare = λ w. seen uplink downlink w in
    record {
      worlds = runs.worlds ++ new ∷ [];
      happen =
          subst (λ (xs : List Event). Runs uplink downlink xs old (runs.worlds ++ new ∷ []) new) (sym (take_more events k d within))
          (runs_push uplink downlink (take k events) (get_or events k d) old runs.worlds mid new answer runs.happen happens);
      window = λ clean.
          subst (λ (bares : List Bare). FollowsThrough (bare old) bares (bare new)) (sym (map-append bare runs.worlds (new ∷ [])))
          (follows_push (bare old) (bare mid) (map bare runs.worlds) (bare new) (runs.window (was clean)) (follows clean));
      fair = λ clean fits.
          subst (λ (xs : List Event). RunsFairly uplink downlink xs old (runs.worlds ++ new ∷ []) new) (sym (take_more events k d within))
          (fairly_push uplink downlink (take k events) (get_or events k d) old runs.worlds mid new answer (runs.fair (was clean) (was_fitting fits)) happens (fair clean fits));
    }

-- no event yet
pub runs_none : {U D : Type 0} (uplink : Kind U Frame) (downlink : Kind D Report) (w : Whole U D) → RunsOn uplink downlink [] w w
runs_none uplink downlink w = record { worlds = []; happen = refl; window = λ clean. refl; fair = λ clean fits. refl }
