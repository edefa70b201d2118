-- With the tie, the link never refuses a request that may be released.
use Rattle.std.proofs.Common.{◌≡◌, ℕ, ◌==◌, true, false, ◌⊎◌, inl, inr, is_some, Option, Some, None, [], ◌∷◌, length, refl, sym, ◌∙◌}
use Rattle.std.specs.Prelude.{nat_lt}
use Rattle.tc_types.specs.declared.history.places.Place.TheVariants as place
use Rattle.tc_types.specs.declared.refusals.Refusal.{Refusal}
use Rattle.tc_types.specs.declared.refusals.Refusal.TheVariants.{Memory}
use Rattle.tc_types.specs.declared.link.directives.Directive.{Directive}
use Rattle.tc_types.specs.declared.link.directives.Directive.TheVariants as directive
use Rattle.tc_types.specs.declared.link.frames.Frame.{Frame}
use Rattle.tc_types.specs.declared.link.reports.Report.{Report}
use Rattle.tc_types.specs.declared.requests.Request.{Request}
use Rattle.tc_types.specs.declared.acts.LinkAct.{LinkAct}
use Rattle.tc_types.specs.declared.acts.LinkAct.TheVariants as link_act
use Rattle.tc_types.specs.declared.acts.Act.{Act}
use Rattle.tc_types.specs.declared.acts.Act.TheVariants as act
use Rattle.tc_fop.specs.Machine.{Machine, Waiting, option_list}
use Rattle.tc_fop.specs.Calls.{is_taking, is_initial, directed}
use Rattle.tc_fop.specs.Views.{view_of}
use Rattle.tc_fop.specs.Requests.{waiting_requests}
use Rattle.tc_world.specs.Links.{Kind}
use Rattle.tc_world.specs.World.{all_sent, is_known, refusal_in}
use Rattle.tc_book.specs.declared.stamps.Stamp.{Stamp}
use Rattle.tc_book.specs.Book.{Book, place_in, request_at}
use Rattle.tc_book.specs.Acts.{first_refusal}
use Rattle.tc_book.specs.Logs.{step_tests, released_with}
use Rattle.tc_desk.specs.State.{State, widest_k}
use Rattle.tc_desk.specs.Asks.{offer_at, event_of}
use Rattle.tc_desk.specs.Acts.{link_tests, tests_behind, refusal_of}
use Rattle.tc_desk.specs.Machine.{Refuses}
use Rattle.tc_desk.specs.Parts.{event_beside, event_asked, link_refuses, IsRefused}
use Rattle.tc_desk.specs.Places.{gone_places, StandsAt}
use Rattle.tc_desk.specs.Tied.{IsTied}
use Rattle.tc_book.proofs.PassingLemmas.{none_holds, not_false}
use Rattle.tc_desk.proofs.TiedLemmas.{only}
use Rattle.tc_desk.proofs.PlaceLemmas.{none_of, any_behind}
use Rattle.tc_desk.proofs.StepLemmas.{none_behind}
use Rattle.tc_desk.proofs.FairLemmas.{neither}

unknown_to_link : {U D : Type 0} (o : ℕ) (at : State U D) (n : ℕ) → IsTied o at → StandsAt (place.Approved ∷ []) at.book n → is_known n at.world ≡ false
unknown_to_link o at n tied here =
    any_behind (λ (m : ℕ). m == n) (all_sent at.world) (waiting_requests at.world.fop)
    (none_of gone_places at.book n (all_sent at.world) (only place.Approved gone_places (place_in at.book n) here) tied.sent)
    (none_of (place.Queued ∷ []) at.book n (waiting_requests at.world.fop) (only place.Approved (place.Queued ∷ []) (place_in at.book n) here) tied.waits)

-- the link refuses nothing that the tests of a release let pass
release_agrees : {U D : Type 0} (o : ℕ) (stamp : Stamp) (at : State U D) (n : ℕ) (request : Option Request) → IsTied o at → refusal_of stamp at (act.Link (link_act.Release n)) ≡ None → link_refuses (offer_at at.book n request) at.world ≡ None
release_agrees o stamp at n None tied passes = refl
release_agrees o stamp at n (Some request) tied passes =
    let tests = none_holds (link_tests at.book (view_of at.world.fop) (widest_k at.world.farm.window) at.board.time (link_act.Release n)) passes in
    let unknown : is_known n at.world ≡ false = unknown_to_link o at n tied (not_false _ tests.1.1.0) in
    let taking : is_taking at.world.fop.state ≡ true = not_false _ tests.1.1.1.1.1.0 in
    let free : is_some at.world.fop.waiting ≡ false = none_there at.world.fop.waiting (not_false _ tests.1.1.1.1.1.1.0) in
    rw (unknown, taking, free) refl
  where
    none_there : (w : Option Waiting) → (length (option_list w) == 0) ≡ true → is_some w ≡ false
    none_there None h = refl
    none_there (Some w) h = cc

-- nor of a directive
directive_agrees : (book : Book) (m : Machine) (widest now : ℕ) (given : Directive) → first_refusal (link_tests book (view_of m) widest now (link_act.Direct given)) ≡ None → refusal_in (directed m given) ≡ None
directive_agrees book m widest now directive.InitiateNone e = let tests = none_holds (link_tests book (view_of m) widest now (link_act.Direct directive.InitiateNone)) e in let here : is_initial m.state ≡ true = not_false _ tests.0 in rw here refl
directive_agrees book m widest now directive.InitiateCheck e = let tests = none_holds (link_tests book (view_of m) widest now (link_act.Direct directive.InitiateCheck)) e in let here : is_initial m.state ≡ true = not_false _ tests.0 in rw here refl
directive_agrees book m widest now directive.InitiateUnlock e = let tests = none_holds (link_tests book (view_of m) widest now (link_act.Direct directive.InitiateUnlock)) e in let here : is_initial m.state ≡ true = not_false _ tests.0 in rw here refl
directive_agrees book m widest now (directive.InitiateSetVr v) e = let tests = none_holds (link_tests book (view_of m) widest now (link_act.Direct (directive.InitiateSetVr v))) e in let here : is_initial m.state ≡ true = not_false _ tests.0 in rw here refl
directive_agrees book m widest now directive.Terminate e = refl
directive_agrees book m widest now (directive.SetVs v) e = let tests = none_holds (link_tests book (view_of m) widest now (link_act.Direct (directive.SetVs v))) e in let here : is_initial m.state ≡ true = not_false _ tests.0 in rw here refl
directive_agrees book m widest now (directive.SetK k) e = let tests = none_holds (link_tests book (view_of m) widest now (link_act.Direct (directive.SetK k))) e in let here : (k == 0) ≡ false = (neither (k == 0) (nat_lt widest k) tests.0).0 in rw here refl
directive_agrees book m widest now (directive.SetT1 t1) e = let tests = none_holds (link_tests book (view_of m) widest now (link_act.Direct (directive.SetT1 t1))) e in let here : (t1 == 0) ≡ false = tests.0 in rw here refl
directive_agrees book m widest now (directive.SetLimit limit) e = let tests = none_holds (link_tests book (view_of m) widest now (link_act.Direct (directive.SetLimit limit))) e in let here : (limit == 0) ≡ false = tests.0 in rw here refl

-- where no test of an act on the link holds, the link refuses nothing
flight_agrees : {U D : Type 0} (o : ℕ) (stamp : Stamp) (at : State U D) (given : LinkAct) → IsTied o at → refusal_of stamp at (act.Link given) ≡ None → link_refuses (event_of at given) at.world ≡ None
flight_agrees o stamp at (link_act.Release n) tied passes = release_agrees o stamp at n (request_at at.book n) tied passes
flight_agrees o stamp at (link_act.Direct given) tied passes = directive_agrees at.book at.world.fop (widest_k at.world.farm.window) at.board.time given passes
flight_agrees o stamp at link_act.Tick tied passes = refl
flight_agrees o stamp at link_act.Up tied passes = refl
flight_agrees o stamp at (link_act.LoseUp place) tied passes = refl
flight_agrees o stamp at (link_act.LoseDown place) tied passes = refl
flight_agrees o stamp at link_act.Clcw tied passes = refl
flight_agrees o stamp at link_act.Down tied passes = refl
flight_agrees o stamp at link_act.Work tied passes = refl
flight_agrees o stamp at (link_act.Clock time) tied passes = refl

-- nor where the tests behind a record let pass
beside_agrees : {U D : Type 0} (o : ℕ) (stamp : Stamp) (at : State U D) (beside : Option ℕ) → IsTied o at → first_refusal (tests_behind at.book (view_of at.world.fop) (widest_k at.world.farm.window) at.board.time beside) ≡ None
    → link_refuses (event_beside at beside) at.world ≡ None
beside_agrees o stamp at None tied passes = refl
beside_agrees o stamp at (Some n) tied passes = release_agrees o stamp at n (request_at at.book n) tied passes

agrees : {U D : Type 0} (o : ℕ) (stamp : Stamp) (at : State U D) (given : Act) → IsTied o at → refusal_of stamp at given ≡ None → link_refuses (event_asked at given) at.world ≡ None
agrees o stamp at (act.Book given) tied passes = refl
agrees o stamp at (act.Link given) tied passes = flight_agrees o stamp at given tied passes
agrees o stamp at (act.Step given) tied passes = beside_agrees o stamp at (released_with at.book given) tied (none_behind (step_tests stamp at.book given) _ passes)
agrees o stamp at (act.Ask asked) tied passes = refl

-- so a refusal is the first test that holds, or memory
pub refused_exact : {U D : Type 0} (o : ℕ) (up : Kind U Frame) (down : Kind D Report) (stamp : Stamp) (given : Act) (old new : State U D) (refused : Refusal)
    → IsRefused up down stamp given old new refused → IsTied o old → Refuses up down stamp given old new refused
refused_exact o up down stamp given old new refused is tied = record { why = why is.why; same = is.same }
  where
    why : (refusal_of stamp old given ≡ Some refused) ⊎ ((refusal_of stamp old given ≡ None) × ((refused ≡ Memory) ⊎ (link_refuses (event_asked old given) old.world ≡ Some refused)))
        → (refusal_of stamp old given ≡ Some refused) ⊎ ((refusal_of stamp old given ≡ None) × (refused ≡ Memory))
    why (inl test) = inl test
    why (inr (none, inl memory)) = inr (none, memory)
    why (inr (none, inr link)) = let no : None ≡ Some refused = sym (agrees o stamp old given tied none) ∙ link in cc
