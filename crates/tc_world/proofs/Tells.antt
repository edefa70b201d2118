-- What an event tells of requests is what becomes of them.
use Rattle.std.proofs.Common.{◌≡◌, ℕ, Bool, true, false, inl, inr, List, [], ◌∷◌, ◌++◌, map, refl, sym, ◌∙◌, ap, subst, append-nil, append_assoc}
use Rattle.std.specs.Prelude.{MatchBool}
use Rattle.std.specs.List.{flat_map}
use Rattle.std.proofs.lemmas.Grind.{flat_map-append}
use Rattle.std.proofs.lemmas.List.Folds.{flat_map-map}
use Rattle.tc_types.specs.declared.link.frames.Frame.{Frame}
use Rattle.tc_types.specs.declared.link.reports.Report.{Report}
use Rattle.tc_types.specs.declared.link.reports.Report.TheVariants.{Word, Telemetry}
use Rattle.tc_farm.specs.Farm.{verdict_of}
use Rattle.tc_types.specs.declared.link.directives.Directive.{Directive}
use Rattle.tc_fop.specs.declared.signals.Indication.{Indication as Signal}
use Rattle.tc_fop.specs.Machine.{Action, after, output}
use Rattle.tc_fop.specs.Calls.{offered, directed, reported, ticked}
use Rattle.tc_fop.specs.Standing.{IsFop}
use Rattle.tc_fop.specs.Laws.{AtWords, AtTicks, AtOffers, AtDirectives}
use Rattle.tc_fop.specs.Requests.{KeepsOrder, waiting_requests}
use Rattle.tc_fop.specs.Moves.{is_initiation}
use Rattle.tc_world.specs.declared.events.Event.{Event}
use Rattle.tc_world.specs.declared.events.Event.TheVariants as event
use Rattle.tc_world.specs.declared.events.LinkIndication.{LinkIndication}
use Rattle.tc_world.specs.declared.events.LinkIndication.TheVariants.{Fop, Farm, Received, Transmitted}
use Rattle.tc_world.specs.Links.{Kind}
use Rattle.tc_world.specs.Logs.{Log, accepted_by}
use Rattle.tc_world.specs.World.{unjudged, Whole, Happens, Carries, Begins, Boards, Hears, told_of_loss}
use Rattle.tc_world.specs.Telling.{TellsRequests, leaves_said, sent_said, accepted_said, confirmed_said, offered_by}
use Rattle.tc_world.proofs.Assembly.{answers_of}

-- the law of tc_fop for each kind of call
pub record Orders : Type 0 where
  pub words : AtWords KeepsOrder
  pub ticks : AtTicks KeepsOrder
  pub offers : AtOffers KeepsOrder
  pub directives : AtDirectives KeepsOrder

-- ---- what is written down over all sessions

all_is : (part : Log → List ℕ) (past : List Log) (newest : Log) → flat_map part (past ++ newest ∷ []) ≡ flat_map part past ++ part newest
all_is part past newest =
    flat_map-append part past (newest ∷ []) ∙ ap (λ (l : List ℕ). flat_map part past ++ l) (append-nil (part newest))

-- the newest session goes on
grown : {U D : Type 0} (part : Log → List ℕ) (old new : Whole U D) (more : List ℕ) → new.past ≡ old.past → part new.newest ≡ part old.newest ++ more
    → flat_map part (new.past ++ new.newest ∷ []) ≡ flat_map part (old.past ++ old.newest ∷ []) ++ more
grown part old new more past newest =
    let earlier = flat_map part old.past in
    all_is part new.past new.newest
    ∙ ap (λ (logs : List Log). flat_map part logs ++ part new.newest) past
    ∙ ap (λ (l : List ℕ). earlier ++ l) newest
    ∙ sym (append_assoc earlier (part old.newest) more)
    ∙ ap (λ (l : List ℕ). l ++ more) (sym (all_is part old.past old.newest))

-- another begins
begun : {U D : Type 0} (part : Log → List ℕ) (old new : Whole U D) (more : List ℕ) → new.past ≡ old.past ++ old.newest ∷ [] → part new.newest ≡ more
    → flat_map part (new.past ++ new.newest ∷ []) ≡ flat_map part (old.past ++ old.newest ∷ []) ++ more
begun part old new more past newest =
    all_is part new.past new.newest
    ∙ ap (λ (logs : List Log). flat_map part logs ++ part new.newest) past
    ∙ ap (λ (l : List ℕ). flat_map part (old.past ++ old.newest ∷ []) ++ l) newest

-- nothing more
no_more : (xs more : List ℕ) → more ≡ [] → xs ≡ xs ++ more
no_more xs more none = sym (append-nil xs) ∙ ap (λ (l : List ℕ). xs ++ l) (sym none)

-- ---- what the FOP tells

-- the FOP tells of no acceptance on board
none_accepted : (signals : List Signal) → flat_map accepted_said (map Fop signals) ≡ []
none_accepted [] = refl
none_accepted (signal ∷ signals) = none_accepted signals

-- what is said by an answer of the FOP's
of_fop : (in_link : LinkIndication → List ℕ) (answer : List LinkIndication) (signals : List Signal) → answer ≡ map Fop signals
    → flat_map in_link answer ≡ flat_map (λ (signal : Signal). in_link (Fop signal)) signals
of_fop in_link answer signals is = ap (λ (l : List LinkIndication). flat_map in_link l) is ∙ flat_map-map in_link Fop signals

carries_tells : {U D : Type 0} (uplink : Kind U Frame) (given : Event) (actions : List Action) (old new : Whole U D) (answer : List LinkIndication)
    → Carries uplink actions old new answer → KeepsOrder (offered_by given) old.fop new.fop (output actions old.fop)
    → TellsRequests given old new answer
carries_tells {U} {D} uplink given actions old new answer h order =
    let signals = (output actions old.fop).indications in
    let past : new.past ≡ old.past = ap (λ (x : Whole U D). x.past) h.whole in
    record {
      waits = order ∙ ap (λ (l : List ℕ). l ++ waiting_requests new.fop) (sym (of_fop leaves_said answer signals h.answered));
      sent = grown (λ (log : Log). log.sent) old new (flat_map sent_said answer) past
          (ap (λ (x : Whole U D). x.newest.sent) h.whole ∙ ap (λ (l : List ℕ). old.newest.sent ++ l) (sym (of_fop sent_said answer signals h.answered)));
      accepted = grown (λ (log : Log). log.accepted) old new (flat_map accepted_said answer) past
          (ap (λ (x : Whole U D). x.newest.accepted) h.whole
          ∙ no_more old.newest.accepted (flat_map accepted_said answer)
          (ap (λ (l : List LinkIndication). flat_map accepted_said l) h.answered ∙ none_accepted signals));
      confirmed = grown (λ (log : Log). log.confirmed) old new (flat_map confirmed_said answer) past
          (ap (λ (x : Whole U D). x.newest.confirmed) h.whole
          ∙ ap (λ (l : List ℕ). old.newest.confirmed ++ l) (sym (of_fop confirmed_said answer signals h.answered)));
    }

begins_tells : {U D : Type 0} (uplink : Kind U Frame) (downlink : Kind D Report) (given : Directive) (actions : List Action) (old new : Whole U D) (answer : List LinkIndication)
    → Begins uplink downlink given actions old new answer → KeepsOrder [] old.fop new.fop (output actions old.fop)
    → TellsRequests (event.Directive given) old new answer
begins_tells {U} {D} uplink downlink given actions old new answer h order =
    let signals = (output actions old.fop).indications in
    let past : new.past ≡ old.past ++ old.newest ∷ [] = ap (λ (x : Whole U D). x.past) h.whole in
    record {
      waits = order ∙ ap (λ (l : List ℕ). l ++ waiting_requests new.fop) (sym (of_fop leaves_said answer signals h.answered));
      sent = begun (λ (log : Log). log.sent) old new (flat_map sent_said answer) past
          (ap (λ (x : Whole U D). x.newest.sent) h.whole ∙ sym (of_fop sent_said answer signals h.answered));
      accepted = begun (λ (log : Log). log.accepted) old new (flat_map accepted_said answer) past
          (ap (λ (x : Whole U D). x.newest.accepted) h.whole
          ∙ sym (ap (λ (l : List LinkIndication). flat_map accepted_said l) h.answered ∙ none_accepted signals));
      confirmed = begun (λ (log : Log). log.confirmed) old new (flat_map confirmed_said answer) past
          (ap (λ (x : Whole U D). x.newest.confirmed) h.whole ∙ sym (of_fop confirmed_said answer signals h.answered));
    }

directs_tells : {U D : Type 0} (uplink : Kind U Frame) (downlink : Kind D Report) (given : Directive) (actions : List Action) (old new : Whole U D) (answer : List LinkIndication) (initiation : Bool)
    → MatchBool initiation (Begins uplink downlink given actions old new answer) (Carries uplink actions old new answer)
    → (new.fop ≡ after actions old.fop → KeepsOrder [] old.fop new.fop (output actions old.fop))
    → TellsRequests (event.Directive given) old new answer
directs_tells {U} {D} uplink downlink given actions old new answer true h order =
    begins_tells uplink downlink given actions old new answer h (order (ap (λ (x : Whole U D). x.fop) h.whole))
directs_tells {U} {D} uplink downlink given actions old new answer false h order =
    carries_tells uplink (event.Directive given) actions old new answer h (order (ap (λ (x : Whole U D). x.fop) h.whole))

-- ---- what the FOP has no part in

-- nothing is told of requests
record IsSilent (answer : List LinkIndication) : Type 0 where
  leaves : flat_map leaves_said answer ≡ []
  sent : flat_map sent_said answer ≡ []
  accepted : flat_map accepted_said answer ≡ []
  confirmed : flat_map confirmed_said answer ≡ []

silent_none : IsSilent []
silent_none = record { leaves = refl; sent = refl; accepted = refl; confirmed = refl }

silent_loss : (found : Bool) → IsSilent (told_of_loss found)
silent_loss true = record { leaves = refl; sent = refl; accepted = refl; confirmed = refl }
silent_loss false = silent_none

silent_report : (item : Report) → IsSilent (Received item ∷ [])
silent_report item = record { leaves = refl; sent = refl; accepted = refl; confirmed = refl }

silent_frame : (frame : Frame) → IsSilent (Transmitted frame ∷ [])
silent_frame frame = record { leaves = refl; sent = refl; accepted = refl; confirmed = refl }

-- and nothing becomes of them
stays_tells : {U D : Type 0} (given : Event) (old new : Whole U D) (shown answer : List LinkIndication) → answer ≡ shown → IsSilent shown → offered_by given ≡ []
    → new.fop ≡ old.fop → new.past ≡ old.past → new.newest ≡ old.newest → TellsRequests given old new answer
stays_tells {U} {D} given old new shown answer is silent none fop past newest =
    let same : TellsRequests given old new shown = record {
      waits =
          ap (λ (l : List ℕ). waiting_requests old.fop ++ l) none
          ∙ append-nil (waiting_requests old.fop)
          ∙ ap (λ m. waiting_requests m) (sym fop)
          ∙ ap (λ (l : List ℕ). l ++ waiting_requests new.fop) (sym silent.leaves);
      sent = grown (λ (log : Log). log.sent) old new (flat_map sent_said shown) past
          (ap (λ (log : Log). log.sent) newest ∙ no_more old.newest.sent (flat_map sent_said shown) silent.sent);
      accepted = grown (λ (log : Log). log.accepted) old new (flat_map accepted_said shown) past
          (ap (λ (log : Log). log.accepted) newest ∙ no_more old.newest.accepted (flat_map accepted_said shown) silent.accepted);
      confirmed = grown (λ (log : Log). log.confirmed) old new (flat_map confirmed_said shown) past
          (ap (λ (log : Log). log.confirmed) newest ∙ no_more old.newest.confirmed (flat_map confirmed_said shown) silent.confirmed);
    } in
    subst (λ (l : List LinkIndication). TellsRequests given old new l) (sym is) same

-- a frame came up
boards_tells : {U D : Type 0} (uplink : Kind U Frame) (room : Bool) (old new : Whole U D) (answer : List LinkIndication) → Boards uplink room old new answer
    → TellsRequests (event.Uplink room) old new answer
boards_tells {U} {D} uplink room old new answer h =
    let past : new.past ≡ old.past = ap (λ (x : Whole U D). x.past) h.whole in
    let part : (in_link : LinkIndication → List ℕ) → List ℕ = λ in_link. flat_map in_link answer in
    let is : (in_link : LinkIndication → List ℕ) → flat_map in_link answer ≡ flat_map in_link (Farm (verdict_of old.farm h.frame room) ∷ []) = λ in_link. ap (λ (l : List LinkIndication). flat_map in_link l) h.answered in
    record {
      waits =
          append-nil (waiting_requests old.fop)
          ∙ ap (λ m. waiting_requests m) (sym (ap (λ (x : Whole U D). x.fop) h.whole))
          ∙ ap (λ (l : List ℕ). l ++ waiting_requests new.fop) (sym (is leaves_said));
      sent = grown (λ (log : Log). log.sent) old new (part sent_said) past
          (ap (λ (x : Whole U D). x.newest.sent) h.whole ∙ no_more old.newest.sent (part sent_said) (is sent_said));
      accepted = grown (λ (log : Log). log.accepted) old new (part accepted_said) past
          (ap (λ (x : Whole U D). x.newest.accepted) h.whole
          ∙ ap (λ (l : List ℕ). old.newest.accepted ++ l) (sym (is accepted_said ∙ append-nil (accepted_by (verdict_of old.farm h.frame room)))));
      confirmed = grown (λ (log : Log). log.confirmed) old new (part confirmed_said) past
          (ap (λ (x : Whole U D). x.newest.confirmed) h.whole ∙ no_more old.newest.confirmed (part confirmed_said) (is confirmed_said));
    }

-- something came down
lands_tells : {U D : Type 0} (uplink : Kind U Frame) (orders : Orders) (item : Report) (left : D) (old new : Whole U D) (answer : List LinkIndication) → IsFop old.fop → IsFop new.fop
    → Hears uplink item (record old { down = left }) new answer → TellsRequests event.Downlink old new answer
lands_tells {U} {D} uplink orders (Word word) left old new answer fop new_fop (heard, actions, rest, reads, gives, h, answered) =
    let order = orders.words old.fop heard new.fop (output actions old.fop) fop new_fop
    (answers_of (reported old.fop heard) old.fop new.fop actions gives (ap (λ (x : Whole U D). x.fop) h.whole)) in
    let tells = carries_tells uplink event.Downlink actions (record old { down = left }) new rest h order in
    subst (λ (l : List LinkIndication). TellsRequests event.Downlink old new l) (sym answered)
    (record { waits = tells.waits; sent = tells.sent; accepted = tells.accepted; confirmed = tells.confirmed })
lands_tells {U} {D} uplink orders (Telemetry telemetry) left old new answer fop new_fop (readied, whole, answered) =
    stays_tells event.Downlink old new (Received (Telemetry telemetry) ∷ []) answer answered (silent_report (Telemetry telemetry)) refl
    (ap (λ (x : Whole U D). x.fop) whole) (ap (λ (x : Whole U D). x.past) whole) (ap (λ (x : Whole U D). x.newest) whole)

-- something from outside was heard
hears_tells : {U D : Type 0} (uplink : Kind U Frame) (orders : Orders) (item : Report) (old new : Whole U D) (answer : List LinkIndication) → IsFop old.fop → IsFop new.fop
    → Hears uplink item (record old { clean = false }) new answer → TellsRequests (event.Hear item) old new answer
hears_tells {U} {D} uplink orders (Word word) old new answer fop new_fop (heard, actions, rest, reads, gives, h, answered) =
    let order = orders.words old.fop heard new.fop (output actions old.fop) fop new_fop
    (answers_of (reported old.fop heard) old.fop new.fop actions gives (ap (λ (x : Whole U D). x.fop) h.whole)) in
    let tells = carries_tells uplink (event.Hear (Word word)) actions (record old { clean = false }) new rest h order in
    subst (λ (l : List LinkIndication). TellsRequests (event.Hear (Word word)) old new l) (sym answered)
    (record { waits = tells.waits; sent = tells.sent; accepted = tells.accepted; confirmed = tells.confirmed })
hears_tells {U} {D} uplink orders (Telemetry telemetry) old new answer fop new_fop (readied, whole, answered) =
    stays_tells (event.Hear (Telemetry telemetry)) old new (Received (Telemetry telemetry) ∷ []) answer answered (silent_report (Telemetry telemetry)) refl
    (ap (λ (x : Whole U D). x.fop) whole) (ap (λ (x : Whole U D). x.past) whole) (ap (λ (x : Whole U D). x.newest) whole)

-- one event
pub tells_requests : {U D : Type 0} (uplink : Kind U Frame) (downlink : Kind D Report) → Orders → (given : Event) (old new : Whole U D) (answer : List LinkIndication)
    → IsFop old.fop → IsFop new.fop → Happens uplink downlink given old new answer → TellsRequests given old new answer
tells_requests {U} {D} uplink downlink orders (event.Offer request body) old new answer fop new_fop (actions, unknown, gives, h) =
    carries_tells uplink (event.Offer request body) actions old new answer h
    (orders.offers old.fop (record { request = request; body = body }) new.fop (output actions old.fop) fop new_fop
    (answers_of (offered old.fop (record { request = request; body = body })) old.fop new.fop actions gives (ap (λ (x : Whole U D). x.fop) h.whole)))
tells_requests {U} {D} uplink downlink orders (event.Directive given) old new answer fop new_fop (actions, gives, h, fits, level) =
    let told = directs_tells uplink downlink given actions old (unjudged old new) answer (is_initiation given) h
    (λ is. orders.directives old.fop given new.fop (output actions old.fop) fop new_fop
    (answers_of (directed old.fop given) old.fop new.fop actions gives is)) in
    record { waits = told.waits; sent = told.sent; accepted = told.accepted; confirmed = told.confirmed }
tells_requests {U} {D} uplink downlink orders event.Tick old new answer fop new_fop (actions, gives, h) =
    carries_tells uplink event.Tick actions old new answer h
    (orders.ticks old.fop new.fop (output actions old.fop) fop new_fop
    (answers_of (ticked old.fop) old.fop new.fop actions gives (ap (λ (x : Whole U D). x.fop) h.whole)))
tells_requests {U} {D} uplink downlink orders (event.Uplink room) old new answer fop new_fop (inl (nothing, h)) =
    stays_tells (event.Uplink room) old new [] answer h.answered silent_none refl
    (ap (λ (x : Whole U D). x.fop) h.same.rest) (ap (λ (x : Whole U D). x.past) h.same.rest) (ap (λ (x : Whole U D). x.newest) h.same.rest)
tells_requests uplink downlink orders (event.Uplink room) old new answer fop new_fop (inr h) = boards_tells uplink room old new answer h
tells_requests {U} {D} uplink downlink orders (event.LoseUp place) old new answer fop new_fop h =
    stays_tells (event.LoseUp place) old new (told_of_loss h.found) answer h.answered (silent_loss h.found) refl
    (ap (λ (x : Whole U D). x.fop) h.whole) (ap (λ (x : Whole U D). x.past) h.whole) (ap (λ (x : Whole U D). x.newest) h.whole)
tells_requests {U} {D} uplink downlink orders event.Release old new answer fop new_fop (whole, answered) =
    stays_tells event.Release old new [] answer answered silent_none refl
    (ap (λ (x : Whole U D). x.fop) whole) (ap (λ (x : Whole U D). x.past) whole) (ap (λ (x : Whole U D). x.newest) whole)
tells_requests {U} {D} uplink downlink orders event.Clcw old new answer fop new_fop (clcw, is_word, h) =
    stays_tells event.Clcw old new [] answer h.answered silent_none refl
    (ap (λ (x : Whole U D). x.fop) h.whole) (ap (λ (x : Whole U D). x.past) h.whole) (ap (λ (x : Whole U D). x.newest) h.whole)
tells_requests {U} {D} uplink downlink orders (event.Put telemetry) old new answer fop new_fop h =
    stays_tells (event.Put telemetry) old new [] answer h.answered silent_none refl
    (ap (λ (x : Whole U D). x.fop) h.whole) (ap (λ (x : Whole U D). x.past) h.whole) (ap (λ (x : Whole U D). x.newest) h.whole)
tells_requests {U} {D} uplink downlink orders event.Downlink old new answer fop new_fop (inl (nothing, h)) =
    stays_tells event.Downlink old new [] answer h.answered silent_none refl
    (ap (λ (x : Whole U D). x.fop) h.same.rest) (ap (λ (x : Whole U D). x.past) h.same.rest) (ap (λ (x : Whole U D). x.newest) h.same.rest)
tells_requests uplink downlink orders event.Downlink old new answer fop new_fop (inr h) =
    lands_tells uplink orders h.item h.left old new answer fop new_fop h.heard
tells_requests {U} {D} uplink downlink orders (event.LoseDown place) old new answer fop new_fop h =
    stays_tells (event.LoseDown place) old new (told_of_loss h.found) answer h.answered (silent_loss h.found) refl
    (ap (λ (x : Whole U D). x.fop) h.whole) (ap (λ (x : Whole U D). x.past) h.whole) (ap (λ (x : Whole U D). x.newest) h.whole)
tells_requests {U} {D} uplink downlink orders event.Transmit old new answer fop new_fop (inl (nothing, h)) =
    stays_tells event.Transmit old new [] answer h.answered silent_none refl
    (ap (λ (x : Whole U D). x.fop) h.same.rest) (ap (λ (x : Whole U D). x.past) h.same.rest) (ap (λ (x : Whole U D). x.newest) h.same.rest)
tells_requests {U} {D} uplink downlink orders event.Transmit old new answer fop new_fop (inr h) =
    stays_tells event.Transmit old new (Transmitted h.frame ∷ []) answer h.answered (silent_frame h.frame) refl
    (ap (λ (x : Whole U D). x.fop) h.whole) (ap (λ (x : Whole U D). x.past) h.whole) (ap (λ (x : Whole U D). x.newest) h.whole)
tells_requests uplink downlink orders (event.Hear item) old new answer fop new_fop h = hears_tells uplink orders item old new answer fop new_fop h
