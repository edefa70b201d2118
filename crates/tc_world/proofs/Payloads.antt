-- Each event keeps what is carried: what flies for a request, or comes on board, has the payload that was offered of it.
use Rattle.std.proofs.Common.{◌≡◌, ℕ, Bool, true, false, inl, inr, None, Ok, List, [], ◌∷◌, ◌++◌, map, refl, sym, ◌∙◌, ap, subst, append_assoc}
use Rattle.std.specs.Prelude.{MatchBool, if◌then◌else◌}
use Rattle.std.specs.List.{flat_map, AllByRecursion}
use Rattle.tc_types.specs.declared.link.telecommands.Payload.{Payload}
use Rattle.tc_types.specs.declared.link.frames.Frame.{Frame}
use Rattle.tc_types.specs.declared.link.frames.Frame.TheVariants.{Ad, Unlock, SetVr}
use Rattle.tc_types.specs.declared.link.reports.Report.{Report}
use Rattle.tc_types.specs.declared.link.reports.Report.TheVariants.{Word, Telemetry}
use Rattle.tc_types.specs.declared.link.directives.Directive.{Directive}
use Rattle.tc_farm.specs.declared.farms.FarmView.{FarmView}
use Rattle.tc_farm.specs.declared.farms.FrameVerdict.TheVariants.{Accepted, Discarded}
use Rattle.tc_farm.specs.Farm.{verdict_of, is_accept, cell_of}
use Rattle.tc_fop.specs.declared.signals.Indication.{Indication as Signal}
use Rattle.tc_fop.specs.Machine.{Machine, Action, after, output, option_list}
use Rattle.tc_fop.specs.Calls.{Given, offered, directed, reported, ticked}
use Rattle.tc_fop.specs.Moves.{is_initiation, transmitted_in}
use Rattle.tc_world.specs.declared.events.Event.{Event}
use Rattle.tc_world.specs.declared.events.Event.TheVariants as event
use Rattle.tc_world.specs.declared.events.LinkIndication.{LinkIndication}
use Rattle.tc_world.specs.declared.events.LinkIndication.TheVariants.{Fop, Farm, Received, Transmitted}
use Rattle.tc_world.specs.Sublist.{IsSublist, IsSublist-same, IsSublist-behind}
use Rattle.tc_world.specs.Links.{lossy, PutsAll, IsReadied}
use Rattle.tc_world.specs.Logs.{Log}
use Rattle.tc_world.specs.Abstraction.{Bare}
use Rattle.tc_world.specs.World.{unjudged, Happens, Carries, Begins, Boards, Hears, Transmits, all_sent, told_of_loss}
use Rattle.tc_world.specs.Payloads.{IsOneOf, CarriesOf, AreCarried, IsOfferOf, IsToldOf}
use Rattle.tc_world.proofs.Lists.{puts_lose, sublist_left}
use Rattle.tc_world.proofs.AllLists.{all_sub, all_append, all_behind, all_follow}
use Rattle.tc_world.proofs.Requests.{all_sent_is}
use Rattle.tc_world.proofs.Newest.{same_sent}
use Rattle.tc_world.proofs.PayloadQueues.{AreQueued, Brings, HoldsOf, WaitsOf, all_carry_more, run_queued}
use Rattle.tc_world.proofs.PayloadCalls.{BringsGiven, words_bring, ticks_bring, offers_bring, directives_bring}

-- ---- the premise

-- a frame that carries a request with P carries it with what follows from P
carries_weaker : (P Q : ℕ → Payload → Type 0) (sent : List ℕ) → ((n : ℕ) (body : Payload) → P n body → Q n body) → (frame : Frame) → CarriesOf P sent frame → CarriesOf Q sent frame
carries_weaker P Q sent f (Ad number request body) h = (f request body h.0, h.1)
carries_weaker P Q sent f Unlock h = tt
carries_weaker P Q sent f (SetVr v) h = tt

-- what follows from P holds of each
pub payloads_weaker : (P Q : ℕ → Payload → Type 0) (w : Bare) → ((n : ℕ) (body : Payload) → P n body → Q n body) → AreCarried P w → AreCarried Q w
payloads_weaker P Q w f carried =
    let sent = all_sent w in
    let frames : (frame : Frame) → CarriesOf P sent frame → CarriesOf Q sent frame = carries_weaker P Q sent f in
    record {
      waiting = all_follow (WaitsOf P) (WaitsOf Q) (option_list w.fop.waiting) (λ x h. f x.request x.body h) carried.waiting;
      held = all_follow (HoldsOf P sent) (HoldsOf Q sent) w.fop.sent (λ held h. (f held.request held.body h.0, h.1)) carried.held;
      control = all_follow (CarriesOf P sent) (CarriesOf Q sent) (option_list w.fop.control) frames carried.control;
      up = all_follow (CarriesOf P sent) (CarriesOf Q sent) w.up frames carried.up;
    }

-- a FOP with nothing queued and no BC frame, and nothing in flight: nothing is carried
pub payloads_start : (P : ℕ → Payload → Type 0) (w : Bare) → w.fop.waiting ≡ None → w.fop.sent ≡ [] → w.fop.control ≡ None → w.up ≡ [] → AreCarried P w
payloads_start P w waiting held control up =
    let sent = all_sent w in
    record {
      waiting = subst (λ o. AllByRecursion (WaitsOf P) (option_list o)) (sym waiting) tt;
      held = subst (λ l. AllByRecursion (HoldsOf P sent) l) (sym held) tt;
      control = subst (λ o. AllByRecursion (CarriesOf P sent) (option_list o)) (sym control) tt;
      up = subst (λ l. AllByRecursion (CarriesOf P sent) l) (sym up) tt;
    }

-- ---- the FOP has no part in it

-- the FOP as it was, with as much sent, and nothing put on the uplink
flies : (P : ℕ → Payload → Type 0) (w v : Bare) → v.fop ≡ w.fop → all_sent v ≡ all_sent w → IsSublist v.up w.up → AreCarried P w → AreCarried P v
flies P w v fop sent sub carried =
    let left = all_sub (CarriesOf P (all_sent w)) v.up w.up sub carried.up in
    record {
      waiting = subst (λ (m : Machine). AllByRecursion (WaitsOf P) (option_list m.waiting)) (sym fop) carried.waiting;
      held = subst (λ (l : List ℕ). AllByRecursion (HoldsOf P l) v.fop.sent) (sym sent)
          (subst (λ (m : Machine). AllByRecursion (HoldsOf P (all_sent w)) m.sent) (sym fop) carried.held);
      control = subst (λ (l : List ℕ). AllByRecursion (CarriesOf P l) (option_list v.fop.control)) (sym sent)
          (subst (λ (m : Machine). AllByRecursion (CarriesOf P (all_sent w)) (option_list m.control)) (sym fop) carried.control);
      up = subst (λ (l : List ℕ). AllByRecursion (CarriesOf P l) v.up) (sym sent) left;
    }

-- a link that got room: the same contents
pub payloads_same : (P : ℕ → Payload → Type 0) (w v : Bare) → v.fop ≡ w.fop → v.up ≡ w.up → v.past ≡ w.past → v.newest ≡ w.newest → AreCarried P w → AreCarried P v
payloads_same P w v fop up past newest carried =
    flies P w v fop (same_sent w v past (ap (λ (log : Log). log.sent) newest))
    (subst (λ (l : List Frame). IsSublist l w.up) (sym up) (IsSublist-same w.up)) carried

-- what is kept, with what is told
abbrev pub Keeps : (P : ℕ → Payload → Type 0) → Bare → List LinkIndication → Type 0
Keeps P v answer = AreCarried P v × AllByRecursion (IsToldOf P (all_sent v)) answer

-- what is told of the answer that is shown is told of the answer
told_as : (P : ℕ → Payload → Type 0) (v : Bare) (answer shown : List LinkIndication) → answer ≡ shown → AreCarried P v → AllByRecursion (IsToldOf P (all_sent v)) shown → Keeps P v answer
told_as P v answer shown is carried told =
    (carried, subst (λ (l : List LinkIndication). AllByRecursion (IsToldOf P (all_sent v)) l) (sym is) told)

-- a loss is no acceptance
told_lost : (P : ℕ → Payload → Type 0) (sent : List ℕ) (found : Bool) → AllByRecursion (IsToldOf P sent) (told_of_loss found)
told_lost P sent true = (tt, tt)
told_lost P sent false = tt

-- ---- the FOP's actions

-- what the FOP tells is no acceptance
told_by_signals : (P : ℕ → Payload → Type 0) (sent : List ℕ) (signals : List Signal) → AllByRecursion (IsToldOf P sent) (map Fop signals)
told_by_signals P sent [] = tt
told_by_signals P sent (signal ∷ signals) = (tt, told_by_signals P sent signals)

-- a list of actions was carried out: the uplink got its frames, and what it tells to be sent was written down
acts : (P : ℕ → Payload → Type 0) (w v : Bare) (actions : List Action) → v.fop ≡ after actions w.fop → IsSublist v.up (w.up ++ (output actions w.fop).frames) → all_sent v ≡ all_sent w ++ transmitted_in (output actions w.fop) → AllByRecursion (Brings P) actions → AreCarried P w → AreCarried P v
acts P w v actions fop sub sent brings carried =
    let more = transmitted_in (output actions w.fop) in
    let frames = (output actions w.fop).frames in
    let all = all_sent w ++ more in
    let before : AreQueued P (all_sent w) w.fop = record { waiting = carried.waiting; held = carried.held; control = carried.control } in
    let run = run_queued P (all_sent w) actions w.fop brings before in
    let queued : AreQueued P (all_sent v) v.fop =
    subst (λ (l : List ℕ). AreQueued P l v.fop) (sym sent) (subst (λ (m : Machine). AreQueued P all m) (sym fop) run.0) in
    let flying = all_append (CarriesOf P all) w.up frames (all_carry_more P (all_sent w) more w.up carried.up) run.1 in
    record {
      waiting = queued.waiting;
      held = queued.held;
      control = queued.control;
      up = subst (λ (l : List ℕ). AllByRecursion (CarriesOf P l) v.up) (sym sent) (all_sub (CarriesOf P all) v.up (w.up ++ frames) sub flying);
    }

-- the frames were put on the uplink, and any may be lost
puts_on : (w v : Bare) (frames : List Frame) (ready : List Frame) → IsReadied lossy w.up ready → PutsAll lossy ready frames v.up → IsSublist v.up (w.up ++ frames)
puts_on w v frames ready readied puts =
    subst (λ (l : List Frame). IsSublist v.up (l ++ frames)) readied (puts_lose lossy ready frames v.up (λ before next item put. put) puts)

-- the session that is on has sent more
sent_more : (w v : Bare) (more : List ℕ) → v.past ≡ w.past → v.newest.sent ≡ w.newest.sent ++ more → all_sent v ≡ all_sent w ++ more
sent_more w v more past newest =
    let front = flat_map (λ (log : Log). log.sent) w.past in
    all_sent_is v
    ∙ ap (λ (logs : List Log). flat_map (λ (log : Log). log.sent) logs ++ v.newest.sent) past
    ∙ ap (λ (l : List ℕ). front ++ l) newest
    ∙ sym (append_assoc front w.newest.sent more)
    ∙ ap (λ (l : List ℕ). l ++ more) (sym (all_sent_is w))

-- another session begins, and has sent so much
sent_anew : (w v : Bare) (more : List ℕ) → v.past ≡ w.past ++ w.newest ∷ [] → v.newest.sent ≡ more → all_sent v ≡ all_sent w ++ more
sent_anew w v more past newest =
    all_sent_is v
    ∙ ap (λ (logs : List Log). flat_map (λ (log : Log). log.sent) logs ++ v.newest.sent) past
    ∙ ap (λ (l : List ℕ). all_sent w ++ l) newest

-- in the session that is on
carries_kept : (P : ℕ → Payload → Type 0) (w v : Bare) (actions : List Action) (answer : List LinkIndication) → AllByRecursion (Brings P) actions → AreCarried P w → Carries lossy actions w v answer → Keeps P v answer
carries_kept P w v actions answer brings carried h =
    let out = output actions w.fop in
    let sent = sent_more w v (transmitted_in out) (ap (λ (x : Bare). x.past) h.whole) (ap (λ (x : Bare). x.newest.sent) h.whole) in
    told_as P v answer (map Fop out.indications) h.answered
    (acts P w v actions (ap (λ (x : Bare). x.fop) h.whole) (puts_on w v out.frames h.ready h.readied h.frames) sent brings carried)
    (told_by_signals P (all_sent v) out.indications)

-- as another begins
begins_kept : (P : ℕ → Payload → Type 0) (w v : Bare) (given : Directive) (actions : List Action) (answer : List LinkIndication) → AllByRecursion (Brings P) actions → AreCarried P w → Begins lossy lossy given actions w v answer → Keeps P v answer
begins_kept P w v given actions answer brings carried h =
    let out = output actions w.fop in
    let sent = sent_anew w v (transmitted_in out) (ap (λ (x : Bare). x.past) h.whole) (ap (λ (x : Bare). x.newest.sent) h.whole) in
    told_as P v answer (map Fop out.indications) h.answered
    (acts P w v actions (ap (λ (x : Bare). x.fop) h.whole) (puts_on w v out.frames h.ready h.readied h.frames) sent brings carried)
    (told_by_signals P (all_sent v) out.indications)

-- a directive, in the session that is on or as another begins
directs_kept : (P : ℕ → Payload → Type 0) (w v : Bare) (given : Directive) (actions : List Action) (answer : List LinkIndication) (initiation : Bool) → AllByRecursion (Brings P) actions → AreCarried P w → MatchBool initiation (Begins lossy lossy given actions w v answer) (Carries lossy actions w v answer) → Keeps P v answer
directs_kept P w v given actions answer true brings carried h = begins_kept P w v given actions answer brings carried h
directs_kept P w v given actions answer false brings carried h = carries_kept P w v actions answer brings carried h

-- the actions that were given bring in what is given
brought : (P : ℕ → Payload → Type 0) (given : Given) (actions : List Action) → given ≡ Ok actions → BringsGiven P given → AllByRecursion (Brings P) actions
brought P given actions is brings = subst (λ (g : Given). BringsGiven P g) is brings

-- ---- what comes up, and what comes down

-- what is accepted is the frame's request with its payload
verdict_told : (P : ℕ → Payload → Type 0) (sent : List ℕ) (accept : Bool) (request : ℕ) (body : Payload) → P request body × IsOneOf request sent → IsToldOf P sent (Farm (if accept then Accepted request body else Discarded))
verdict_told P sent true request body h = h
verdict_told P sent false request body h = tt

-- whatever the FARM says of a frame
frame_told : (P : ℕ → Payload → Type 0) (sent : List ℕ) (farm : FarmView) (frame : Frame) (room : Bool) → CarriesOf P sent frame → IsToldOf P sent (Farm (verdict_of farm frame room))
frame_told P sent farm (Ad number request body) room h = verdict_told P sent (is_accept (cell_of farm number room)) request body h
frame_told P sent farm Unlock room h = tt
frame_told P sent farm (SetVr v) room h = tt

-- the FARM got a frame
boards_kept : (P : ℕ → Payload → Type 0) (w v : Bare) (room : Bool) (answer : List LinkIndication) → AreCarried P w → Boards lossy room w v answer → Keeps P v answer
boards_kept P w v room answer carried h =
    let lost = h.taken.0 in
    let behind = h.frame ∷ v.up in
    let sent = same_sent w v (ap (λ (x : Bare). x.past) h.whole) (ap (λ (x : Bare). x.newest.sent) h.whole) in
    let sub : IsSublist v.up w.up =
    subst (λ (l : List Frame). IsSublist v.up l) (append_assoc lost (h.frame ∷ []) v.up ∙ sym h.taken.1) (IsSublist-behind (lost ++ h.frame ∷ []) v.up) in
    let frame : CarriesOf P (all_sent w) h.frame =
    (all_behind (CarriesOf P (all_sent w)) lost behind (subst (λ (l : List Frame). AllByRecursion (CarriesOf P (all_sent w)) l) h.taken.1 carried.up)).0 in
    let told : IsToldOf P (all_sent v) (Farm (verdict_of w.farm h.frame room)) =
    subst (λ (l : List ℕ). IsToldOf P l (Farm (verdict_of w.farm h.frame room))) (sym sent) (frame_told P (all_sent w) w.farm h.frame room frame) in
    told_as P v answer (Farm (verdict_of w.farm h.frame room) ∷ []) h.answered
    (flies P w v (ap (λ (x : Bare). x.fop) h.whole) sent sub carried) (told, tt)

-- nothing that counts here became otherwise
stays_kept : (P : ℕ → Payload → Type 0) (w v : Bare) (answer shown : List LinkIndication) → v.fop ≡ w.fop → v.past ≡ w.past → v.newest ≡ w.newest → v.up ≡ w.up → answer ≡ shown → AllByRecursion (IsToldOf P (all_sent v)) shown → AreCarried P w → Keeps P v answer
stays_kept P w v answer shown fop past newest up is told carried =
    told_as P v answer shown is (payloads_same P w v fop up past newest carried) told

-- something came down
lands_kept : (P : ℕ → Payload → Type 0) (w v : Bare) (item : Report) (left : List Report) (answer : List LinkIndication) → AreCarried P w → Hears lossy item (record w { down = left }) v answer → Keeps P v answer
lands_kept P w v (Word word) left answer carried (heard, actions, rest, reads, gives, h, answered) =
    let before : Bare = record w { down = left } in
    let same : AreCarried P before = payloads_same P w before refl refl refl refl carried in
    let kept = carries_kept P before v actions rest (brought P (reported w.fop heard) actions gives (words_bring P w.fop heard)) same h in
    told_as P v answer (Received (Word word) ∷ rest) answered kept.0 (tt, kept.1)
lands_kept P w v (Telemetry telemetry) left answer carried (readied, whole, answered) =
    stays_kept P w v answer (Received (Telemetry telemetry) ∷ []) (ap (λ (x : Bare). x.fop) whole) (ap (λ (x : Bare). x.past) whole) (ap (λ (x : Bare). x.newest) whole) readied
    answered (tt, tt) carried

-- something from outside was heard
outside_kept : (P : ℕ → Payload → Type 0) (w v : Bare) (item : Report) (answer : List LinkIndication) → AreCarried P w → Hears lossy item (record w { clean = false }) v answer → Keeps P v answer
outside_kept P w v (Word word) answer carried (heard, actions, rest, reads, gives, h, answered) =
    let before : Bare = record w { clean = false } in
    let same : AreCarried P before = payloads_same P w before refl refl refl refl carried in
    let kept = carries_kept P before v actions rest (brought P (reported w.fop heard) actions gives (words_bring P w.fop heard)) same h in
    told_as P v answer (Received (Word word) ∷ rest) answered kept.0 (tt, kept.1)
outside_kept P w v (Telemetry telemetry) answer carried (readied, whole, answered) =
    stays_kept P w v answer (Received (Telemetry telemetry) ∷ []) (ap (λ (x : Bare). x.fop) whole) (ap (λ (x : Bare). x.past) whole) (ap (λ (x : Bare). x.newest) whole) readied
    answered (tt, tt) carried

-- the front end took a frame
transmits_kept : (P : ℕ → Payload → Type 0) (w v : Bare) (answer : List LinkIndication) → AreCarried P w → Transmits lossy w v answer → Keeps P v answer
transmits_kept P w v answer carried h =
    let sent = same_sent w v (ap (λ (x : Bare). x.past) h.whole) (ap (λ (x : Bare). x.newest.sent) h.whole) in
    let frame : CarriesOf P (all_sent w) h.frame =
    (all_behind (CarriesOf P (all_sent w)) h.taken.0 (h.frame ∷ v.up) (subst (λ (l : List Frame). AllByRecursion (CarriesOf P (all_sent w)) l) h.taken.1 carried.up)).0 in
    told_as P v answer (Transmitted h.frame ∷ []) h.answered
    (flies P w v (ap (λ (x : Bare). x.fop) h.whole) sent (sublist_left w.up h.taken.0 h.frame v.up h.taken.1) carried)
    (subst (λ (l : List ℕ). CarriesOf P l h.frame) (sym sent) frame, tt)

-- One event: what is carried still is, by what was sent after it, and what is told to be accepted on board was offered
-- so, and was sent.
pub payloads_kept : (P : ℕ → Payload → Type 0) (given : Event) (w v : Bare) (answer : List LinkIndication) → AreCarried P w → IsOfferOf P given → Happens lossy lossy given w v answer → AreCarried P v × AllByRecursion (IsToldOf P (all_sent v)) answer
payloads_kept P (event.Offer request body) w v answer carried own (actions, unknown, gives, h) =
    carries_kept P w v actions answer
    (brought P (offered w.fop (record { request = request; body = body })) actions gives (offers_bring P w.fop (record { request = request; body = body }) own))
    carried h
payloads_kept P (event.Directive given) w v answer carried own (actions, gives, h, fits, level) =
    let kept = directs_kept P w (unjudged w v) given actions answer (is_initiation given) (brought P (directed w.fop given) actions gives (directives_bring P w.fop given)) carried h in
    (record { waiting = kept.0.waiting; held = kept.0.held; control = kept.0.control; up = kept.0.up }, kept.1)
payloads_kept P event.Tick w v answer carried own (actions, gives, h) =
    carries_kept P w v actions answer (brought P (ticked w.fop) actions gives (ticks_bring P w.fop)) carried h
payloads_kept P (event.Uplink room) w v answer carried own (inl (nothing, h)) =
    stays_kept P w v answer [] (ap (λ (x : Bare). x.fop) h.same.rest) (ap (λ (x : Bare). x.past) h.same.rest) (ap (λ (x : Bare). x.newest) h.same.rest) h.same.up
    h.answered tt carried
payloads_kept P (event.Uplink room) w v answer carried own (inr h) = boards_kept P w v room answer carried h
payloads_kept P (event.LoseUp place) w v answer carried own h =
    told_as P v answer (told_of_loss h.found) h.answered
    (flies P w v (ap (λ (x : Bare). x.fop) h.whole) (same_sent w v (ap (λ (x : Bare). x.past) h.whole) (ap (λ (x : Bare). x.newest.sent) h.whole)) h.lost carried)
    (told_lost P (all_sent v) h.found)
payloads_kept P event.Release w v answer carried own (whole, answered) =
    stays_kept P w v answer [] (ap (λ (x : Bare). x.fop) whole) (ap (λ (x : Bare). x.past) whole) (ap (λ (x : Bare). x.newest) whole) (ap (λ (x : Bare). x.up) whole)
    answered tt carried
payloads_kept P event.Clcw w v answer carried own (clcw, is_word, h) =
    stays_kept P w v answer [] (ap (λ (x : Bare). x.fop) h.whole) (ap (λ (x : Bare). x.past) h.whole) (ap (λ (x : Bare). x.newest) h.whole) (ap (λ (x : Bare). x.up) h.whole)
    h.answered tt carried
payloads_kept P (event.Put telemetry) w v answer carried own h =
    stays_kept P w v answer [] (ap (λ (x : Bare). x.fop) h.whole) (ap (λ (x : Bare). x.past) h.whole) (ap (λ (x : Bare). x.newest) h.whole) (ap (λ (x : Bare). x.up) h.whole)
    h.answered tt carried
payloads_kept P event.Downlink w v answer carried own (inl (nothing, h)) =
    stays_kept P w v answer [] (ap (λ (x : Bare). x.fop) h.same.rest) (ap (λ (x : Bare). x.past) h.same.rest) (ap (λ (x : Bare). x.newest) h.same.rest) h.same.up
    h.answered tt carried
payloads_kept P event.Downlink w v answer carried own (inr h) = lands_kept P w v h.item h.left answer carried h.heard
payloads_kept P (event.LoseDown place) w v answer carried own h =
    stays_kept P w v answer (told_of_loss h.found) (ap (λ (x : Bare). x.fop) h.whole) (ap (λ (x : Bare). x.past) h.whole) (ap (λ (x : Bare). x.newest) h.whole) (ap (λ (x : Bare). x.up) h.whole)
    h.answered (told_lost P (all_sent v) h.found) carried
payloads_kept P event.Transmit w v answer carried own (inl (nothing, h)) =
    stays_kept P w v answer [] (ap (λ (x : Bare). x.fop) h.same.rest) (ap (λ (x : Bare). x.past) h.same.rest) (ap (λ (x : Bare). x.newest) h.same.rest) h.same.up
    h.answered tt carried
payloads_kept P event.Transmit w v answer carried own (inr h) = transmits_kept P w v answer carried h
payloads_kept P (event.Hear item) w v answer carried own h = outside_kept P w v item answer carried h
