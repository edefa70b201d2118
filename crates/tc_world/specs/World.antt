-- The link as one machine, and what one event makes of it: the tables of FOP-1 and FARM-1, and the carriers' own
-- relations.
use Rattle.std.specs.Prelude.{◌≡◌, ◌⊎◌, ◌↔◌, ◌<◌, ◌≤◌, ◌+◌, IsSome, IfSome, IsOk, IfOk, IfErr, Result, ℕ, ◌==◌, ◌/◌, nat_le, Bool, true, false, not, if◌then◌else◌, MatchBool, Option, Some, None, Ok, Err, List, [], ◌∷◌, ◌++◌, map, drop, length}
use Rattle.std.specs.List.{flat_map, list_any}
use Rattle.tc_types.specs.declared.link.frames.Frame.{Frame}
use Rattle.tc_types.specs.declared.link.telecommands.Payload.{Payload}
use Rattle.tc_types.specs.declared.link.reports.Report.{Report}
use Rattle.tc_types.specs.declared.link.reports.Report.TheVariants as report
use Rattle.tc_types.specs.declared.refusals.Refusal.{Refusal}
use Rattle.tc_types.specs.declared.refusals.Refusal.TheVariants.{WrongPlace, Memory}
use Rattle.tc_farm.specs.declared.clcws.Clcw.{Clcw}
use Rattle.tc_farm.specs.declared.farms.FarmView.{FarmView}
use Rattle.tc_farm.specs.ControlWord.{IsValid, word_of, without_ignored}
use Rattle.tc_farm.specs.Farm.{IsFarm, farm_after, verdict_of, released}
use Rattle.tc_types.specs.declared.link.directives.Directive.{Directive}
use Rattle.tc_types.specs.declared.link.directives.Directive.TheVariants as directive
use Rattle.tc_fop.specs.declared.signals.Indication.TheVariants as signal
use Rattle.tc_fop.specs.Machine.{Machine, Action, Out, after, output, is_window_open}
use Rattle.tc_fop.specs.Calls.{Given, offered, directed, reported, ticked}
use Rattle.tc_fop.specs.Standing.{IsFop}
use Rattle.tc_fop.specs.Requests.{waiting_requests}
use Rattle.tc_fop.specs.Moves.{is_initiation}
use Rattle.tc_world.specs.declared.events.Event.{Event}
use Rattle.tc_world.specs.declared.events.Event.TheVariants as event
use Rattle.tc_world.specs.declared.events.LinkIndication.{LinkIndication}
use Rattle.tc_world.specs.declared.events.LinkIndication.TheVariants.{Fop, Farm, Received, Lost, Transmitted}
use Rattle.tc_world.specs.Links.{Kind, PutsAll, IsReadied}
use Rattle.tc_world.specs.Logs.{Log, blank, noted, boarded}

-- The FOP, the FARM, the uplink and the downlink; the sessions, the newest apart and the earlier in order, of which the
-- first is the time before the first initiation; whether every start was good, whether K was at most half of the FARM's
-- window at every moment, and whether the last start was level; the virtual channel.
pub record Whole (U D : Type 0) : Type 0 where
  pub fop : Machine
  pub farm : FarmView
  pub up : U
  pub down : D
  pub past : List Log
  pub newest : Log
  pub clean : Bool
  pub fits : Bool
  pub level : Bool
  pub vc : ℕ

-- the sessions, in order
abbrev pub sessions_of : {U D : Type 0} → Whole U D → List Log
sessions_of w = drop 1 (w.past ++ w.newest ∷ [])

-- ---- which events are refused

-- the requests that were sent in some session
abbrev pub all_sent : {U D : Type 0} → Whole U D → List ℕ
all_sent w = flat_map (λ (log : Log). log.sent) (w.past ++ w.newest ∷ [])

-- a request that waits, or was sent in some session
abbrev pub is_known : {U D : Type 0} → ℕ → Whole U D → Bool
is_known request w = list_any (λ (n : ℕ). n == request) (all_sent w ++ waiting_requests w.fop)

abbrev pub refusal_in : Given → Option Refusal
refusal_in (Ok actions) = None
refusal_in (Err refusal) = Some refusal

-- A request that is known may not be offered; else the FOP's own refusal. No other event is refused.
abbrev pub refusal_of : {U D : Type 0} → Event → Whole U D → Option Refusal
refusal_of (event.Offer request body) w =
    if is_known request w then Some WrongPlace else refusal_in (offered w.fop (record { request = request; body = body }))
refusal_of (event.Directive given) w = refusal_in (directed w.fop given)
refusal_of event.Tick w = None
refusal_of (event.Uplink free_buffer) w = None
refusal_of (event.LoseUp place) w = None
refusal_of event.Release w = None
refusal_of event.Clcw w = None
refusal_of (event.Put telemetry) w = None
refusal_of event.Downlink w = None
refusal_of (event.LoseDown place) w = None
refusal_of event.Transmit w = None
refusal_of (event.Hear item) w = None

-- an event is refused as said; where it is not, memory may be refused
abbrev pub IsRefused : {U D : Type 0} → Event → Whole U D → Refusal → Type 0
IsRefused given w refusal = (refusal_of given w ≡ Some refusal) ⊎ ((refusal_of given w ≡ None) × (refusal ≡ Memory))

-- the request is not known, and the FOP takes it
pub record IsTaken {U D : Type 0} (request : ℕ) (body : Payload) (w : Whole U D) : Type 0 where
  pub unknown : is_known request w ≡ false
  pub taken : IsOk (offered w.fop (record { request = request; body = body }))

-- as before: the links may have got room, and what is in flight stays
pub record IsAsBefore {U D : Type 0} (uplink : Kind U Frame) (downlink : Kind D Report) (old new : Whole U D) : Type 0 where
  pub up : IsReadied uplink old.up new.up
  pub down : IsReadied downlink old.down new.down
  pub rest : new ≡ record old { up = new.up; down = new.down }

-- ---- good starts

abbrev pub is_nothing : {T : Type 0} → List T → Bool
is_nothing [] = true
is_nothing (first ∷ others) = false

-- V(S) = V(R), and the FARM has no flag
abbrev pub is_level : Machine → FarmView → Bool
is_level fop farm =
    if fop.vs == farm.vr then (if farm.lockout then false else if farm.wait then false else not farm.retransmit) else false

-- what the initiation without check asks besides; the other kinds look at the control word themselves
abbrev pub is_level_for : Directive → Machine → FarmView → Bool
is_level_for directive.InitiateNone fop farm = is_level fop farm
is_level_for directive.InitiateCheck fop farm = true
is_level_for directive.InitiateUnlock fop farm = true
is_level_for (directive.InitiateSetVr v) fop farm = true
is_level_for directive.Terminate fop farm = true
is_level_for (directive.SetVs v) fop farm = true
is_level_for (directive.SetK k) fop farm = true
is_level_for (directive.SetT1 t1) fop farm = true
is_level_for (directive.SetLimit limit) fop farm = true

-- a good start: nothing is in flight, and without check both sides agree
abbrev pub is_good_start : {U D : Type 0} → Kind U Frame → Kind D Report → Directive → Whole U D → Bool
is_good_start uplink downlink given w =
    if is_nothing (uplink.content w.up) then
    (if is_nothing (downlink.content w.down) then is_level_for given w.fop w.farm else false)
    else false

-- whether every start so far was good, after this one
abbrev pub clean_after : {U D : Type 0} → Kind U Frame → Kind D Report → Directive → Whole U D → Bool
clean_after uplink downlink given w = if w.clean then is_good_start uplink downlink given w else false

-- what a start with check asks besides to be level: the others are level where they are good
abbrev pub is_level_with : Directive → Machine → FarmView → Bool
is_level_with directive.InitiateNone fop farm = true
is_level_with directive.InitiateCheck fop farm = is_level fop farm
is_level_with directive.InitiateUnlock fop farm = true
is_level_with (directive.InitiateSetVr v) fop farm = true
is_level_with directive.Terminate fop farm = true
is_level_with (directive.SetVs v) fop farm = true
is_level_with (directive.SetK k) fop farm = true
is_level_with (directive.SetT1 t1) fop farm = true
is_level_with (directive.SetLimit limit) fop farm = true

-- a level start: a good one, and, also with check, V(S) = V(R) and no flag
abbrev pub is_level_start : {U D : Type 0} → Kind U Frame → Kind D Report → Directive → Whole U D → Bool
is_level_start uplink downlink given w =
    if is_good_start uplink downlink given w then is_level_with given w.fop w.farm else false

-- whether the last start was level, after this directive
abbrev pub level_after : {U D : Type 0} → Kind U Frame → Kind D Report → Directive → Whole U D → Bool
level_after uplink downlink given w = if is_initiation given then is_level_start uplink downlink given w else w.level

-- K is at most half of the FARM's window
abbrev pub is_fitting : Machine → FarmView → Bool
is_fitting fop farm = nat_le fop.k (farm.window / 2)

-- it fitted so far, and it fits now
abbrev pub is_still_fitting : {U D : Type 0} → Whole U D → Bool
is_still_fitting w = if w.fits then is_fitting w.fop w.farm else false

-- whether K fitted at every moment so far, after a directive
abbrev pub fits_after : {U D : Type 0} → Whole U D → Whole U D → Bool
fits_after old new = if old.fits then is_fitting new.fop new.farm else false

-- the same after any event that happens: directives alone set K
abbrev pub fits_by : {U D : Type 0} → Event → Whole U D → Whole U D → Bool
fits_by (event.Offer request body) old new = old.fits
fits_by (event.Directive given) old new = fits_after old new
fits_by event.Tick old new = old.fits
fits_by (event.Uplink free_buffer) old new = old.fits
fits_by (event.LoseUp place) old new = old.fits
fits_by event.Release old new = old.fits
fits_by event.Clcw old new = old.fits
fits_by (event.Put telemetry) old new = old.fits
fits_by event.Downlink old new = old.fits
fits_by (event.LoseDown place) old new = old.fits
fits_by event.Transmit old new = old.fits
fits_by (event.Hear item) old new = old.fits

-- a directive that sets no K, or one that fits
abbrev pub is_fitting_setting : Directive → FarmView → Bool
is_fitting_setting directive.InitiateNone farm = true
is_fitting_setting directive.InitiateCheck farm = true
is_fitting_setting directive.InitiateUnlock farm = true
is_fitting_setting (directive.InitiateSetVr v) farm = true
is_fitting_setting directive.Terminate farm = true
is_fitting_setting (directive.SetVs v) farm = true
is_fitting_setting (directive.SetK k) farm = nat_le k (farm.window / 2)
is_fitting_setting (directive.SetT1 t1) farm = true
is_fitting_setting (directive.SetLimit limit) farm = true

-- the same of any event
abbrev pub sets_fitting : Event → FarmView → Bool
sets_fitting (event.Offer request body) farm = true
sets_fitting (event.Directive given) farm = is_fitting_setting given farm
sets_fitting event.Tick farm = true
sets_fitting (event.Uplink free_buffer) farm = true
sets_fitting (event.LoseUp place) farm = true
sets_fitting event.Release farm = true
sets_fitting event.Clcw farm = true
sets_fitting (event.Put telemetry) farm = true
sets_fitting event.Downlink farm = true
sets_fitting (event.LoseDown place) farm = true
sets_fitting event.Transmit farm = true
sets_fitting (event.Hear item) farm = true

-- whether the last start was level, after any event that happens
abbrev pub level_by : {U D : Type 0} → Kind U Frame → Kind D Report → Event → Whole U D → Bool
level_by uplink downlink (event.Offer request body) w = w.level
level_by uplink downlink (event.Directive given) w = level_after uplink downlink given w
level_by uplink downlink event.Tick w = w.level
level_by uplink downlink (event.Uplink free_buffer) w = w.level
level_by uplink downlink (event.LoseUp place) w = w.level
level_by uplink downlink event.Release w = w.level
level_by uplink downlink event.Clcw w = w.level
level_by uplink downlink (event.Put telemetry) w = w.level
level_by uplink downlink event.Downlink w = w.level
level_by uplink downlink (event.LoseDown place) w = w.level
level_by uplink downlink event.Transmit w = w.level
level_by uplink downlink (event.Hear item) w = w.level

-- The same after any event that happens: an initiation is a start, and no other event is. What came from outside may be a
-- word of another FARM's, so after it nothing is known of the starts.
abbrev pub clean_by : {U D : Type 0} → Kind U Frame → Kind D Report → Event → Whole U D → Bool
clean_by uplink downlink (event.Offer request body) w = w.clean
clean_by uplink downlink (event.Directive given) w =
    if is_initiation given then clean_after uplink downlink given w else w.clean
clean_by uplink downlink event.Tick w = w.clean
clean_by uplink downlink (event.Uplink free_buffer) w = w.clean
clean_by uplink downlink (event.LoseUp place) w = w.clean
clean_by uplink downlink event.Release w = w.clean
clean_by uplink downlink event.Clcw w = w.clean
clean_by uplink downlink (event.Put telemetry) w = w.clean
clean_by uplink downlink event.Downlink w = w.clean
clean_by uplink downlink (event.LoseDown place) w = w.clean
clean_by uplink downlink event.Transmit w = w.clean
clean_by uplink downlink (event.Hear item) w = false

-- ---- one event

-- what the FOP tells, as the link tells it
abbrev pub told_by_fop : Out → List LinkIndication
told_by_fop out = map Fop out.indications

-- The FOP's actions were carried out: its frames were put on the uplink in order, what it tells was written down and is
-- what is answered.
pub record Carries {U D : Type 0} (uplink : Kind U Frame) (actions : List Action) (old new : Whole U D) (answer : List LinkIndication) : Type 0 where
  pub ready : U
  pub readied : IsReadied uplink old.up ready
  pub frames : PutsAll uplink ready (output actions old.fop).frames new.up
  pub whole : new ≡ record old { fop = after actions old.fop; up = new.up; newest = noted (output actions old.fop) old.newest }
  pub answered : answer ≡ told_by_fop (output actions old.fop)

-- An initiation was carried out: the newest session has ended and another begins.
pub record Begins {U D : Type 0} (uplink : Kind U Frame) (downlink : Kind D Report) (given : Directive) (actions : List Action) (old new : Whole U D) (answer : List LinkIndication) : Type 0 where
  pub ready : U
  pub readied : IsReadied uplink old.up ready
  pub frames : PutsAll uplink ready (output actions old.fop).frames new.up
  pub whole : new ≡ record old {
    fop = after actions old.fop;
    up = new.up;
    past = old.past ++ old.newest ∷ [];
    newest = noted (output actions old.fop) (blank (after actions old.fop).vs);
    clean = clean_after uplink downlink given old;
  }
  pub answered : answer ≡ told_by_fop (output actions old.fop)

-- a link was empty, and nothing happened
pub record IsIdle {U D : Type 0} (uplink : Kind U Frame) (downlink : Kind D Report) (old new : Whole U D) (answer : List LinkIndication) : Type 0 where
  pub same : IsAsBefore uplink downlink old new
  pub answered : answer ≡ []

-- the FARM got a frame
pub record Boards {U D : Type 0} (uplink : Kind U Frame) (free_buffer : Bool) (old new : Whole U D) (answer : List LinkIndication) : Type 0 where
  pub frame : Frame
  pub taken : uplink.takes old.up frame new.up
  pub whole : new ≡ record old {
    farm = farm_after old.farm frame free_buffer;
    up = new.up;
    newest = boarded (verdict_of old.farm frame free_buffer) old.newest;
  }
  pub answered : answer ≡ Farm (verdict_of old.farm frame free_buffer) ∷ []

-- What is read from 32 bits on a channel: none where they are no valid word on it, else the word's fields; a word that
-- was written is read as it was.
pub record Reads (word vc : ℕ) (heard : Option Clcw) : Type 0 where
  pub valid : IsSome heard ↔ IsValid word vc
  pub back : IfSome heard (λ (clcw : Clcw). word_of clcw ≡ without_ignored word)
  pub channel : IfSome heard (λ (clcw : Clcw). clcw.vc ≡ vc)
  pub again : (clcw : Clcw) → clcw.report < 256 → word ≡ word_of clcw → vc ≡ clcw.vc → heard ≡ Some clcw

-- The ground got this from the downlink: the FOP hears of control words alone. Room on the uplink is made before it is
-- known what comes down, so that nothing is lost where that room is refused.
abbrev pub Hears : {U D : Type 0} → Kind U Frame → Report → Whole U D → Whole U D → List LinkIndication → Type 0
Hears uplink (report.Word word) old new answer =
    (heard : Option Clcw) × (actions : List Action) × (rest : List LinkIndication)
    × Reads word old.vc heard × (reported old.fop heard ≡ Ok actions)
    × Carries uplink actions old new rest × (answer ≡ Received (report.Word word) ∷ rest)
Hears uplink (report.Telemetry telemetry) old new answer =
    IsReadied uplink old.up new.up × (new ≡ record old { up = new.up })
    × (answer ≡ Received (report.Telemetry telemetry) ∷ [])

-- the ground got the first of the downlink
pub record Lands {U D : Type 0} (uplink : Kind U Frame) (downlink : Kind D Report) (old new : Whole U D) (answer : List LinkIndication) : Type 0 where
  pub item : Report
  pub left : D
  pub taken : downlink.takes old.down item left
  pub heard : Hears uplink item (record old { down = left }) new answer

-- the FARM's control word on this channel
pub record IsWordOf (farm : FarmView) (vc : ℕ) (clcw : Clcw) : Type 0 where
  pub channel : clcw.vc ≡ vc
  pub lockout : clcw.lockout ≡ farm.lockout
  pub wait : clcw.wait ≡ farm.wait
  pub retransmit : clcw.retransmit ≡ farm.retransmit
  pub farm_b : clcw.farm_b ≡ farm.farm_b
  pub report_value : clcw.report ≡ farm.vr

-- something was put on the downlink
pub record Descends {U D : Type 0} (downlink : Kind D Report) (item : Report) (old new : Whole U D) (answer : List LinkIndication) : Type 0 where
  pub ready : D
  pub readied : IsReadied downlink old.down ready
  pub put : downlink.puts ready item new.down
  pub whole : new ≡ record old { down = new.down }
  pub answered : answer ≡ []

-- what is told of a loss: that something was lost
abbrev pub told_of_loss : Bool → List LinkIndication
told_of_loss true = Lost ∷ []
told_of_loss false = []

-- an item of the uplink was lost, and it is told where there was one
pub record LosesUp {U D : Type 0} (uplink : Kind U Frame) (place : ℕ) (old new : Whole U D) (answer : List LinkIndication) : Type 0 where
  pub found : Bool
  pub lost : uplink.loses old.up place found new.up
  pub whole : new ≡ record old { up = new.up }
  pub answered : answer ≡ told_of_loss found

-- an item of the downlink was lost, and it is told where there was one
pub record LosesDown {U D : Type 0} (downlink : Kind D Report) (place : ℕ) (old new : Whole U D) (answer : List LinkIndication) : Type 0 where
  pub found : Bool
  pub lost : downlink.loses old.down place found new.down
  pub whole : new ≡ record old { down = new.down }
  pub answered : answer ≡ told_of_loss found

-- the front end took a frame: the first of the uplink leaves this machine, and it is told which
pub record Transmits {U D : Type 0} (uplink : Kind U Frame) (old new : Whole U D) (answer : List LinkIndication) : Type 0 where
  pub frame : Frame
  pub taken : uplink.takes old.up frame new.up
  pub whole : new ≡ record old { up = new.up }
  pub answered : answer ≡ Transmitted frame ∷ []

-- a directive was carried out
abbrev pub Directs : {U D : Type 0} → Kind U Frame → Kind D Report → Directive → List Action → Whole U D → Whole U D → List LinkIndication → Type 0
Directs uplink downlink given actions old new answer = MatchBool (is_initiation given)
    (Begins uplink downlink given actions old new answer)
    (Carries uplink actions old new answer)

-- what is new, but with what was known before of widths and starts
abbrev pub unjudged : {U D : Type 0} → Whole U D → Whole U D → Whole U D
unjudged old new = record new { fits = old.fits; level = old.level }

-- What one event makes of the link, and what it answers.
abbrev pub Happens : {U D : Type 0} → Kind U Frame → Kind D Report → Event → Whole U D → Whole U D → List LinkIndication → Type 0
Happens uplink downlink (event.Offer request body) old new answer =
    (actions : List Action) × (is_known request old ≡ false)
    × (offered old.fop (record { request = request; body = body }) ≡ Ok actions) × Carries uplink actions old new answer
Happens uplink downlink (event.Directive given) old new answer =
    (actions : List Action) × (directed old.fop given ≡ Ok actions)
    × Directs uplink downlink given actions old (unjudged old new) answer
    × (new.fits ≡ fits_after old new) × (new.level ≡ level_after uplink downlink given old)
Happens uplink downlink event.Tick old new answer =
    (actions : List Action) × (ticked old.fop ≡ Ok actions) × Carries uplink actions old new answer
Happens uplink downlink (event.Uplink free_buffer) old new answer =
    ((uplink.content old.up ≡ []) × IsIdle uplink downlink old new answer) ⊎ Boards uplink free_buffer old new answer
Happens uplink downlink (event.LoseUp place) old new answer = LosesUp uplink place old new answer
Happens uplink downlink event.Release old new answer = (new ≡ record old { farm = released old.farm }) × (answer ≡ [])
Happens uplink downlink event.Clcw old new answer =
    (clcw : Clcw) × IsWordOf old.farm old.vc clcw × Descends downlink (report.Word (word_of clcw)) old new answer
Happens uplink downlink (event.Put telemetry) old new answer = Descends downlink (report.Telemetry telemetry) old new answer
Happens uplink downlink event.Downlink old new answer =
    ((downlink.content old.down ≡ []) × IsIdle uplink downlink old new answer) ⊎ Lands uplink downlink old new answer
Happens uplink downlink (event.LoseDown place) old new answer = LosesDown downlink place old new answer
Happens uplink downlink event.Transmit old new answer =
    ((uplink.content old.up ≡ []) × IsIdle uplink downlink old new answer) ⊎ Transmits uplink old new answer
Happens uplink downlink (event.Hear item) old new answer = Hears uplink item (record old { clean = false }) new answer

-- ---- what one event takes and gives at most

-- Where memory is never refused: to an offer that waits since the window is closed; to a loss, a release and what the front
-- end takes; to a report
-- and a control word where the downlink has the room of one put; and where nothing can happen, since no timer runs or
-- nothing is in flight.
abbrev pub IsSpared : {U D : Type 0} → Kind U Frame → Kind D Report → (D → ℕ) → Event → Whole U D → Type 0
IsSpared uplink downlink covered (event.Offer request body) w =
    (refusal_of (event.Offer request body) w ≡ None) × (is_window_open w.fop ≡ false)
IsSpared uplink downlink covered (event.Directive given) w = ⊥
IsSpared uplink downlink covered event.Tick w = w.fop.timer ≡ 0
IsSpared uplink downlink covered (event.Uplink free_buffer) w = uplink.content w.up ≡ []
IsSpared uplink downlink covered (event.LoseUp place) w = Unit {0}
IsSpared uplink downlink covered event.Release w = Unit {0}
IsSpared uplink downlink covered event.Clcw w = 0 < covered w.down
IsSpared uplink downlink covered (event.Put telemetry) w = 0 < covered w.down
IsSpared uplink downlink covered event.Downlink w = downlink.content w.down ≡ []
IsSpared uplink downlink covered (event.LoseDown place) w = Unit {0}
IsSpared uplink downlink covered event.Transmit w = Unit {0}
IsSpared uplink downlink covered (event.Hear item) w = ⊥

-- an event that puts something on the downlink
abbrev pub puts_down : Event → Bool
puts_down (event.Offer request body) = false
puts_down (event.Directive given) = false
puts_down event.Tick = false
puts_down (event.Uplink free_buffer) = false
puts_down (event.LoseUp place) = false
puts_down event.Release = false
puts_down event.Clcw = true
puts_down (event.Put telemetry) = true
puts_down event.Downlink = false
puts_down (event.LoseDown place) = false
puts_down event.Transmit = false
puts_down (event.Hear item) = false

-- How a call ends, whatever the event: what is refused leaves all as before; where memory is spared it is not refused; at
-- most so much is told and put on the uplink; only a put takes of the downlink's room, and no more than its own; and both
-- machines are sound.
pub record EndsWithin {U D : Type 0} (uplink : Kind U Frame) (downlink : Kind D Report) (covered : D → ℕ) (given : Event) (old new : Whole U D) (result : Result (List LinkIndication) Refusal) : Type 0 where
  pub refused : IfErr result (λ (refusal : Refusal). IsRefused given old refusal × IsAsBefore uplink downlink old new)
  pub spared : IsSpared uplink downlink covered given old → IsOk result
  pub indications : IfOk result (λ (answer : List LinkIndication). length answer ≤ 258)
  pub frames : length (uplink.content new.up) ≤ length (uplink.content old.up) + 256
  pub kept_room : puts_down given ≡ false → covered old.down ≤ covered new.down
  pub room : covered old.down ≤ covered new.down + 1
  pub sound : IsFop new.fop × IsFarm new.farm

-- ---- what is not told

abbrev pub is_of_fop : LinkIndication → Bool
is_of_fop (Fop i) = true
is_of_fop (Farm verdict) = false
is_of_fop (Received item) = false
is_of_fop Lost = false
is_of_fop (Transmitted frame) = false

-- a frame that comes up, or is taken by the front end, tells nothing of the FOP's: no Sent, Confirmed, InDoubt or GivenBack
abbrev pub IsQuietAboard : Event → List LinkIndication → Type 0
IsQuietAboard (event.Offer request body) answer = Unit {0}
IsQuietAboard (event.Directive given) answer = Unit {0}
IsQuietAboard event.Tick answer = Unit {0}
IsQuietAboard (event.Uplink free_buffer) answer = list_any is_of_fop answer ≡ false
IsQuietAboard (event.LoseUp place) answer = Unit {0}
IsQuietAboard event.Release answer = Unit {0}
IsQuietAboard event.Clcw answer = Unit {0}
IsQuietAboard (event.Put telemetry) answer = Unit {0}
IsQuietAboard event.Downlink answer = Unit {0}
IsQuietAboard (event.LoseDown place) answer = Unit {0}
IsQuietAboard event.Transmit answer = list_any is_of_fop answer ≡ false
IsQuietAboard (event.Hear item) answer = Unit {0}

-- what tells that a request moves
abbrev pub tells_move : LinkIndication → Bool
tells_move (Fop (signal.Sent n)) = true
tells_move (Fop (signal.Confirmed n)) = true
tells_move (Fop (signal.GivenBack n)) = true
tells_move (Fop (signal.InDoubt n)) = true
tells_move (Fop (signal.Alert kind)) = false
tells_move (Fop signal.Started) = false
tells_move (Farm verdict) = false
tells_move (Received item) = false
tells_move Lost = false
tells_move (Transmitted frame) = false

abbrev pub is_terminate : Directive → Bool
is_terminate directive.InitiateNone = false
is_terminate directive.InitiateCheck = false
is_terminate directive.InitiateUnlock = false
is_terminate (directive.InitiateSetVr v) = false
is_terminate directive.Terminate = true
is_terminate (directive.SetVs v) = false
is_terminate (directive.SetK k) = false
is_terminate (directive.SetT1 t1) = false
is_terminate (directive.SetLimit limit) = false

-- an event at which requests may move: an offer, the end of the service, a tick, and what comes down or is heard
abbrev pub may_move : Event → Bool
may_move (event.Offer request body) = true
may_move (event.Directive given) = is_terminate given
may_move event.Tick = true
may_move (event.Uplink free_buffer) = false
may_move (event.LoseUp place) = false
may_move event.Release = false
may_move event.Clcw = false
may_move (event.Put telemetry) = false
may_move event.Downlink = true
may_move (event.LoseDown place) = false
may_move event.Transmit = false
may_move (event.Hear item) = true
