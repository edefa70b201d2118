-- What an event does not tell, and what it leaves of the starts.
use Rattle.std.proofs.Common.{◌≡◌, ◌==◌, Bool, true, false, inl, inr, Ok, Err, None, Some, List, [], ◌∷◌, refl, sym, ◌∙◌, ap}
use Rattle.std.specs.Prelude.{MatchBool, if◌then◌else◌, Result, IfOk, IfErr}
use Rattle.std.specs.List.{list_any}
use Rattle.tc_types.specs.declared.link.frames.Frame.{Frame}
use Rattle.tc_types.specs.declared.link.frames.Frame.TheVariants as frame
use Rattle.tc_types.specs.declared.refusals.Refusal.{Refusal}
use Rattle.tc_types.specs.declared.refusals.Refusal.TheVariants.{BadDirective}
use Rattle.tc_types.specs.declared.link.reports.Report.{Report}
use Rattle.tc_types.specs.declared.link.reports.Report.TheVariants.{Word, Telemetry}
use Rattle.tc_fop.specs.declared.signals.FopState.TheVariants.{Active, InitialisingWithoutBc, InitialisingWithBc}
use Rattle.tc_types.specs.declared.link.directives.Directive.{Directive}
use Rattle.tc_types.specs.declared.link.directives.Directive.TheVariants as directive
use Rattle.tc_fop.specs.Machine.{Machine, Action, StartTimer, SendControl, Begin, To, Initiate, SetVsAlone, SetVsAndNn, SetKTo, SetT1To, SetLimitTo, output}
use Rattle.tc_fop.specs.Calls.{directed, is_initial}
use Rattle.tc_fop.specs.Moves.{is_initiation}
use Rattle.tc_world.specs.declared.events.Event.{Event}
use Rattle.tc_world.specs.declared.events.Event.TheVariants as event
use Rattle.tc_world.specs.declared.events.LinkIndication.{LinkIndication}
use Rattle.tc_world.specs.Links.{Kind}
use Rattle.tc_world.specs.World.{Whole, Happens, unjudged, fits_by, level_by, Carries, Begins, Hears, told_by_fop, told_of_loss, clean_after, clean_by, is_good_start, IsRefused, IsAsBefore, tells_move, may_move, is_terminate, IsQuietAboard, is_of_fop}

-- ---- no request moves

-- what is given where a test holds, and where it fails
given_if : (test : Bool) (refusal : Refusal) (listed actions : List Action) → (if test then Ok listed else Err refusal) ≡ Ok actions → actions ≡ listed
given_if true refusal listed actions e = cc
given_if false refusal listed actions e = cc

given_unless : (test : Bool) (refusal : Refusal) (listed actions : List Action) → (if test then Err refusal else Ok listed) ≡ Ok actions → actions ≡ listed
given_unless true refusal listed actions e = cc
given_unless false refusal listed actions e = cc

-- what these actions tell
told_so : (m : Machine) (listed actions : List Action) (answer : List LinkIndication) → actions ≡ listed → answer ≡ told_by_fop (output actions m)
    → list_any tells_move (told_by_fop (output listed m)) ≡ false → list_any tells_move answer ≡ false
told_so m listed actions answer is answered still =
    ap (λ (l : List LinkIndication). list_any tells_move l) (answered ∙ ap (λ (l : List Action). told_by_fop (output l m)) is) ∙ still

-- no directive but Terminate moves a request
directive_still : (m : Machine) (given : Directive) (actions : List Action) (answer : List LinkIndication) → is_terminate given ≡ false
    → directed m given ≡ Ok actions → answer ≡ told_by_fop (output actions m) → list_any tells_move answer ≡ false
directive_still m directive.InitiateNone actions answer other gives answered =
    told_so m (Initiate None ∷ To Active ∷ Begin ∷ []) actions answer (given_if (is_initial m.state) BadDirective _ actions gives) answered refl
directive_still m directive.InitiateCheck actions answer other gives answered =
    told_so m (Initiate None ∷ StartTimer ∷ To InitialisingWithoutBc ∷ []) actions answer (given_if (is_initial m.state) BadDirective _ actions gives) answered refl
directive_still m directive.InitiateUnlock actions answer other gives answered =
    told_so m (Initiate (Some frame.Unlock) ∷ SendControl ∷ StartTimer ∷ To InitialisingWithBc ∷ []) actions answer
    (given_if (is_initial m.state) BadDirective _ actions gives) answered refl
directive_still m (directive.InitiateSetVr v) actions answer other gives answered =
    told_so m (SetVsAlone v ∷ Initiate (Some (frame.SetVr v)) ∷ SendControl ∷ StartTimer ∷ To InitialisingWithBc ∷ []) actions answer
    (given_if (is_initial m.state) BadDirective _ actions gives) answered refl
directive_still m directive.Terminate actions answer other gives answered = absurd (let no_other : true ≡ false = other in cc)
directive_still m (directive.SetVs v) actions answer other gives answered =
    told_so m (SetVsAndNn v ∷ []) actions answer (given_if (is_initial m.state) BadDirective _ actions gives) answered refl
directive_still m (directive.SetK k) actions answer other gives answered =
    told_so m (SetKTo k ∷ []) actions answer (given_unless (k == 0) BadDirective _ actions gives) answered refl
directive_still m (directive.SetT1 t1) actions answer other gives answered =
    told_so m (SetT1To t1 ∷ []) actions answer (given_unless (t1 == 0) BadDirective _ actions gives) answered refl
directive_still m (directive.SetLimit limit) actions answer other gives answered =
    told_so m (SetLimitTo limit ∷ []) actions answer (given_unless (limit == 0) BadDirective _ actions gives) answered refl

-- what a directive answers, whether it begins a session or not
directs_answer : {U D : Type 0} (uplink : Kind U Frame) (downlink : Kind D Report) (given : Directive) (actions : List Action) (old new : Whole U D) (answer : List LinkIndication) (initiation : Bool)
    → MatchBool initiation (Begins uplink downlink given actions old new answer) (Carries uplink actions old new answer)
    → answer ≡ told_by_fop (output actions old.fop)
directs_answer uplink downlink given actions old new answer true h = h.answered
directs_answer uplink downlink given actions old new answer false h = h.answered

loss_still : (found : Bool) → list_any tells_move (told_of_loss found) ≡ false
loss_still true = refl
loss_still false = refl

pub still : {U D : Type 0} (uplink : Kind U Frame) (downlink : Kind D Report) (given : Event) (old new : Whole U D) (answer : List LinkIndication)
    → may_move given ≡ false → Happens uplink downlink given old new answer → list_any tells_move answer ≡ false
still uplink downlink (event.Offer request body) old new answer other h = absurd (let no_other : true ≡ false = other in cc)
still uplink downlink (event.Directive given) old new answer other (actions, gives, h, fits, level) =
    directive_still old.fop given actions answer other gives
    (directs_answer uplink downlink given actions old (unjudged old new) answer (is_initiation given) h)
still uplink downlink event.Tick old new answer other h = absurd (let no_other : true ≡ false = other in cc)
still uplink downlink (event.Uplink room) old new answer other (inl (nothing, h)) = ap (λ (l : List LinkIndication). list_any tells_move l) h.answered
still uplink downlink (event.Uplink room) old new answer other (inr h) = ap (λ (l : List LinkIndication). list_any tells_move l) h.answered
still uplink downlink (event.LoseUp place) old new answer other h = ap (λ (l : List LinkIndication). list_any tells_move l) h.answered ∙ loss_still h.found
still uplink downlink event.Release old new answer other (whole, answered) = ap (λ (l : List LinkIndication). list_any tells_move l) answered
still uplink downlink event.Clcw old new answer other (clcw, is_word, h) = ap (λ (l : List LinkIndication). list_any tells_move l) h.answered
still uplink downlink (event.Put telemetry) old new answer other h = ap (λ (l : List LinkIndication). list_any tells_move l) h.answered
still uplink downlink event.Downlink old new answer other h = absurd (let no_other : true ≡ false = other in cc)
still uplink downlink (event.LoseDown place) old new answer other h = ap (λ (l : List LinkIndication). list_any tells_move l) h.answered ∙ loss_still h.found
still uplink downlink event.Transmit old new answer other (inl (nothing, h)) = ap (λ (l : List LinkIndication). list_any tells_move l) h.answered
still uplink downlink event.Transmit old new answer other (inr h) = ap (λ (l : List LinkIndication). list_any tells_move l) h.answered
still uplink downlink (event.Hear item) old new answer other h = absurd (let no_other : true ≡ false = other in cc)

-- a frame that comes up tells nothing of the FOP's
pub quiet_aboard : {U D : Type 0} (uplink : Kind U Frame) (downlink : Kind D Report) (given : Event) (old new : Whole U D) (answer : List LinkIndication)
    → Happens uplink downlink given old new answer → IsQuietAboard given answer
quiet_aboard uplink downlink (event.Offer request body) old new answer h = tt
quiet_aboard uplink downlink (event.Directive given) old new answer h = tt
quiet_aboard uplink downlink event.Tick old new answer h = tt
quiet_aboard uplink downlink (event.Uplink room) old new answer (inl (nothing, h)) = ap (λ (l : List LinkIndication). list_any is_of_fop l) h.answered
quiet_aboard uplink downlink (event.Uplink room) old new answer (inr h) = ap (λ (l : List LinkIndication). list_any is_of_fop l) h.answered
quiet_aboard uplink downlink (event.LoseUp place) old new answer h = tt
quiet_aboard uplink downlink event.Release old new answer h = tt
quiet_aboard uplink downlink event.Clcw old new answer h = tt
quiet_aboard uplink downlink (event.Put telemetry) old new answer h = tt
quiet_aboard uplink downlink event.Downlink old new answer h = tt
quiet_aboard uplink downlink (event.LoseDown place) old new answer h = tt
quiet_aboard uplink downlink event.Transmit old new answer (inl (nothing, h)) = ap (λ (l : List LinkIndication). list_any is_of_fop l) h.answered
quiet_aboard uplink downlink event.Transmit old new answer (inr h) = ap (λ (l : List LinkIndication). list_any is_of_fop l) h.answered
quiet_aboard uplink downlink (event.Hear item) old new answer h = tt

-- ---- whether every start was good

directs_clean : {U D : Type 0} (uplink : Kind U Frame) (downlink : Kind D Report) (given : Directive) (actions : List Action) (old new : Whole U D) (answer : List LinkIndication) (initiation : Bool)
    → MatchBool initiation (Begins uplink downlink given actions old new answer) (Carries uplink actions old new answer)
    → new.clean ≡ (if initiation then clean_after uplink downlink given old else old.clean)
directs_clean {U} {D} uplink downlink given actions old new answer true h = ap (λ (x : Whole U D). x.clean) h.whole
directs_clean {U} {D} uplink downlink given actions old new answer false h = ap (λ (x : Whole U D). x.clean) h.whole

hears_clean : {U D : Type 0} (uplink : Kind U Frame) (item : Report) (old new : Whole U D) (answer : List LinkIndication) → Hears uplink item old new answer → new.clean ≡ old.clean
hears_clean {U} {D} uplink (Word word) old new answer (heard, actions, rest, reads, gives, h, answered) = ap (λ (x : Whole U D). x.clean) h.whole
hears_clean {U} {D} uplink (Telemetry telemetry) old new answer (readied, whole, answered) = ap (λ (x : Whole U D). x.clean) whole

pub clean_is : {U D : Type 0} (uplink : Kind U Frame) (downlink : Kind D Report) (given : Event) (old new : Whole U D) (answer : List LinkIndication)
    → Happens uplink downlink given old new answer → new.clean ≡ clean_by uplink downlink given old
clean_is {U} {D} uplink downlink (event.Offer request body) old new answer (actions, unknown, gives, h) = ap (λ (x : Whole U D). x.clean) h.whole
clean_is uplink downlink (event.Directive given) old new answer (actions, gives, h, fits, level) =
    directs_clean uplink downlink given actions old (unjudged old new) answer (is_initiation given) h
clean_is {U} {D} uplink downlink event.Tick old new answer (actions, gives, h) = ap (λ (x : Whole U D). x.clean) h.whole
clean_is {U} {D} uplink downlink (event.Uplink room) old new answer (inl (nothing, h)) = ap (λ (x : Whole U D). x.clean) h.same.rest
clean_is {U} {D} uplink downlink (event.Uplink room) old new answer (inr h) = ap (λ (x : Whole U D). x.clean) h.whole
clean_is {U} {D} uplink downlink (event.LoseUp place) old new answer h = ap (λ (x : Whole U D). x.clean) h.whole
clean_is {U} {D} uplink downlink event.Release old new answer (whole, answered) = ap (λ (x : Whole U D). x.clean) whole
clean_is {U} {D} uplink downlink event.Clcw old new answer (clcw, is_word, h) = ap (λ (x : Whole U D). x.clean) h.whole
clean_is {U} {D} uplink downlink (event.Put telemetry) old new answer h = ap (λ (x : Whole U D). x.clean) h.whole
clean_is {U} {D} uplink downlink event.Downlink old new answer (inl (nothing, h)) = ap (λ (x : Whole U D). x.clean) h.same.rest
clean_is {U} {D} uplink downlink event.Downlink old new answer (inr h) = hears_clean uplink h.item (record old { down = h.left }) new answer h.heard
clean_is {U} {D} uplink downlink (event.LoseDown place) old new answer h = ap (λ (x : Whole U D). x.clean) h.whole
clean_is {U} {D} uplink downlink event.Transmit old new answer (inl (nothing, h)) = ap (λ (x : Whole U D). x.clean) h.same.rest
clean_is {U} {D} uplink downlink event.Transmit old new answer (inr h) = ap (λ (x : Whole U D). x.clean) h.whole
clean_is uplink downlink (event.Hear item) old new answer h = hears_clean uplink item (record old { clean = false }) new answer h

clean_of : (initiation clean good : Bool) → (if initiation then (if clean then good else false) else clean) ≡ true → clean ≡ true
clean_of true true good e = refl
clean_of true false good e = e
clean_of false clean good e = e

pub clean_before : {U D : Type 0} (uplink : Kind U Frame) (downlink : Kind D Report) (given : Event) (w : Whole U D) → clean_by uplink downlink given w ≡ true → w.clean ≡ true
clean_before uplink downlink (event.Offer request body) w e = e
clean_before uplink downlink (event.Directive given) w e = clean_of (is_initiation given) w.clean (is_good_start uplink downlink given w) e
clean_before uplink downlink event.Tick w e = e
clean_before uplink downlink (event.Uplink room) w e = e
clean_before uplink downlink (event.LoseUp place) w e = e
clean_before uplink downlink event.Release w e = e
clean_before uplink downlink event.Clcw w e = e
clean_before uplink downlink (event.Put telemetry) w e = e
clean_before uplink downlink event.Downlink w e = e
clean_before uplink downlink (event.LoseDown place) w e = e
clean_before uplink downlink event.Transmit w e = e
clean_before uplink downlink (event.Hear item) w e = absurd (let not : false ≡ true = e in cc)

-- where every start was good, every start before was
pub was_clean : {U D : Type 0} (uplink : Kind U Frame) (downlink : Kind D Report) (given : Event) (old new : Whole U D) (result : Result (List LinkIndication) Refusal)
    → IfOk result (λ (answer : List LinkIndication). Happens uplink downlink given old new answer)
    → IfErr result (λ (refusal : Refusal). IsRefused given old refusal × IsAsBefore uplink downlink old new)
    → new.clean ≡ true → old.clean ≡ true
was_clean uplink downlink given old new (Ok answer) happens refused clean =
    clean_before uplink downlink given old (sym (clean_is uplink downlink given old new answer happens) ∙ clean)
was_clean {U} {D} uplink downlink given old new (Err refusal) happens refused clean =
    sym (ap (λ (x : Whole U D). x.clean) refused.1.rest) ∙ clean

-- ---- whether K fitted, and whether the last start was level

hears_fits : {U D : Type 0} (uplink : Kind U Frame) (item : Report) (old new : Whole U D) (answer : List LinkIndication) → Hears uplink item old new answer → new.fits ≡ old.fits
hears_fits {U} {D} uplink (Word word) old new answer (heard, actions, rest, reads, gives, h, answered) = ap (λ (x : Whole U D). x.fits) h.whole
hears_fits {U} {D} uplink (Telemetry telemetry) old new answer (readied, whole, answered) = ap (λ (x : Whole U D). x.fits) whole

pub fits_is : {U D : Type 0} (uplink : Kind U Frame) (downlink : Kind D Report) (given : Event) (old new : Whole U D) (answer : List LinkIndication)
    → Happens uplink downlink given old new answer → new.fits ≡ fits_by given old new
fits_is {U} {D} uplink downlink (event.Offer request body) old new answer (actions, unknown, gives, h) = ap (λ (x : Whole U D). x.fits) h.whole
fits_is uplink downlink (event.Directive given) old new answer (actions, gives, h, fits, level) = fits
fits_is {U} {D} uplink downlink event.Tick old new answer (actions, gives, h) = ap (λ (x : Whole U D). x.fits) h.whole
fits_is {U} {D} uplink downlink (event.Uplink room) old new answer (inl (nothing, h)) = ap (λ (x : Whole U D). x.fits) h.same.rest
fits_is {U} {D} uplink downlink (event.Uplink room) old new answer (inr h) = ap (λ (x : Whole U D). x.fits) h.whole
fits_is {U} {D} uplink downlink (event.LoseUp place) old new answer h = ap (λ (x : Whole U D). x.fits) h.whole
fits_is {U} {D} uplink downlink event.Release old new answer (whole, answered) = ap (λ (x : Whole U D). x.fits) whole
fits_is {U} {D} uplink downlink event.Clcw old new answer (clcw, is_word, h) = ap (λ (x : Whole U D). x.fits) h.whole
fits_is {U} {D} uplink downlink (event.Put telemetry) old new answer h = ap (λ (x : Whole U D). x.fits) h.whole
fits_is {U} {D} uplink downlink event.Downlink old new answer (inl (nothing, h)) = ap (λ (x : Whole U D). x.fits) h.same.rest
fits_is {U} {D} uplink downlink event.Downlink old new answer (inr h) = hears_fits uplink h.item (record old { down = h.left }) new answer h.heard
fits_is {U} {D} uplink downlink (event.LoseDown place) old new answer h = ap (λ (x : Whole U D). x.fits) h.whole
fits_is {U} {D} uplink downlink event.Transmit old new answer (inl (nothing, h)) = ap (λ (x : Whole U D). x.fits) h.same.rest
fits_is {U} {D} uplink downlink event.Transmit old new answer (inr h) = ap (λ (x : Whole U D). x.fits) h.whole
fits_is uplink downlink (event.Hear item) old new answer h = hears_fits uplink item (record old { clean = false }) new answer h

hears_level : {U D : Type 0} (uplink : Kind U Frame) (item : Report) (old new : Whole U D) (answer : List LinkIndication) → Hears uplink item old new answer → new.level ≡ old.level
hears_level {U} {D} uplink (Word word) old new answer (heard, actions, rest, reads, gives, h, answered) = ap (λ (x : Whole U D). x.level) h.whole
hears_level {U} {D} uplink (Telemetry telemetry) old new answer (readied, whole, answered) = ap (λ (x : Whole U D). x.level) whole

pub level_is : {U D : Type 0} (uplink : Kind U Frame) (downlink : Kind D Report) (given : Event) (old new : Whole U D) (answer : List LinkIndication)
    → Happens uplink downlink given old new answer → new.level ≡ level_by uplink downlink given old
level_is {U} {D} uplink downlink (event.Offer request body) old new answer (actions, unknown, gives, h) = ap (λ (x : Whole U D). x.level) h.whole
level_is uplink downlink (event.Directive given) old new answer (actions, gives, h, fits, level) = level
level_is {U} {D} uplink downlink event.Tick old new answer (actions, gives, h) = ap (λ (x : Whole U D). x.level) h.whole
level_is {U} {D} uplink downlink (event.Uplink room) old new answer (inl (nothing, h)) = ap (λ (x : Whole U D). x.level) h.same.rest
level_is {U} {D} uplink downlink (event.Uplink room) old new answer (inr h) = ap (λ (x : Whole U D). x.level) h.whole
level_is {U} {D} uplink downlink (event.LoseUp place) old new answer h = ap (λ (x : Whole U D). x.level) h.whole
level_is {U} {D} uplink downlink event.Release old new answer (whole, answered) = ap (λ (x : Whole U D). x.level) whole
level_is {U} {D} uplink downlink event.Clcw old new answer (clcw, is_word, h) = ap (λ (x : Whole U D). x.level) h.whole
level_is {U} {D} uplink downlink (event.Put telemetry) old new answer h = ap (λ (x : Whole U D). x.level) h.whole
level_is {U} {D} uplink downlink event.Downlink old new answer (inl (nothing, h)) = ap (λ (x : Whole U D). x.level) h.same.rest
level_is {U} {D} uplink downlink event.Downlink old new answer (inr h) = hears_level uplink h.item (record old { down = h.left }) new answer h.heard
level_is {U} {D} uplink downlink (event.LoseDown place) old new answer h = ap (λ (x : Whole U D). x.level) h.whole
level_is {U} {D} uplink downlink event.Transmit old new answer (inl (nothing, h)) = ap (λ (x : Whole U D). x.level) h.same.rest
level_is {U} {D} uplink downlink event.Transmit old new answer (inr h) = ap (λ (x : Whole U D). x.level) h.whole
level_is uplink downlink (event.Hear item) old new answer h = hears_level uplink item (record old { clean = false }) new answer h
