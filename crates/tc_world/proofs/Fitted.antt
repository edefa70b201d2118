-- Where K fitted at every moment so far, the windows fit.
use Rattle.std.proofs.Common.{◌≡◌, ◌≤◌, true, false, inl, inr, Ok, List, sym, ◌∙◌, ap, arith}
use Rattle.std.specs.Prelude.{Result, Err, IfOk, IfErr}
use Rattle.tc_types.specs.declared.link.frames.Frame.{Frame}
use Rattle.tc_types.specs.declared.refusals.Refusal.{Refusal}
use Rattle.std.proofs.lemmas.Bool.{leb-true}
use Rattle.tc_types.specs.declared.link.reports.Report.{Report}
use Rattle.tc_types.specs.declared.link.reports.Report.TheVariants.{Word, Telemetry}
use Rattle.tc_farm.specs.Farm.{IsFarm}
use Rattle.tc_fop.specs.Machine.{Waiting, output}
use Rattle.tc_fop.specs.Calls.{offered, reported, ticked}
use Rattle.tc_fop.specs.Standing.{IsFop}
use Rattle.tc_world.specs.declared.events.Event.{Event}
use Rattle.tc_world.specs.declared.events.Event.TheVariants as event
use Rattle.tc_world.specs.declared.events.LinkIndication.{LinkIndication}
use Rattle.tc_world.specs.Links.{Kind, lossy}
use Rattle.tc_world.specs.Abstraction.{Bare}
use Rattle.tc_world.specs.Kept.{IsKept}
use Rattle.tc_world.specs.Fitting.{IsFitting, IsFit, IsNarrow, half_window}
use Rattle.tc_world.specs.World.{Whole, Happens, Hears, IsRefused, IsAsBefore, is_fitting}
use Rattle.tc_world.proofs.TableLaws.{Laws}
use Rattle.tc_world.proofs.Starting.{both_true}
use Rattle.tc_world.proofs.Stills.{clean_is, clean_before, fits_is}
use Rattle.tc_world.proofs.Fits.{boards_window}
use Rattle.tc_world.proofs.Assembly.{event_goes, answers_of}

-- K and the width of the window stay
still_fits : (w v : Bare) → v.fop.k ≡ w.fop.k → v.farm.window ≡ w.farm.window → w.fop.k ≤ half_window w → v.fop.k ≤ half_window v
still_fits w v k width small = omega (arith, k, width, small)

hears_fits : Laws → (item : Report) (w v : Bare) (answer : List LinkIndication) → Hears lossy item w v answer → w.fop.k ≤ half_window w → v.fop.k ≤ half_window v
hears_fits laws (Word word) w v answer (heard, actions, rest, reads, gives, h, answered) small =
    still_fits w v
    (laws.words_k w.fop heard v.fop (output actions w.fop) (answers_of (reported w.fop heard) w.fop v.fop actions gives (ap (λ (x : Bare). x.fop) h.whole)))
    (ap (λ (x : Bare). x.farm.window) h.whole) small
hears_fits laws (Telemetry telemetry) w v answer (readied, whole, answered) small =
    still_fits w v (ap (λ (x : Bare). x.fop.k) whole) (ap (λ (x : Bare). x.farm.window) whole) small

-- K fits after an event as before, or it is looked at
k_fits : Laws → (given : Event) (w v : Bare) (answer : List LinkIndication) → Happens lossy lossy given w v answer → v.fits ≡ true
    → w.fop.k ≤ half_window w → v.fop.k ≤ half_window v
k_fits laws (event.Offer request body) w v answer (actions, unknown, gives, h) fits small =
    let waiting : Waiting = record { request = request; body = body } in
    still_fits w v
    (laws.offers_k w.fop waiting v.fop (output actions w.fop) (answers_of (offered w.fop waiting) w.fop v.fop actions gives (ap (λ (x : Bare). x.fop) h.whole)))
    (ap (λ (x : Bare). x.farm.window) h.whole) small
k_fits laws (event.Directive given) w v answer (actions, gives, h, after, level) fits small =
    leb-true v.fop.k (half_window v) (both_true w.fits (is_fitting v.fop v.farm) (sym after ∙ fits)).1
k_fits laws event.Tick w v answer (actions, gives, h) fits small =
    still_fits w v
    (laws.ticks_k w.fop v.fop (output actions w.fop) (answers_of (ticked w.fop) w.fop v.fop actions gives (ap (λ (x : Bare). x.fop) h.whole)))
    (ap (λ (x : Bare). x.farm.window) h.whole) small
k_fits laws (event.Uplink room) w v answer (inl (nothing, h)) fits small =
    still_fits w v (ap (λ (x : Bare). x.fop.k) h.same.rest) (ap (λ (x : Bare). x.farm.window) h.same.rest) small
k_fits laws (event.Uplink room) w v answer (inr h) fits small =
    still_fits w v (ap (λ (x : Bare). x.fop.k) h.whole)
    (ap (λ (x : Bare). x.farm.window) h.whole ∙ boards_window w.farm h.frame room) small
k_fits laws (event.LoseUp place) w v answer h fits small =
    still_fits w v (ap (λ (x : Bare). x.fop.k) h.whole) (ap (λ (x : Bare). x.farm.window) h.whole) small
k_fits laws event.Release w v answer (whole, answered) fits small =
    still_fits w v (ap (λ (x : Bare). x.fop.k) whole) (ap (λ (x : Bare). x.farm.window) whole) small
k_fits laws event.Clcw w v answer (clcw, told, h) fits small =
    still_fits w v (ap (λ (x : Bare). x.fop.k) h.whole) (ap (λ (x : Bare). x.farm.window) h.whole) small
k_fits laws (event.Put telemetry) w v answer h fits small =
    still_fits w v (ap (λ (x : Bare). x.fop.k) h.whole) (ap (λ (x : Bare). x.farm.window) h.whole) small
k_fits laws event.Downlink w v answer (inl (nothing, h)) fits small =
    still_fits w v (ap (λ (x : Bare). x.fop.k) h.same.rest) (ap (λ (x : Bare). x.farm.window) h.same.rest) small
k_fits laws event.Downlink w v answer (inr h) fits small = hears_fits laws h.item (record w { down = h.left }) v answer h.heard small
k_fits laws (event.LoseDown place) w v answer h fits small =
    still_fits w v (ap (λ (x : Bare). x.fop.k) h.whole) (ap (λ (x : Bare). x.farm.window) h.whole) small
k_fits laws event.Transmit w v answer (inl (nothing, h)) fits small =
    still_fits w v (ap (λ (x : Bare). x.fop.k) h.same.rest) (ap (λ (x : Bare). x.farm.window) h.same.rest) small
k_fits laws event.Transmit w v answer (inr h) fits small =
    still_fits w v (ap (λ (x : Bare). x.fop.k) h.whole) (ap (λ (x : Bare). x.farm.window) h.whole) small
k_fits laws (event.Hear item) w v answer h fits small = hears_fits laws item (record w { clean = false }) v answer h small

pub fits_before : {U D : Type 0} (uplink : Kind U Frame) (downlink : Kind D Report) (given : Event) (w v : Whole U D) (answer : List LinkIndication) → Happens uplink downlink given w v answer → v.fits ≡ true → w.fits ≡ true
fits_before uplink downlink (event.Offer request body) w v answer h fits = sym (fits_is uplink downlink (event.Offer request body) w v answer h) ∙ fits
fits_before uplink downlink (event.Directive given) w v answer (actions, gives, h, after, level) fits =
    (both_true w.fits (is_fitting v.fop v.farm) (sym after ∙ fits)).0
fits_before uplink downlink event.Tick w v answer h fits = sym (fits_is uplink downlink event.Tick w v answer h) ∙ fits
fits_before uplink downlink (event.Uplink room) w v answer h fits = sym (fits_is uplink downlink (event.Uplink room) w v answer h) ∙ fits
fits_before uplink downlink (event.LoseUp place) w v answer h fits = sym (fits_is uplink downlink (event.LoseUp place) w v answer h) ∙ fits
fits_before uplink downlink event.Release w v answer h fits = sym (fits_is uplink downlink event.Release w v answer h) ∙ fits
fits_before uplink downlink event.Clcw w v answer h fits = sym (fits_is uplink downlink event.Clcw w v answer h) ∙ fits
fits_before uplink downlink (event.Put telemetry) w v answer h fits = sym (fits_is uplink downlink (event.Put telemetry) w v answer h) ∙ fits
fits_before uplink downlink event.Downlink w v answer h fits = sym (fits_is uplink downlink event.Downlink w v answer h) ∙ fits
fits_before uplink downlink (event.LoseDown place) w v answer h fits = sym (fits_is uplink downlink (event.LoseDown place) w v answer h) ∙ fits
fits_before uplink downlink event.Transmit w v answer h fits = sym (fits_is uplink downlink event.Transmit w v answer h) ∙ fits
fits_before uplink downlink (event.Hear item) w v answer h fits = sym (fits_is uplink downlink (event.Hear item) w v answer h) ∙ fits

-- a call that is refused leaves it
pub was_fitting : {U D : Type 0} (uplink : Kind U Frame) (downlink : Kind D Report) (given : Event) (old new : Whole U D) (result : Result (List LinkIndication) Refusal)
    → IfOk result (λ (answer : List LinkIndication). Happens uplink downlink given old new answer)
    → IfErr result (λ (refusal : Refusal). IsRefused given old refusal × IsAsBefore uplink downlink old new)
    → new.fits ≡ true → old.fits ≡ true
was_fitting uplink downlink given old new (Ok answer) happens refused fits = fits_before uplink downlink given old new answer happens fits
was_fitting {U} {D} uplink downlink given old new (Err refusal) happens refused fits = sym (ap (λ (x : Whole U D). x.fits) refused.1.rest) ∙ fits

-- K fits after an event where it fitted at every moment
pub event_narrow : Laws → (given : Event) (w v : Bare) (answer : List LinkIndication) → IsNarrow w → Happens lossy lossy given w v answer → IsNarrow v
event_narrow laws given w v answer narrow h = λ fits.
    k_fits laws given w v answer h fits (narrow (fits_before lossy lossy given w v answer h fits))

-- where the windows fitted they fit after one event
pub event_fits : Laws → (given : Event) (w v : Bare) (answer : List LinkIndication) → IsKept w → IsFit w → IsFop v.fop → IsFarm v.farm
    → Happens lossy lossy given w v answer → IsFit v
event_fits laws given w v answer kept fit fop farm h = λ clean fits.
    let old : IsFitting w =
    fit (clean_before lossy lossy given w (sym (clean_is lossy lossy given w v answer h) ∙ clean)) (fits_before lossy lossy given w v answer h fits) in
    (event_goes laws given w v answer kept fop farm h).fits clean old (k_fits laws given w v answer h fits old.k)
