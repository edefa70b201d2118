-- Where K fits and a directive sets none that does not, K fits after it.
use Rattle.std.proofs.Common.{◌≡◌, ℕ, ◌/◌, ◌≤◌, Bool, true, false, Ok, List, ◌∙◌, ap, arith}
use Rattle.std.specs.Prelude.{MatchBool, nat_le, if◌then◌else◌}
use Rattle.std.proofs.lemmas.Bool.Decides.{nat_tests}
use Rattle.tc_types.specs.declared.link.frames.Frame.{Frame}
use Rattle.tc_types.specs.declared.link.reports.Report.{Report}
use Rattle.tc_types.specs.declared.link.directives.Directive.{Directive}
use Rattle.tc_types.specs.declared.link.directives.Directive.TheVariants as directive
use Rattle.tc_farm.specs.declared.farms.FarmView.{FarmView}
use Rattle.tc_fop.specs.Machine.{Machine, Action, Out, after, output}
use Rattle.tc_fop.specs.Calls.{directed, Answers}
use Rattle.tc_fop.specs.Width.{k_after}
use Rattle.tc_fop.specs.Moves.{is_initiation}
use Rattle.tc_world.specs.declared.events.Event.{Event}
use Rattle.tc_world.specs.declared.events.Event.TheVariants as event
use Rattle.tc_world.specs.declared.events.LinkIndication.{LinkIndication}
use Rattle.tc_world.specs.Links.{Kind}
use Rattle.tc_world.specs.World.{Whole, Happens, Begins, Carries, unjudged, is_fitting, is_fitting_setting, sets_fitting}
use Rattle.tc_world.proofs.Assembly.{answers_of}
use Rattle.tc_world.proofs.Stills.{fits_is}

-- what a directive makes of K
abbrev pub DirectsK : Type 0
DirectsK = (m : Machine) (given : Directive) (new : Machine) (out : Out) → Answers (directed m given) m new (Ok out) → new.k ≡ k_after given m

-- K after a directive that sets none that does not fit
setting_fits : (given : Directive) (m : Machine) (farm : FarmView) → m.k ≤ farm.window / 2 → is_fitting_setting given farm ≡ true
    → nat_le (k_after given m) (farm.window / 2) ≡ true
setting_fits directive.InitiateNone m farm small fits = grind (arith, nat_tests, small)
setting_fits directive.InitiateCheck m farm small fits = grind (arith, nat_tests, small)
setting_fits directive.InitiateUnlock m farm small fits = grind (arith, nat_tests, small)
setting_fits (directive.InitiateSetVr v) m farm small fits = grind (arith, nat_tests, small)
setting_fits directive.Terminate m farm small fits = grind (arith, nat_tests, small)
setting_fits (directive.SetVs v) m farm small fits = grind (arith, nat_tests, small)
setting_fits (directive.SetK k) m farm small fits = fits
setting_fits (directive.SetT1 t1) m farm small fits = grind (arith, nat_tests, small)
setting_fits (directive.SetLimit limit) m farm small fits = grind (arith, nat_tests, small)

-- a directive acts on the FOP, and leaves the FARM
directs_fop : {U D : Type 0} (uplink : Kind U Frame) (downlink : Kind D Report) (given : Directive) (actions : List Action) (old new : Whole U D) (answer : List LinkIndication) (initiation : Bool)
    → MatchBool initiation (Begins uplink downlink given actions old new answer) (Carries uplink actions old new answer)
    → new.fop ≡ after actions old.fop
directs_fop {U} {D} uplink downlink given actions old new answer true h = ap (λ (x : Whole U D). x.fop) h.whole
directs_fop {U} {D} uplink downlink given actions old new answer false h = ap (λ (x : Whole U D). x.fop) h.whole

directs_farm : {U D : Type 0} (uplink : Kind U Frame) (downlink : Kind D Report) (given : Directive) (actions : List Action) (old new : Whole U D) (answer : List LinkIndication) (initiation : Bool)
    → MatchBool initiation (Begins uplink downlink given actions old new answer) (Carries uplink actions old new answer)
    → new.farm ≡ old.farm
directs_farm {U} {D} uplink downlink given actions old new answer true h = ap (λ (x : Whole U D). x.farm) h.whole
directs_farm {U} {D} uplink downlink given actions old new answer false h = ap (λ (x : Whole U D). x.farm) h.whole

-- it fitted, and fits now
fits_on : (old now : Bool) → old ≡ true → now ≡ true → (if old then now else false) ≡ true
fits_on true now fitted fits = fits
fits_on false now fitted fits = fitted

pub keeps_fitting : {U D : Type 0} (uplink : Kind U Frame) (downlink : Kind D Report) → DirectsK → (given : Event) (old new : Whole U D) (answer : List LinkIndication)
    → (old.fits ≡ true → old.fop.k ≤ old.farm.window / 2) → Happens uplink downlink given old new answer
    → old.fits ≡ true → sets_fitting given old.farm ≡ true → new.fits ≡ true
keeps_fitting uplink downlink law (event.Offer request body) old new answer narrow h fits sets = fits_is uplink downlink (event.Offer request body) old new answer h ∙ fits
keeps_fitting uplink downlink law (event.Directive given) old new answer narrow (actions, gives, h, after_is, level) fits sets =
    let fop : new.fop ≡ after actions old.fop = directs_fop uplink downlink given actions old (unjudged old new) answer (is_initiation given) h in
    let farm : new.farm ≡ old.farm = directs_farm uplink downlink given actions old (unjudged old new) answer (is_initiation given) h in
    let k : new.fop.k ≡ k_after given old.fop =
    law old.fop given new.fop (output actions old.fop) (answers_of (directed old.fop given) old.fop new.fop actions gives fop) in
    let small : is_fitting new.fop new.farm ≡ true =
    ap (λ (n : ℕ). nat_le n (new.farm.window / 2)) k
    ∙ ap (λ (f : FarmView). nat_le (k_after given old.fop) (f.window / 2)) farm
    ∙ setting_fits given old.fop old.farm (narrow fits) sets in
    after_is ∙ fits_on old.fits (is_fitting new.fop new.farm) fits small
keeps_fitting uplink downlink law event.Tick old new answer narrow h fits sets = fits_is uplink downlink event.Tick old new answer h ∙ fits
keeps_fitting uplink downlink law (event.Uplink room) old new answer narrow h fits sets = fits_is uplink downlink (event.Uplink room) old new answer h ∙ fits
keeps_fitting uplink downlink law (event.LoseUp place) old new answer narrow h fits sets = fits_is uplink downlink (event.LoseUp place) old new answer h ∙ fits
keeps_fitting uplink downlink law event.Release old new answer narrow h fits sets = fits_is uplink downlink event.Release old new answer h ∙ fits
keeps_fitting uplink downlink law event.Clcw old new answer narrow h fits sets = fits_is uplink downlink event.Clcw old new answer h ∙ fits
keeps_fitting uplink downlink law (event.Put telemetry) old new answer narrow h fits sets = fits_is uplink downlink (event.Put telemetry) old new answer h ∙ fits
keeps_fitting uplink downlink law event.Downlink old new answer narrow h fits sets = fits_is uplink downlink event.Downlink old new answer h ∙ fits
keeps_fitting uplink downlink law (event.LoseDown place) old new answer narrow h fits sets = fits_is uplink downlink (event.LoseDown place) old new answer h ∙ fits
keeps_fitting uplink downlink law event.Transmit old new answer narrow h fits sets = fits_is uplink downlink event.Transmit old new answer h ∙ fits
keeps_fitting uplink downlink law (event.Hear item) old new answer narrow h fits sets = fits_is uplink downlink (event.Hear item) old new answer h ∙ fits
