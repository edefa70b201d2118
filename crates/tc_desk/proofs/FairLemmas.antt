-- Where K fits and no start was bad, an act leaves the FARM out of Lockout, and no other alert is told than those that may come.
use Rattle.std.proofs.Common.{◌≡◌, ℕ, ◌==◌, Bool, true, false, Option, Some, None, List, [], ◌∷◌, refl, sym, ◌∙◌, ap, subst, arith}
use Rattle.std.specs.Prelude.{◌||◌, nat_lt, nat_le, if◌then◌else◌}
use Rattle.std.specs.List.{list_all}
use Rattle.std.proofs.lemmas.Bool.Decides.{nat_tests}
use Rattle.tc_types.specs.declared.link.frames.Frame.{Frame}
use Rattle.tc_types.specs.declared.link.directives.Directive.{Directive}
use Rattle.tc_types.specs.declared.link.directives.Directive.TheVariants as directive
use Rattle.tc_types.specs.declared.link.reports.Report.{Report}
use Rattle.tc_types.specs.declared.link.reports.Telemetry.{Telemetry}
use Rattle.tc_types.specs.declared.requests.Request.{Request}
use Rattle.tc_types.specs.declared.acts.LinkAct.{LinkAct}
use Rattle.tc_types.specs.declared.acts.LinkAct.TheVariants as link_act
use Rattle.tc_types.specs.declared.acts.Act.{Act}
use Rattle.tc_types.specs.declared.acts.Act.TheVariants as act
use Rattle.tc_farm.specs.declared.farms.FarmView.{FarmView}
use Rattle.tc_farm.specs.Farm.{is_locked_out}
use Rattle.tc_fop.specs.declared.signals.FopState.{FopState}
use Rattle.tc_fop.specs.Views.{view_of}
use Rattle.tc_world.specs.declared.events.Event.{Event}
use Rattle.tc_world.specs.declared.events.Event.TheVariants as event
use Rattle.tc_world.specs.declared.events.LinkIndication.{LinkIndication}
use Rattle.tc_world.specs.Fair.{is_fair}
use Rattle.tc_world.specs.Links.{Kind}
use Rattle.tc_world.specs.World.{Whole, IsAsBefore, is_fitting_setting, sets_fitting}
use Rattle.tc_book.specs.declared.stamps.Stamp.{Stamp}
use Rattle.tc_book.specs.Book.{Book, request_at}
use Rattle.tc_book.specs.Logs.{released_with}
use Rattle.tc_book.proofs.PassingLemmas.{none_holds}
use Rattle.tc_desk.specs.declared.firsts.FirstLine.{FirstLine}
use Rattle.tc_world.specs.declared.configs.Config.{Config}
use Rattle.tc_desk.specs.Acts.{is_bad_directive, link_tests, refusal_of}
use Rattle.tc_desk.specs.Asks.{event_of, offer_at, has_buffer, taken_in, reports_after}
use Rattle.tc_desk.specs.Fair.{IsFairlyTold}
use Rattle.tc_desk.specs.Machine.{Happened, Passes, PutsDown, Reports, Flies, FliesBeside, Does}
use Rattle.tc_desk.specs.State.{State, widest_k, new_world}
use Rattle.tc_desk.proofs.HeadlineLemmas.{puts_clean}

-- ---- what stands

-- K fitted at every moment, and while every start was good the FARM is not in Lockout
abbrev pub Fits : {U D : Type 0} → Whole U D → Type 0
Fits w = (w.fits ≡ true) × (w.clean ≡ true → is_locked_out w.farm.state ≡ false)

half_fits : (half : ℕ) (narrow : Bool) → nat_lt half 10 ≡ narrow → nat_le (if narrow then half else 10) half ≡ true
half_fits half true e = grind (arith, nat_tests)
half_fits half false e = grind (arith, nat_tests, e)

-- a link where nothing happened yet
pub new_fits : {U D : Type 0} (config : Config) (up : U) (down : D) → Fits (new_world config up down)
new_fits config up down = (half_fits (widest_k config.window) (nat_lt (widest_k config.window) 10) refl, λ clean. refl)

-- ---- what is asked

pub neither : (a b : Bool) → (a || b) ≡ false → (a ≡ false) × (b ≡ false)
neither true b e = cc
neither false b e = (refl, e)

-- a directive that no test refuses sets no K that does not fit
setting_passes : (given : Directive) (state : FopState) (farm : FarmView) → is_bad_directive state (widest_k farm.window) given ≡ false → is_fitting_setting given farm ≡ true
setting_passes directive.InitiateNone state farm e = refl
setting_passes directive.InitiateCheck state farm e = refl
setting_passes directive.InitiateUnlock state farm e = refl
setting_passes (directive.InitiateSetVr v) state farm e = refl
setting_passes directive.Terminate state farm e = refl
setting_passes (directive.SetVs v) state farm e = refl
setting_passes (directive.SetK k) state farm e =
    let wide : nat_lt (widest_k farm.window) k ≡ false = (neither (k == 0) (nat_lt (widest_k farm.window) k) e).1 in
    grind (arith, nat_tests, wide)
setting_passes (directive.SetT1 t1) state farm e = refl
setting_passes (directive.SetLimit limit) state farm e = refl

-- what is asked sets no K that does not fit, where something is asked
abbrev asks_fitting : Option Event → FarmView → Bool
asks_fitting None farm = true
asks_fitting (Some given) farm = sets_fitting given farm

offer_fits : (book : Book) (n : ℕ) (request : Option Request) (farm : FarmView) → asks_fitting (offer_at book n request) farm ≡ true
offer_fits book n None farm = refl
offer_fits book n (Some request) farm = refl

direct_fits : {U D : Type 0} (stamp : Stamp) (at : State U D) (given : Directive) → refusal_of stamp at (act.Link (link_act.Direct given)) ≡ None → is_fitting_setting given at.world.farm ≡ true
direct_fits stamp at given passes =
    setting_passes given at.world.fop.state at.world.farm
    (none_holds (link_tests at.book (view_of at.world.fop) (widest_k at.world.farm.window) at.board.time (link_act.Direct given)) passes).0

-- ---- what stands after it

happened_fits : {U D : Type 0} (up : Kind U Frame) (down : Kind D Report) (given : Event) (w v : Whole U D) (all : List LinkIndication) → sets_fitting given w.farm ≡ true
    → Happened up down given w v all → Fits w → Fits v
happened_fits up down given w v all sets h old =
    let fits : v.fits ≡ true = h.keeps_fitting old.0 sets in
    (fits, λ clean. h.open_farm clean fits)

same_fits : {U D : Type 0} (w v : Whole U D) → v ≡ w → Fits w → Fits v
same_fits {U} {D} w v same old = subst (λ (x : Whole U D). Fits x) (sym same) old

-- a link that got room
pub before_fits : {U D : Type 0} (up : Kind U Frame) (down : Kind D Report) (w v : Whole U D) → IsAsBefore up down w v → Fits w → Fits v
before_fits {U} {D} up down w v same old = subst (λ (x : Whole U D). Fits x) (sym same.rest) (old.0, old.1)

puts_fit : {U D : Type 0} (up : Kind U Frame) (down : Kind D Report) (items : List Telemetry) (w v : Whole U D) → PutsDown up down items w v → Fits w → Fits v
puts_fit up down [] w v puts old = same_fits w v puts old
puts_fit up down (item ∷ items) w v puts old = puts_fit up down items puts.0 v puts.2 (happened_fits up down (event.Put item) w puts.0 [] refl puts.1 old)

reports_fit : {U D : Type 0} (up : Kind U Frame) (down : Kind D Report) (items : List Telemetry) (w v : Whole U D) → Reports up down items w v → Fits w → Fits v
reports_fit up down items w v reports old = puts_fit up down items reports.ready v reports.put (before_fits up down w reports.ready reports.readied old)

passes_fit : {U D : Type 0} (up : Kind U Frame) (down : Kind D Report) (asked : Option Event) (w v : Whole U D) (all : List LinkIndication) → asks_fitting asked w.farm ≡ true
    → Passes up down asked w v all → Fits w → Fits v
passes_fit up down None w v all sets passes old = same_fits w v passes.0 old
passes_fit up down (Some given) w v all sets passes old = happened_fits up down given w v all sets passes old

-- the frame that came to the FARM, where room was made before
frame_fits : {U D : Type 0} (up : Kind U Frame) (down : Kind D Report) (free : Bool) (w ready carried : Whole U D) (all : List LinkIndication) → IsAsBefore up down w ready
    → Happened up down (event.Uplink free) ready carried all → Fits w → Fits carried
frame_fits up down free w ready carried all readied frame old = happened_fits up down (event.Uplink free) ready carried all refl frame (before_fits up down w ready readied old)

flight_fits : {U D : Type 0} (up : Kind U Frame) (down : Kind D Report) (stamp : Stamp) (given : LinkAct) (old new : State U D) (all : List LinkIndication)
    → refusal_of stamp old (act.Link given) ≡ None → Flies up down given old new all → Fits old.world → Fits new.world
flight_fits up down stamp (link_act.Release n) old new all free flies fits = passes_fit up down (event_of old (link_act.Release n)) old.world new.world all (offer_fits old.book n (request_at old.book n) old.world.farm) flies.0 fits
flight_fits up down stamp (link_act.Direct given) old new all free flies fits = passes_fit up down (event_of old (link_act.Direct given)) old.world new.world all (direct_fits stamp old given free) flies.0 fits
flight_fits up down stamp link_act.Tick old new all free flies fits = passes_fit up down (event_of old link_act.Tick) old.world new.world all refl flies.0 fits
flight_fits up down stamp link_act.Up old new all free flies fits =
    puts_fit up down (reports_after (taken_in all)) flies.carried new.world flies.reports
    (frame_fits up down (has_buffer old.board) old.world flies.ready flies.carried all flies.readied flies.frame fits)
flight_fits up down stamp (link_act.LoseUp place) old new all free flies fits = passes_fit up down (event_of old (link_act.LoseUp place)) old.world new.world all refl flies.0 fits
flight_fits up down stamp (link_act.LoseDown place) old new all free flies fits = passes_fit up down (event_of old (link_act.LoseDown place)) old.world new.world all refl flies.0 fits
flight_fits up down stamp link_act.Clcw old new all free flies fits = passes_fit up down (event_of old link_act.Clcw) old.world new.world all refl flies.0 fits
flight_fits up down stamp link_act.Down old new all free flies fits = passes_fit up down (event_of old link_act.Down) old.world new.world all refl flies.0 fits
flight_fits up down stamp link_act.Work old new all free flies fits =
    happened_fits up down event.Release flies.reported new.world [] refl flies.free (reports_fit up down _ old.world flies.reported flies.reports fits)
flight_fits up down stamp (link_act.Clock time) old new all free flies fits = reports_fit up down flies.items old.world new.world flies.reports fits

-- a release that comes with a record, if one does
beside_fits : {U D : Type 0} (up : Kind U Frame) (down : Kind D Report) (beside : Option ℕ) (old new : State U D) (all : List LinkIndication) → FliesBeside up down beside old new all
    → Fits old.world → Fits new.world
beside_fits up down None old new all stands fits = same_fits old.world new.world stands.0 fits
beside_fits up down (Some n) old new all flies fits = passes_fit up down (event_of old (link_act.Release n)) old.world new.world all (offer_fits old.book n (request_at old.book n) old.world.farm) flies.0 fits

-- an act that no test refuses
pub does_fit : {U D : Type 0} (up : Kind U Frame) (down : Kind D Report) (stamp : Stamp) (given : Act) (old new : State U D) (all : List LinkIndication) (first : FirstLine)
    → refusal_of stamp old given ≡ None → Does up down stamp given old new all first → Fits old.world → Fits new.world
does_fit up down stamp (act.Book given) old new all first free does fits = same_fits old.world new.world does.link.0 fits
does_fit up down stamp (act.Link given) old new all first free does fits = flight_fits up down stamp given old new all free does.link fits
does_fit up down stamp (act.Step given) old new all first free does fits = beside_fits up down (released_with old.book given) old new all does.link fits
does_fit {U} {D} up down stamp (act.Ask asked) old new all first free does fits = same_fits old.world new.world (ap (λ (at : State U D). at.world) does.link.0) fits

-- ---- what is told

-- no alert is told but those that may come where the link stood so
abbrev Tells : {U D : Type 0} → Whole U D → Whole U D → List LinkIndication → Type 0
Tells w v all = v.clean ≡ true → list_all (is_fair w.level w.fop.state) all ≡ true

silent_tells : {U D : Type 0} (w v : Whole U D) (all : List LinkIndication) → all ≡ [] → Tells w v all
silent_tells w v all silent = λ clean. ap (λ (l : List LinkIndication). list_all (is_fair w.level w.fop.state) l) silent

passes_tell : {U D : Type 0} (up : Kind U Frame) (down : Kind D Report) (asked : Option Event) (w v : Whole U D) (all : List LinkIndication) → asks_fitting asked w.farm ≡ true
    → Passes up down asked w v all → Fits w → Tells w v all
passes_tell up down None w v all sets passes old = silent_tells w v all passes.1
passes_tell up down (Some given) w v all sets passes old = λ clean. passes.fair clean (happened_fits up down given w v all sets passes old).0

-- what the FARM tells comes before what is put on the downlink
frame_tells : {U D : Type 0} (up : Kind U Frame) (down : Kind D Report) (free : Bool) (items : List Telemetry) (w ready carried v : Whole U D) (all : List LinkIndication) → IsAsBefore up down w ready
    → Happened up down (event.Uplink free) ready carried all → PutsDown up down items carried v → Fits w → Tells w v all
frame_tells {U} {D} up down free items w ready carried v all readied frame puts old = λ clean.
    subst (λ (x : Whole U D). list_all (is_fair x.level x.fop.state) all ≡ true → list_all (is_fair w.level w.fop.state) all ≡ true) (sym readied.rest) (λ same. same)
    (frame.fair (sym (puts_clean up down items carried v puts) ∙ clean) (frame_fits up down free w ready carried all readied frame old).0)

flight_tells : {U D : Type 0} (up : Kind U Frame) (down : Kind D Report) (stamp : Stamp) (given : LinkAct) (old new : State U D) (all : List LinkIndication)
    → refusal_of stamp old (act.Link given) ≡ None → Flies up down given old new all → Fits old.world → Tells old.world new.world all
flight_tells up down stamp (link_act.Release n) old new all free flies fits = passes_tell up down (event_of old (link_act.Release n)) old.world new.world all (offer_fits old.book n (request_at old.book n) old.world.farm) flies.0 fits
flight_tells up down stamp (link_act.Direct given) old new all free flies fits = passes_tell up down (event_of old (link_act.Direct given)) old.world new.world all (direct_fits stamp old given free) flies.0 fits
flight_tells up down stamp link_act.Tick old new all free flies fits = passes_tell up down (event_of old link_act.Tick) old.world new.world all refl flies.0 fits
flight_tells up down stamp link_act.Up old new all free flies fits =
    frame_tells up down (has_buffer old.board) (reports_after (taken_in all)) old.world flies.ready flies.carried new.world all flies.readied flies.frame flies.reports fits
flight_tells up down stamp (link_act.LoseUp place) old new all free flies fits = passes_tell up down (event_of old (link_act.LoseUp place)) old.world new.world all refl flies.0 fits
flight_tells up down stamp (link_act.LoseDown place) old new all free flies fits = passes_tell up down (event_of old (link_act.LoseDown place)) old.world new.world all refl flies.0 fits
flight_tells up down stamp link_act.Clcw old new all free flies fits = passes_tell up down (event_of old link_act.Clcw) old.world new.world all refl flies.0 fits
flight_tells up down stamp link_act.Down old new all free flies fits = passes_tell up down (event_of old link_act.Down) old.world new.world all refl flies.0 fits
flight_tells up down stamp link_act.Work old new all free flies fits = silent_tells old.world new.world all flies.silent
flight_tells up down stamp (link_act.Clock time) old new all free flies fits = silent_tells old.world new.world all flies.silent

beside_tells : {U D : Type 0} (up : Kind U Frame) (down : Kind D Report) (beside : Option ℕ) (old new : State U D) (all : List LinkIndication) → FliesBeside up down beside old new all
    → Fits old.world → Tells old.world new.world all
beside_tells up down None old new all stands fits = silent_tells old.world new.world all stands.3
beside_tells up down (Some n) old new all flies fits = passes_tell up down (event_of old (link_act.Release n)) old.world new.world all (offer_fits old.book n (request_at old.book n) old.world.farm) flies.0 fits

-- an act that no test refuses tells no other alert
pub does_fairly : {U D : Type 0} (up : Kind U Frame) (down : Kind D Report) (stamp : Stamp) (given : Act) (old new : State U D) (all : List LinkIndication) (first : FirstLine)
    → refusal_of stamp old given ≡ None → Does up down stamp given old new all first → Fits old.world → IsFairlyTold old new all
does_fairly up down stamp (act.Book given) old new all first free does fits = silent_tells old.world new.world all does.link.3
does_fairly up down stamp (act.Link given) old new all first free does fits = flight_tells up down stamp given old new all free does.link fits
does_fairly up down stamp (act.Step given) old new all first free does fits = beside_tells up down (released_with old.book given) old new all does.link fits
does_fairly up down stamp (act.Ask asked) old new all first free does fits = silent_tells old.world new.world all does.link.1
