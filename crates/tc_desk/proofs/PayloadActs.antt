-- What flies of each request is kept by each act, and what was sent stays sent.
use Rattle.std.proofs.Common.{◌≡◌, ℕ, Option, Some, None, List, [], ◌∷◌, ◌++◌, refl, sym, ◌∙◌, ap, subst, append-nil}
use Rattle.std.specs.List.{flat_map, AllByRecursion}
use Rattle.tc_types.specs.declared.acts.Act.{Act}
use Rattle.tc_types.specs.declared.acts.Act.TheVariants as act
use Rattle.tc_types.specs.declared.acts.LinkAct.{LinkAct}
use Rattle.tc_types.specs.declared.acts.LinkAct.TheVariants as link_act
use Rattle.tc_types.specs.declared.link.frames.Frame.{Frame}
use Rattle.tc_types.specs.declared.link.reports.Report.{Report}
use Rattle.tc_types.specs.declared.link.reports.Telemetry.{Telemetry}
use Rattle.tc_types.specs.declared.requests.Request.{Request}
use Rattle.tc_types.specs.declared.link.telecommands.Payload.{Payload}
use Rattle.tc_world.specs.declared.events.Event.{Event}
use Rattle.tc_world.specs.declared.events.Event.TheVariants as event
use Rattle.tc_world.specs.declared.events.LinkIndication.{LinkIndication}
use Rattle.tc_world.specs.Abstraction.{seen}
use Rattle.tc_world.specs.Links.{Kind}
use Rattle.tc_world.specs.Payloads.{AreCarried, IsOfferOf, IsToldOf}
use Rattle.tc_world.specs.Telling.{sent_said}
use Rattle.tc_world.specs.World.{Whole, IsAsBefore, all_sent}
use Rattle.tc_world.proofs.Bridge.{OnlyLoses, happens_seen}
use Rattle.tc_world.proofs.Claims.{as_before_seen}
use Rattle.tc_world.proofs.Payloads.{payloads_kept}
use Rattle.tc_book.specs.Book.{request_at}
use Rattle.tc_book.specs.Logs.{released_with}
use Rattle.tc_desk.specs.Asks.{offer_at, has_buffer, taken_in, reports_after}
use Rattle.tc_desk.specs.Commands.{payload_of}
use Rattle.tc_desk.specs.Machine.{Happened, Passes, PutsDown, Reports, Boards, Flies, FliesBeside, Goes}
use Rattle.tc_desk.specs.State.{State}

-- What is carried over the link after something happened to it, and what was told then; what was sent before, and more.
pub record CarriedOn {U D : Type 0} (P : ℕ → Payload → Type 0) (up : Kind U Frame) (down : Kind D Report) (old new : Whole U D) (all : List LinkIndication) : Type 0 where
  pub payloads : AreCarried P (seen up down new)
  pub told : AllByRecursion (IsToldOf P (all_sent new)) all
  pub more : List ℕ
  pub sent : all_sent new ≡ all_sent old ++ more

-- ---- steps of the link

-- one event
happened_on : {U D : Type 0} (P : ℕ → Payload → Type 0) (up : Kind U Frame) (down : Kind D Report) → OnlyLoses up → OnlyLoses down → (given : Event) (w v : Whole U D) (all : List LinkIndication)
    → IsOfferOf P given → Happened up down given w v all → AreCarried P (seen up down w) → CarriedOn P up down w v all
happened_on P up down losing_up losing_down given w v all own happened carried =
    let kept = payloads_kept P given (seen up down w) (seen up down v) all carried own (happens_seen up down losing_up losing_down given w v all happened.happens) in
    record { payloads = kept.0; told = kept.1; more = flat_map sent_said all; sent = happened.tells.sent }

-- nothing happened to it
same_on : {U D : Type 0} (P : ℕ → Payload → Type 0) (up : Kind U Frame) (down : Kind D Report) (w v : Whole U D) (all : List LinkIndication) → v ≡ w → all ≡ [] → AreCarried P (seen up down w) → CarriedOn P up down w v all
same_on {U} {D} P up down w v all same none carried = record {
  payloads = subst (λ (x : Whole U D). AreCarried P (seen up down x)) (sym same) carried;
  told = subst (AllByRecursion (IsToldOf P (all_sent v))) (sym none) tt;
  more = [];
  sent = ap (λ (x : Whole U D). all_sent x) same ∙ sym (append-nil (all_sent w));
}

-- it is as before, with room
before_sent : {U D : Type 0} (up : Kind U Frame) (down : Kind D Report) (w v : Whole U D) → IsAsBefore up down w v → all_sent v ≡ all_sent w
before_sent {U} {D} up down w v same = ap (λ (x : Whole U D). all_sent x) same.rest

pub before_payloads : {U D : Type 0} (P : ℕ → Payload → Type 0) (up : Kind U Frame) (down : Kind D Report) → OnlyLoses up → OnlyLoses down → (w v : Whole U D) → IsAsBefore up down w v → AreCarried P (seen up down w) → AreCarried P (seen up down v)
before_payloads P up down ul dl w v same carried = subst (AreCarried P) (sym (as_before_seen up down ul dl w v same)) carried

-- reports that are put on the downlink
puts_on : {U D : Type 0} (P : ℕ → Payload → Type 0) (up : Kind U Frame) (down : Kind D Report) → OnlyLoses up → OnlyLoses down → (items : List Telemetry) (w v : Whole U D)
    → PutsDown up down items w v → AreCarried P (seen up down w) → AreCarried P (seen up down v) × (all_sent v ≡ all_sent w)
puts_on {U} {D} P up down losing_up losing_down [] w v puts carried = (subst (λ (x : Whole U D). AreCarried P (seen up down x)) (sym puts) carried, ap (λ (x : Whole U D). all_sent x) puts)
puts_on P up down losing_up losing_down (item ∷ items) w v (next, first, others) carried =
    let on = happened_on P up down losing_up losing_down (event.Put item) w next [] tt first carried in
    let rest = puts_on P up down losing_up losing_down items next v others on.payloads in
    (rest.0, rest.1 ∙ first.tells.sent ∙ append-nil (all_sent w))

-- the same where room was made before
reports_on : {U D : Type 0} (P : ℕ → Payload → Type 0) (up : Kind U Frame) (down : Kind D Report) → OnlyLoses up → OnlyLoses down → (items : List Telemetry) (w v : Whole U D)
    → Reports up down items w v → AreCarried P (seen up down w) → AreCarried P (seen up down v) × (all_sent v ≡ all_sent w)
reports_on P up down losing_up losing_down items w v reports carried =
    let put = puts_on P up down losing_up losing_down items reports.ready v reports.put (before_payloads P up down losing_up losing_down w reports.ready reports.readied carried) in
    (put.0, put.1 ∙ before_sent up down w reports.ready reports.readied)

-- ---- acts

-- a request that is offered, where there is one
offer_on : {U D : Type 0} (P : ℕ → Payload → Type 0) (up : Kind U Frame) (down : Kind D Report) → OnlyLoses up → OnlyLoses down → (n : ℕ) (old : State U D) (v : Whole U D) (all : List LinkIndication) (asked : Option Request)
    → ((r : Request) → asked ≡ Some r → P n (payload_of old.book r.body))
    → Passes up down (offer_at old.book n asked) old.world v all → AreCarried P (seen up down old.world) → CarriedOn P up down old.world v all
offer_on P up down losing_up losing_down n old v all None own passes carried = same_on P up down old.world v all passes.0 passes.1 carried
offer_on P up down losing_up losing_down n old v all (Some r) own passes carried =
    happened_on P up down losing_up losing_down (event.Offer n (payload_of old.book r.body)) old.world v all (own r refl) passes carried

-- a frame that comes on board, and the report that it makes
boards_on : {U D : Type 0} (P : ℕ → Payload → Type 0) (up : Kind U Frame) (down : Kind D Report) → OnlyLoses up → OnlyLoses down → (old new : State U D) (all : List LinkIndication)
    → Boards up down old new all → AreCarried P (seen up down old.world) → CarriedOn P up down old.world new.world all
boards_on P up down losing_up losing_down old new all boards carried =
    let on = happened_on P up down losing_up losing_down (event.Uplink (has_buffer old.board)) boards.ready boards.carried all tt boards.frame (before_payloads P up down losing_up losing_down old.world boards.ready boards.readied carried) in
    let put = puts_on P up down losing_up losing_down (reports_after (taken_in all)) boards.carried new.world boards.reports on.payloads in
    record {
      payloads = put.0;
      told = subst (λ (sent : List ℕ). AllByRecursion (IsToldOf P sent) all) (sym put.1) on.told;
      more = on.more;
      sent = put.1 ∙ on.sent ∙ ap (λ (sent : List ℕ). sent ++ on.more) (before_sent up down old.world boards.ready boards.readied);
    }

-- nothing was told, and nothing was sent
quiet_on : {U D : Type 0} (P : ℕ → Payload → Type 0) (up : Kind U Frame) (down : Kind D Report) (w v : Whole U D) (all : List LinkIndication) → all ≡ [] → AreCarried P (seen up down v) → all_sent v ≡ all_sent w → CarriedOn P up down w v all
quiet_on P up down w v all none carried sent = record {
  payloads = carried;
  told = subst (AllByRecursion (IsToldOf P (all_sent v))) (sym none) tt;
  more = [];
  sent = sent ∙ sym (append-nil (all_sent w));
}

-- an act on the link
flies_on : {U D : Type 0} (P : ℕ → Payload → Type 0) (up : Kind U Frame) (down : Kind D Report) → OnlyLoses up → OnlyLoses down → (given : LinkAct) (old new : State U D) (all : List LinkIndication)
    → ((n : ℕ) (r : Request) → request_at old.book n ≡ Some r → P n (payload_of old.book r.body))
    → Flies up down given old new all → AreCarried P (seen up down old.world) → CarriedOn P up down old.world new.world all
flies_on P up down losing_up losing_down (link_act.Release n) old new all own flies carried = offer_on P up down losing_up losing_down n old new.world all (request_at old.book n) (own n) flies.0 carried
flies_on P up down losing_up losing_down (link_act.Direct given) old new all own flies carried = happened_on P up down losing_up losing_down (event.Directive given) old.world new.world all tt flies.0 carried
flies_on P up down losing_up losing_down link_act.Tick old new all own flies carried = happened_on P up down losing_up losing_down event.Tick old.world new.world all tt flies.0 carried
flies_on P up down losing_up losing_down link_act.Up old new all own flies carried = boards_on P up down losing_up losing_down old new all flies carried
flies_on P up down losing_up losing_down (link_act.LoseUp place) old new all own flies carried = happened_on P up down losing_up losing_down (event.LoseUp place) old.world new.world all tt flies.0 carried
flies_on P up down losing_up losing_down (link_act.LoseDown place) old new all own flies carried = happened_on P up down losing_up losing_down (event.LoseDown place) old.world new.world all tt flies.0 carried
flies_on P up down losing_up losing_down link_act.Clcw old new all own flies carried = happened_on P up down losing_up losing_down event.Clcw old.world new.world all tt flies.0 carried
flies_on P up down losing_up losing_down link_act.Down old new all own flies carried = happened_on P up down losing_up losing_down event.Downlink old.world new.world all tt flies.0 carried
flies_on P up down losing_up losing_down link_act.Work old new all own flies carried =
    let told = reports_on P up down losing_up losing_down _ old.world flies.reported flies.reports carried in
    let freed = happened_on P up down losing_up losing_down event.Release flies.reported new.world [] tt flies.free told.0 in
    quiet_on P up down old.world new.world all flies.silent freed.payloads (flies.free.tells.sent ∙ append-nil (all_sent flies.reported) ∙ told.1)
flies_on P up down losing_up losing_down (link_act.Clock time) old new all own flies carried =
    let told = reports_on P up down losing_up losing_down flies.items old.world new.world flies.reports carried in
    quiet_on P up down old.world new.world all flies.silent told.0 told.1

-- a release that comes with a record, if one does
beside_on : {U D : Type 0} (P : ℕ → Payload → Type 0) (up : Kind U Frame) (down : Kind D Report) → OnlyLoses up → OnlyLoses down → (beside : Option ℕ) (old new : State U D) (all : List LinkIndication)
    → ((n : ℕ) (r : Request) → request_at old.book n ≡ Some r → P n (payload_of old.book r.body))
    → FliesBeside up down beside old new all → AreCarried P (seen up down old.world) → CarriedOn P up down old.world new.world all
beside_on P up down losing_up losing_down None old new all own stands carried = same_on P up down old.world new.world all stands.0 stands.3 carried
beside_on P up down losing_up losing_down (Some n) old new all own flies carried = flies_on P up down losing_up losing_down (link_act.Release n) old new all own flies carried

-- each act, where P holds of what the book says of each request
pub goes_on_carried : {U D : Type 0} (P : ℕ → Payload → Type 0) (up : Kind U Frame) (down : Kind D Report) → OnlyLoses up → OnlyLoses down → (given : Act) (old new : State U D) (all : List LinkIndication)
    → ((n : ℕ) (r : Request) → request_at old.book n ≡ Some r → P n (payload_of old.book r.body))
    → Goes up down given old new all → AreCarried P (seen up down old.world) → CarriedOn P up down old.world new.world all
goes_on_carried P up down losing_up losing_down (act.Book given) old new all own goes carried = same_on P up down old.world new.world all goes.0 goes.3 carried
goes_on_carried P up down losing_up losing_down (act.Link given) old new all own goes carried = flies_on P up down losing_up losing_down given old new all own goes carried
goes_on_carried P up down losing_up losing_down (act.Step given) old new all own goes carried = beside_on P up down losing_up losing_down (released_with old.book given) old new all own goes carried
goes_on_carried {U} {D} P up down losing_up losing_down (act.Ask asked) old new all own goes carried = same_on P up down old.world new.world all (ap (λ (at : State U D). at.world) goes.0) goes.1 carried
