-- What the world's calls take from what stands between events.
use Rattle.std.proofs.Common.{◌≡◌, true, List, [], ◌∷◌, ◌++◌, refl, sym, ◌∙◌, ap, subst}
use Rattle.std.specs.Prelude.{Result, Ok, Err, IfOk, IfErr}
use Rattle.tc_types.specs.declared.link.frames.Frame.{Frame}
use Rattle.tc_types.specs.declared.link.reports.Report.{Report}
use Rattle.tc_types.specs.declared.refusals.Refusal.{Refusal}
use Rattle.tc_farm.specs.Farm.{IsFarm}
use Rattle.tc_fop.specs.Standing.{IsFop}
use Rattle.tc_fop.specs.Requests.{waiting_requests}
use Rattle.tc_world.specs.declared.events.Event.{Event}
use Rattle.tc_world.specs.declared.events.LinkIndication.{LinkIndication}
use Rattle.tc_world.specs.Links.{Kind, lossy}
use Rattle.tc_world.specs.Abstraction.{Bare, seen}
use Rattle.tc_world.specs.Window.{Distinct, ArePrefixed, IsClaimed, Follows, FollowsThrough}
use Rattle.tc_world.specs.Kept.{IsKept}
use Rattle.std.specs.List.{list_all}
use Rattle.tc_world.specs.Fitting.{IsFit, IsNarrow}
use Rattle.tc_world.specs.Fair.{IsFairOn, is_fair}
use Rattle.tc_world.specs.World.{Whole, Happens, IsAsBefore, IsRefused, all_sent}
use Rattle.tc_world.proofs.Bridge.{OnlyLoses, readied_content, happens_seen}
use Rattle.tc_world.proofs.Requests.{distinct_front, prefixed_push, accepted_distinct}
use Rattle.tc_world.proofs.Assembly.{newest_prefixed}

-- what was reserved shows in nothing that flies
pub as_before_seen : {U D : Type 0} (uplink : Kind U Frame) (downlink : Kind D Report) → OnlyLoses uplink → OnlyLoses downlink
    → (old new : Whole U D) → IsAsBefore uplink downlink old new → seen uplink downlink new ≡ seen uplink downlink old
as_before_seen uplink downlink ul dl old new h =
    ap (λ w. seen uplink downlink w) h.rest
    ∙ ap (λ up. record (seen uplink downlink old) { up = up; down = downlink.content new.down }) (readied_content uplink ul old.up new.up h.up)
    ∙ ap (λ down. record (seen uplink downlink old) { down = down }) (readied_content downlink dl old.down new.down h.down)

-- the claims
pub claims : (w : Bare) → IsKept w → w.clean ≡ true → IsClaimed w
claims w kept clean =
    let prefixes : ArePrefixed (w.past ++ w.newest ∷ []) =
    prefixed_push w.past w.newest (kept.past clean) (newest_prefixed w (kept.sane clean)) in
    let sent : Distinct (all_sent w) = distinct_front (all_sent w) (waiting_requests w.fop) kept.distinct in
    record {
      prefixes = prefixes;
      sent_once = sent;
      accepted_once = accepted_distinct (w.past ++ w.newest ∷ []) prefixes sent;
    }

-- one world more
pub follows_push : (old mid : Bare) (worlds : List Bare) (new : Bare) → FollowsThrough old worlds mid → Follows mid new
    → FollowsThrough old (worlds ++ new ∷ []) new
follows_push old mid [] new h k = (subst (λ w. Follows w new) h k, refl)
follows_push old mid (next ∷ others) new (first, rest) k = (first, follows_push next mid others new rest k)

-- what stands between events stands after the call
pub stays : {U D X : Type 0} (uplink : Kind U Frame) (downlink : Kind D Report) → OnlyLoses uplink → OnlyLoses downlink
    → ((given : Event) (w v : Bare) (answer : List LinkIndication) → IsKept w → IsFop v.fop → IsFarm v.farm → Happens lossy lossy given w v answer → IsKept v)
    → (given : Event) (old new : Whole U D) (items : X → List LinkIndication) (result : Result X Refusal)
    → IfOk result (λ (answer : X). Happens uplink downlink given old new (items answer))
    → IfErr result (λ (refusal : Refusal). IsRefused given old refusal × IsAsBefore uplink downlink old new)
    → IsFop new.fop → IsFarm new.farm → IsKept (seen uplink downlink old) → IsKept (seen uplink downlink new)
stays uplink downlink ul dl law given old new items (Ok answer) happens refused fop farm kept =
    law given (seen uplink downlink old) (seen uplink downlink new) (items answer) kept fop farm
    (happens_seen uplink downlink ul dl given old new (items answer) happens)
stays uplink downlink ul dl law given old new items (Err refusal) happens refused fop farm kept =
    subst (λ w. IsKept w) (sym (as_before_seen uplink downlink ul dl old new refused.1)) kept

-- where the windows fitted they fit after the call
pub stays_fit : {U D : Type 0} (uplink : Kind U Frame) (downlink : Kind D Report) → OnlyLoses uplink → OnlyLoses downlink
    → ((given : Event) (w v : Bare) (answer : List LinkIndication) → IsKept w → IsFit w → IsFop v.fop → IsFarm v.farm → Happens lossy lossy given w v answer → IsFit v)
    → (given : Event) (old new : Whole U D) (result : Result (List LinkIndication) Refusal)
    → IfOk result (λ (answer : List LinkIndication). Happens uplink downlink given old new answer)
    → IfErr result (λ (refusal : Refusal). IsRefused given old refusal × IsAsBefore uplink downlink old new)
    → IsFop new.fop → IsFarm new.farm → IsKept (seen uplink downlink old) → IsFit (seen uplink downlink old) → IsFit (seen uplink downlink new)
stays_fit uplink downlink ul dl law given old new (Ok answer) happens refused fop farm kept fit =
    law given (seen uplink downlink old) (seen uplink downlink new) answer kept fit fop farm
    (happens_seen uplink downlink ul dl given old new answer happens)
stays_fit uplink downlink ul dl law given old new (Err refusal) happens refused fop farm kept fit =
    subst (λ w. IsFit w) (sym (as_before_seen uplink downlink ul dl old new refused.1)) fit

-- and K fits
pub stays_narrow : {U D : Type 0} (uplink : Kind U Frame) (downlink : Kind D Report) → OnlyLoses uplink → OnlyLoses downlink
    → ((given : Event) (w v : Bare) (answer : List LinkIndication) → IsNarrow w → Happens lossy lossy given w v answer → IsNarrow v)
    → (given : Event) (old new : Whole U D) (result : Result (List LinkIndication) Refusal)
    → IfOk result (λ (answer : List LinkIndication). Happens uplink downlink given old new answer)
    → IfErr result (λ (refusal : Refusal). IsRefused given old refusal × IsAsBefore uplink downlink old new)
    → IsNarrow (seen uplink downlink old) → IsNarrow (seen uplink downlink new)
stays_narrow uplink downlink ul dl law given old new (Ok answer) happens refused narrow =
    law given (seen uplink downlink old) (seen uplink downlink new) answer narrow (happens_seen uplink downlink ul dl given old new answer happens)
stays_narrow uplink downlink ul dl law given old new (Err refusal) happens refused narrow =
    subst (λ w. IsNarrow w) (sym (as_before_seen uplink downlink ul dl old new refused.1)) narrow

-- and no other alerts come
pub stays_fair : {U D : Type 0} (uplink : Kind U Frame) (downlink : Kind D Report) → OnlyLoses uplink → OnlyLoses downlink
    → ((given : Event) (w v : Bare) (answer : List LinkIndication) → IsKept w → IsFit w → IsFairOn w → IsFop v.fop → IsFarm v.farm → Happens lossy lossy given w v answer → IsFairOn v)
    → (given : Event) (old new : Whole U D) (result : Result (List LinkIndication) Refusal)
    → IfOk result (λ (answer : List LinkIndication). Happens uplink downlink given old new answer)
    → IfErr result (λ (refusal : Refusal). IsRefused given old refusal × IsAsBefore uplink downlink old new)
    → IsFop new.fop → IsFarm new.farm → IsKept (seen uplink downlink old) → IsFit (seen uplink downlink old) → IsFairOn (seen uplink downlink old)
    → IsFairOn (seen uplink downlink new)
stays_fair uplink downlink ul dl law given old new (Ok answer) happens refused fop farm kept fit fair =
    law given (seen uplink downlink old) (seen uplink downlink new) answer kept fit fair fop farm
    (happens_seen uplink downlink ul dl given old new answer happens)
stays_fair uplink downlink ul dl law given old new (Err refusal) happens refused fop farm kept fit fair =
    subst (λ w. IsFairOn w) (sym (as_before_seen uplink downlink ul dl old new refused.1)) fair

pub tells_fairly : {U D : Type 0} (uplink : Kind U Frame) (downlink : Kind D Report) → OnlyLoses uplink → OnlyLoses downlink
    → ((given : Event) (w v : Bare) (answer : List LinkIndication) → IsKept w → IsFit w → IsFairOn w → IsFop v.fop → IsFarm v.farm → Happens lossy lossy given w v answer
    → v.clean ≡ true → v.fits ≡ true → list_all (is_fair w.level w.fop.state) answer ≡ true)
    → (given : Event) (old new : Whole U D) (result : Result (List LinkIndication) Refusal)
    → IfOk result (λ (answer : List LinkIndication). Happens uplink downlink given old new answer)
    → IsFop new.fop → IsFarm new.farm → IsKept (seen uplink downlink old) → IsFit (seen uplink downlink old) → IsFairOn (seen uplink downlink old)
    → IfOk result (λ (answer : List LinkIndication). new.clean ≡ true → new.fits ≡ true → list_all (is_fair old.level old.fop.state) answer ≡ true)
tells_fairly uplink downlink ul dl law given old new (Ok answer) happens fop farm kept fit fair = λ clean fits.
    law given (seen uplink downlink old) (seen uplink downlink new) answer kept fit fair fop farm
    (happens_seen uplink downlink ul dl given old new answer happens) clean fits
tells_fairly uplink downlink ul dl law given old new (Err refusal) happens fop farm kept fit fair = tt

-- a call that is not refused is a run of the session that is on, or another begins
pub follows : {U D X : Type 0} (uplink : Kind U Frame) (downlink : Kind D Report) → OnlyLoses uplink → OnlyLoses downlink
    → ((given : Event) (w v : Bare) (answer : List LinkIndication) → IsKept w → IsFop v.fop → IsFarm v.farm → Happens lossy lossy given w v answer
    → v.clean ≡ true → Follows w v)
    → (given : Event) (old new : Whole U D) (items : X → List LinkIndication) (result : Result X Refusal)
    → IfOk result (λ (answer : X). Happens uplink downlink given old new (items answer))
    → IsFop new.fop → IsFarm new.farm → IsKept (seen uplink downlink old)
    → IfOk result (λ (answer : X). new.clean ≡ true → Follows (seen uplink downlink old) (seen uplink downlink new))
follows uplink downlink ul dl law given old new items (Ok answer) happens fop farm kept = λ clean.
    law given (seen uplink downlink old) (seen uplink downlink new) (items answer) kept fop farm
    (happens_seen uplink downlink ul dl given old new (items answer) happens) clean
follows uplink downlink ul dl law given old new items (Err refusal) happens fop farm kept = tt

-- the claims speak of the sessions alone
pub claimed : {U D : Type 0} (uplink : Kind U Frame) (downlink : Kind D Report) (w : Whole U D) → IsClaimed (seen uplink downlink w) → IsClaimed w
claimed uplink downlink w h = record { prefixes = h.prefixes; sent_once = h.sent_once; accepted_once = h.accepted_once }

-- what holds of each answer that has P
pub if_ok : {X E : Type 0} (P Q : X → Type 0) (result : Result X E) → ((answer : X) → P answer → Q answer) → IfOk result P → IfOk result Q
if_ok P Q (Ok answer) law h = law answer h
if_ok P Q (Err refusal) law h = tt
