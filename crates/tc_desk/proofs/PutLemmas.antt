-- Reports are put on the downlink, and a buffer is told to be free.
use Rattle.std.proofs.Common.{◌≡◌, ℕ, ◌+◌, ◌<◌, true, false, Ok, Err, Result, IsOk, IfOk, List, [], ◌∷◌, ◌++◌, length, take, get_or, refl, sym, ◌∙◌, subst}
use Rattle.std.proofs.lemmas.List.{take_more}
use Rattle.tc_types.specs.declared.link.frames.Frame.{Frame}
use Rattle.tc_types.specs.declared.refusals.Refusal.{Refusal}
use Rattle.tc_types.specs.declared.link.reports.Report.{Report}
use Rattle.tc_types.specs.declared.link.reports.Telemetry.{Telemetry}
use Rattle.tc_farm.specs.Farm.{is_locked_out}
use Rattle.tc_world.specs.declared.events.Event.TheVariants as event
use Rattle.tc_world.specs.declared.events.LinkIndication.{LinkIndication}
use Rattle.tc_world.specs.Links.{Kind}
use Rattle.tc_world.specs.Abstraction.{seen}
use Rattle.tc_world.specs.Telling.{TellsRequests}
use Rattle.tc_world.specs.Window.{Follows}
use Rattle.tc_world.specs.World.{Whole, Happens}
use Rattle.tc_world.proofs.Stills.{fits_is}
use Rattle.tc_desk.specs.Machine.{Happened, PutsDown}

-- where every start was good and K fitted, the FARM is not in Lockout
abbrev IsOpenWhere : {U D : Type 0} → Whole U D → Type 0
IsOpenWhere w = w.clean ≡ true → w.fits ≡ true → is_locked_out w.farm.state ≡ false

-- where every start was good, an event is a run of the session that is on, or another begins
abbrev IsFollowedBy : {U D : Type 0} → Kind U Frame → Kind D Report → Whole U D → Whole U D → Type 0
IsFollowedBy up down old new = new.clean ≡ true → Follows (seen up down old) (seen up down new)

-- of a put that was not refused nothing is told
pub put_down : {U D : Type 0} (up : Kind U Frame) (down : Kind D Report) (item : Telemetry) (old new : Whole U D) (all : List LinkIndication)
    → Happens up down (event.Put item) old new all → TellsRequests (event.Put item) old new all → IsFollowedBy up down old new → IsOpenWhere new → PutsDown up down (item ∷ []) old new
put_down up down item old new all happens tells follows open_farm =
    let none : all ≡ [] = happens.answered in (
      new,
      record {
        happens = subst (Happens up down (event.Put item) old new) none happens;
        tells = subst (TellsRequests (event.Put item) old new) none tells;
        follows = follows;
        keeps_fitting = λ fits sets. fits_is up down (event.Put item) old new all happens ∙ fits;
        open_farm = open_farm;
        fair = λ clean fits. refl;
      },
      refl,
    )

-- the same of an answer, which is there
pub put_answered : {X U D : Type 0} (up : Kind U Frame) (down : Kind D Report) (item : Telemetry) (old new : Whole U D) (items : X → List LinkIndication) (result : Result X Refusal)
    → IsOk result → IfOk result (λ (answer : X). Happens up down (event.Put item) old new (items answer)) → IfOk result (λ (answer : X). TellsRequests (event.Put item) old new (items answer))
    → IfOk result (λ (answer : X). IsFollowedBy up down old new) → IsOpenWhere new → PutsDown up down (item ∷ []) old new
put_answered up down item old new items (Ok answer) there happens tells follows open_farm = put_down up down item old new (items answer) happens tells follows open_farm
put_answered up down item old new items (Err refused) there happens tells follows open_farm = cc

-- one more behind the others
puts_push : {U D : Type 0} (up : Kind U Frame) (down : Kind D Report) (old mid new : Whole U D) (items : List Telemetry) (item : Telemetry)
    → PutsDown up down items old mid → PutsDown up down (item ∷ []) mid new → PutsDown up down (items ++ item ∷ []) old new
puts_push up down old mid new [] item all put = subst (λ w. PutsDown up down (item ∷ []) w new) all put
puts_push up down old mid new (first ∷ items) item all put = (all.0, all.1, puts_push up down all.0 mid new items item all.2 put)

-- one more turn of a loop over the reports
pub puts_more : {U D : Type 0} (up : Kind U Frame) (down : Kind D Report) (old mid new : Whole U D) (items : List Telemetry) (k : ℕ) (d : Telemetry)
    → k < length items → PutsDown up down (take k items) old mid → PutsDown up down (get_or items k d ∷ []) mid new → PutsDown up down (take (k + 1) items) old new
puts_more up down old mid new items k d within all put =
    subst (λ xs. PutsDown up down xs old new) (sym (take_more items k d within)) (puts_push up down old mid new (take k items) (get_or items k d) all put)

-- of a release that was not refused nothing is told
pub free_answered : {X U D : Type 0} (up : Kind U Frame) (down : Kind D Report) (old new : Whole U D) (items : X → List LinkIndication) (result : Result X Refusal)
    → IsOk result → IfOk result (λ (answer : X). Happens up down event.Release old new (items answer)) → IfOk result (λ (answer : X). TellsRequests event.Release old new (items answer))
    → IfOk result (λ (answer : X). IsFollowedBy up down old new) → IsOpenWhere new → Happened up down event.Release old new []
free_answered up down old new items (Ok answer) there happens tells follows open_farm =
    let none : items answer ≡ [] = happens.1 in
    record {
      happens = subst (Happens up down event.Release old new) none happens;
      tells = subst (TellsRequests event.Release old new) none tells;
      follows = follows;
      keeps_fitting = λ fits sets. fits_is up down event.Release old new (items answer) happens ∙ fits;
      open_farm = open_farm;
      fair = λ clean fits. refl;
    }
free_answered up down old new items (Err refused) there happens tells follows open_farm = cc
