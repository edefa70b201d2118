-- What the actions of each call of the FOP bring into it.
use Rattle.std.proofs.Common.{◌≡◌, ℕ, ◌==◌, Bool, true, false, if◌then◌else◌, Option, Some, None, Ok, Err, List, [], ◌∷◌}
use Rattle.std.specs.List.{list_all, AllByRecursion}
use Rattle.std.proofs.lemmas.Bool.{false≢true}
use Rattle.tc_types.specs.declared.link.telecommands.Payload.{Payload}
use Rattle.tc_types.specs.declared.link.frames.Frame.TheVariants as frame
use Rattle.tc_types.specs.declared.link.directives.Directive.{Directive}
use Rattle.tc_types.specs.declared.link.directives.Directive.TheVariants as directive
use Rattle.tc_farm.specs.declared.clcws.Clcw.{Clcw}
use Rattle.tc_fop.specs.declared.signals.FopState.TheVariants.{Active, InitialisingWithoutBc, InitialisingWithBc}
use Rattle.tc_fop.specs.declared.signals.AlertKind.TheVariants as alert
use Rattle.tc_fop.specs.Machine.{Machine, Waiting, Action, Alert, Wait, Initiate, StartTimer, SendControl, Begin, To, SetVsAlone, SetVsAndNn, SetKTo, SetT1To, SetLimitTo}
use Rattle.tc_fop.specs.Rows.{row_of}
use Rattle.tc_fop.specs.Cells.{cell, timer_ended, timer_ended_at_limit}
use Rattle.tc_fop.specs.Calls.{Given, is_taking, is_initial, look_in, offered, directed, reported, ticked}
use Rattle.tc_fop.proofs.RequestLemmas.{is_inner, both}
use Rattle.tc_fop.proofs.TableLemmas.{cell_inner, timer_inner, limit_inner, look_inner, of_tick, of_offer, of_initial, of_setting}
use Rattle.tc_world.proofs.PayloadQueues.{Brings}

-- what is given brings no other payload in
abbrev pub BringsGiven : (P : ℕ → Payload → Type 0) → Given → Type 0
BringsGiven P (Ok actions) = AllByRecursion (Brings P) actions
BringsGiven P (Err refusal) = Unit {0}

-- an action that is neither an offer nor an initiation brings nothing in
inner_brings : (P : ℕ → Payload → Type 0) (a : Action) → is_inner a ≡ true → Brings P a
inner_brings P (Wait w) h = absurd (false≢true h)
inner_brings P (Initiate frame) h = absurd (false≢true h)
inner_brings P a h = tt

-- nor does a list of them
all_inner : (P : ℕ → Payload → Type 0) (todo : List Action) → list_all is_inner todo ≡ true → AllByRecursion (Brings P) todo
all_inner P [] h = tt
all_inner P (a ∷ todo) h =
    let parts = both (is_inner a) (list_all is_inner todo) h in
    (inner_brings P a parts.0, all_inner P todo parts.1)

-- a control word
pub words_bring : (P : ℕ → Payload → Type 0) (m : Machine) (word : Option Clcw) → BringsGiven P (reported m word)
words_bring P m word = all_inner P (cell (row_of m word) m.state) (cell_inner (row_of m word) m.state)

-- a tick
pub ticks_bring : (P : ℕ → Payload → Type 0) (m : Machine) → BringsGiven P (ticked m)
ticks_bring P m =
    of_tick (BringsGiven P) m tt (tt, tt)
    (tt, all_inner P (timer_ended m.state) (timer_inner m.state))
    (tt, all_inner P (timer_ended_at_limit m.state) (limit_inner m.state))

-- an offer brings the payload that is offered
pub offers_bring : (P : ℕ → Payload → Type 0) (m : Machine) (w : Waiting) → P w.request w.body → BringsGiven P (offered m w)
offers_bring P m w own =
    of_offer (BringsGiven P) (is_taking m.state) m.waiting (Wait w ∷ look_in m.state) tt tt
    (λ none. (own, all_inner P (look_in m.state) (look_inner m.state)))

-- the end of the service brings nothing in
ends_bring : (P : ℕ → Payload → Type 0) (initial : Bool) → BringsGiven P (Ok (if initial then [] else Alert alert.Term ∷ []))
ends_bring P true = tt
ends_bring P false = (tt, tt)

-- a directive: its BC frame carries no request
pub directives_bring : (P : ℕ → Payload → Type 0) (m : Machine) (given : Directive) → BringsGiven P (directed m given)
directives_bring P m directive.InitiateNone =
    of_initial (BringsGiven P) (is_initial m.state) (Initiate None ∷ To Active ∷ Begin ∷ []) tt (λ is. (tt, (tt, (tt, tt))))
directives_bring P m directive.InitiateCheck =
    of_initial (BringsGiven P) (is_initial m.state) (Initiate None ∷ StartTimer ∷ To InitialisingWithoutBc ∷ []) tt (λ is. (tt, (tt, (tt, tt))))
directives_bring P m directive.InitiateUnlock =
    of_initial (BringsGiven P) (is_initial m.state) (Initiate (Some frame.Unlock) ∷ SendControl ∷ StartTimer ∷ To InitialisingWithBc ∷ []) tt
    (λ is. ((tt, tt), (tt, (tt, (tt, tt)))))
directives_bring P m (directive.InitiateSetVr v) =
    of_initial (BringsGiven P) (is_initial m.state) (SetVsAlone v ∷ Initiate (Some (frame.SetVr v)) ∷ SendControl ∷ StartTimer ∷ To InitialisingWithBc ∷ []) tt
    (λ is. (tt, ((tt, tt), (tt, (tt, (tt, tt))))))
directives_bring P m directive.Terminate = ends_bring P (is_initial m.state)
directives_bring P m (directive.SetVs v) = of_initial (BringsGiven P) (is_initial m.state) (SetVsAndNn v ∷ []) tt (λ is. (tt, tt))
directives_bring P m (directive.SetK k) = of_setting (BringsGiven P) (k == 0) (SetKTo k ∷ []) tt (tt, tt)
directives_bring P m (directive.SetT1 t1) = of_setting (BringsGiven P) (t1 == 0) (SetT1To t1 ∷ []) tt (tt, tt)
directives_bring P m (directive.SetLimit limit) = of_setting (BringsGiven P) (limit == 0) (SetLimitTo limit ∷ []) tt (tt, tt)
