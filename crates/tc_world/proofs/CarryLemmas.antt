-- A call of the FOP, carried out on the link.
use Rattle.std.proofs.Common.{◌≡◌, ◌<◌, ◌⊎◌, ◌↔◌, inl, inr, ℕ, Bool, true, false, MatchBool, if◌then◌else◌, append-nil, Option, Some, None, IsSome, IfSome, Ok, Err, List, [], ◌∷◌, ◌++◌, refl, sym, ◌∙◌, ap, subst}
use Rattle.tc_types.specs.declared.link.frames.Frame.{Frame}
use Rattle.tc_types.specs.declared.refusals.Refusal.{Refusal}
use Rattle.tc_types.specs.declared.refusals.Refusal.TheVariants.{Memory}
use Rattle.tc_types.specs.declared.link.reports.Report.{Report}
use Rattle.tc_types.specs.declared.link.reports.Report.TheVariants as report
use Rattle.tc_farm.specs.declared.clcws.Clcw.{Clcw}
use Rattle.tc_farm.specs.ControlWord.{IsValid, word_of, without_ignored}
use Rattle.tc_types.specs.declared.link.directives.Directive.{Directive}
use Rattle.tc_fop.specs.Moves.{is_initiation}
use Rattle.tc_fop.specs.Machine.{Machine, Action, Out, after, output, nothing}
use Rattle.tc_fop.specs.Calls.{Given, Answers, directed, reported, ticked}
use Rattle.tc_world.specs.declared.events.Event.TheVariants as event
use Rattle.tc_world.specs.declared.events.LinkIndication.{LinkIndication}
use Rattle.tc_world.specs.declared.fop_side.FopSide.{FopSide}
use Rattle.tc_world.specs.Links.{Kind, PutsAll, IsReadied}
use Rattle.tc_world.specs.Logs.{Log, noted, blank}
use Rattle.tc_world.specs.Sides.{Passes}
use Rattle.tc_world.specs.World.{Whole, Happens, Hears, Carries, Begins, Directs, IsAsBefore, Reads, refusal_in, clean_after, level_after, is_fitting, is_still_fitting, told_by_fop}

-- what was answered was given: the actions were carried out
pub answered : (given : Given) (old new : Machine) (out : Out) → Answers given old new (Ok out) → (actions : List Action) × (given ≡ Ok actions) × (new ≡ after actions old) × (out ≡ output actions old)
answered (Ok actions) old new out h = (actions, refl, h.0, h.1)
answered (Err refusal) old new out h = absurd h

-- the output was put on the link and written down
pub carried : {U D : Type 0} (uplink : Kind U Frame) (old : Whole U D) (given : Given) (fop : Machine) (out : Out) (ready up : U) (newest : Log) (answer : List LinkIndication)
    → Answers given old.fop fop (Ok out) → IsReadied uplink old.up ready → PutsAll uplink ready out.frames up → newest ≡ noted out old.newest → answer ≡ told_by_fop out
    → (actions : List Action) × (given ≡ Ok actions) × Carries uplink actions old (record old { fop = fop; up = up; newest = newest }) answer
carried uplink old given fop out ready up newest answer h readied puts log told =
    let a = answered given old.fop fop out h in (
      a.0,
      a.1,
      record {
        ready = ready;
        readied = readied;
        frames = subst (λ (o : Out). PutsAll uplink ready o.frames up) a.3 puts;
        whole = λ i. record old { fop = a.2 i; up = up; newest = (log ∙ ap (λ (o : Out). noted o old.newest) a.3) i };
        answered = told ∙ ap (λ (o : Out). told_by_fop o) a.3;
      },
    )

-- what was refused: what was given, or memory where it was not refused; the machine stays
pub refused_by : (given : Given) (old new : Machine) (refusal : Refusal) → Answers given old new (Err refusal) → ((refusal_in given ≡ Some refusal) ⊎ ((refusal_in given ≡ None) × (refusal ≡ Memory))) × (new ≡ old)
refused_by (Ok actions) old new refusal h = (inr (refl, h.0), h.1)
refused_by (Err other) old new refusal h = (inl (ap Some (sym h.0)), h.1)

-- where only room was made it is as before
pub as_before : {U D : Type 0} (uplink : Kind U Frame) (downlink : Kind D Report) (old : Whole U D) (fop : Machine) (ready : U) (newest : Log) → fop ≡ old.fop → IsReadied uplink old.up ready → newest ≡ old.newest → IsAsBefore uplink downlink old (record old { fop = fop; up = ready; newest = newest })
as_before uplink downlink old fop ready newest same readied log = record {
  up = readied;
  down = refl;
  rest = λ i. record old { fop = same i; up = ready; newest = log i };
}

-- a directive that is no initiation goes on in the newest session
pub directs_on : {U D : Type 0} (uplink : Kind U Frame) (downlink : Kind D Report) (given : Directive) (actions : List Action) (old new : Whole U D) (answer : List LinkIndication) → is_initiation given ≡ false → Carries uplink actions old new answer → Directs uplink downlink given actions old new answer
directs_on uplink downlink given actions old new answer other h =
    subst (λ (b : Bool). MatchBool b (Begins uplink downlink given actions old new answer) (Carries uplink actions old new answer)) (sym other) h

-- an initiation was put on the link, and a session begins with it
pub begun : {U D : Type 0} (uplink : Kind U Frame) (downlink : Kind D Report) (given : Directive) (old : Whole U D) (fop : Machine) (out : Out) (ready up : U) (past : List Log) (newest : Log) (clean : Bool) (answer : List LinkIndication)
    → Answers (directed old.fop given) old.fop fop (Ok out) → IsReadied uplink old.up ready → PutsAll uplink ready out.frames up → past ≡ old.past ++ old.newest ∷ [] → newest ≡ noted out (blank fop.vs) → clean ≡ clean_after uplink downlink given old → answer ≡ told_by_fop out
    → (actions : List Action) × (directed old.fop given ≡ Ok actions) × Begins uplink downlink given actions old (record old { fop = fop; up = up; past = past; newest = newest; clean = clean }) answer
begun uplink downlink given old fop out ready up past newest clean answer h readied puts earlier log good told =
    let a = answered (directed old.fop given) old.fop fop out h in
    let written = log ∙ ap (λ (o : Out). noted o (blank fop.vs)) a.3 ∙ ap (λ (m : Machine). noted (output a.0 old.fop) (blank m.vs)) a.2 in (
      a.0,
      a.1,
      record {
        ready = ready;
        readied = readied;
        frames = subst (λ (o : Out). PutsAll uplink ready o.frames up) a.3 puts;
        whole = λ i. record old { fop = a.2 i; up = up; past = earlier i; newest = written i; clean = good i };
        answered = told ∙ ap (λ (o : Out). told_by_fop o) a.3;
      },
    )

-- what is read from a word, on the channel of the world
pub reads_from : (word vc : ℕ) (heard : Option Clcw) → (IsSome heard ↔ IsValid word vc) → IfSome heard (λ (c : Clcw). word_of c ≡ without_ignored word) → IfSome heard (λ (c : Clcw). c.vc ≡ vc) → ((c : Clcw) → c.report < 256 → word ≡ word_of c → vc ≡ c.vc → heard ≡ Some c) → Reads word vc heard
reads_from word vc heard valid back channel again = record { valid = valid; back = back; channel = channel; again = again }

-- the word was passed to the FOP, on the link as it was before room was made: it was heard
pub hears : {U D A : Type 0} (uplink : Kind U Frame) (vc word : ℕ) (old new : FopSide U A) (before : Whole U D) (answer : List LinkIndication)
    → before.fop ≡ old.fop.machine → IsReadied uplink before.up old.up → before.newest ≡ old.newest.log → before.vc ≡ vc
    → Passes uplink vc word old new answer
    → Hears uplink (report.Word word) before (record before { fop = new.fop.machine; up = new.up; newest = new.newest.log }) answer
hears uplink vc word old new before answer same readied log channel h =
    let answers = subst (λ (m : Machine). Answers (reported m h.heard) m new.fop.machine (Ok h.out)) (sym same) h.answers in
    let written = h.log ∙ ap (λ (l : Log). noted h.out l) (sym log) in
    let done = carried uplink before _ _ _ _ _ _ _ answers readied h.frames written refl in
    let reads = subst (λ (c : ℕ). Reads word c h.heard) (sym channel) h.reads in
    (h.heard, done.0, _, reads, done.1, done.2, h.answered)

-- where nothing was put out nothing is written down
started_stays : (before : Bool) → before ≡ (if before then true else false)
started_stays true = refl
started_stays false = refl

nothing_noted : (log : Log) → log ≡ noted nothing log
nothing_noted log = λ i. record log {
  started = started_stays log.started i;
  sent = sym (append-nil log.sent) i;
  confirmed = sym (append-nil log.confirmed) i;
}

-- the call put nothing out: the machine alone is another
pub carried_silently : {U D : Type 0} (uplink : Kind U Frame) (old : Whole U D) (given : Given) (fop : Machine) (answer : List LinkIndication)
    → Answers given old.fop fop (Ok nothing) → answer ≡ []
    → (actions : List Action) × (given ≡ Ok actions) × Carries uplink actions old (record old { fop = fop }) answer
carried_silently uplink old given fop answer h silent =
    carried uplink old given fop nothing old.up old.up old.newest answer h refl refl (nothing_noted old.newest) silent

-- where no timer runs a tick changes nothing
ticked_none : (m : Machine) → m.timer ≡ 0 → ticked m ≡ Ok []
ticked_none m none = ap (λ (n : ℕ). ticked (record m { timer = n })) none

pub ticks_idly : {U D : Type 0} (uplink : Kind U Frame) (downlink : Kind D Report) (w : Whole U D) (answer : List LinkIndication) → w.fop.timer ≡ 0 → answer ≡ []
    → Happens uplink downlink event.Tick w w answer
ticks_idly uplink downlink w answer none answered = (
  [],
  ticked_none w.fop none,
  record {
    ready = w.up;
    readied = refl;
    frames = refl;
    whole = λ i. record w { newest = nothing_noted w.newest i };
    answered = answered;
  },
)

-- what was carried out says nothing of widths and starts
unjudged_by : {U D : Type 0} (uplink : Kind U Frame) (downlink : Kind D Report) (given : Directive) (actions : List Action) (old new : Whole U D) (answer : List LinkIndication) (initiation : Bool)
    → MatchBool initiation (Begins uplink downlink given actions old new answer) (Carries uplink actions old new answer)
    → (new.fits ≡ old.fits) × (new.level ≡ old.level)
unjudged_by {U} {D} uplink downlink given actions old new answer true h = (ap (λ (w : Whole U D). w.fits) h.whole, ap (λ (w : Whole U D). w.level) h.whole)
unjudged_by {U} {D} uplink downlink given actions old new answer false h = (ap (λ (w : Whole U D). w.fits) h.whole, ap (λ (w : Whole U D). w.level) h.whole)

-- what was carried out, with what is now known of widths and starts
pub judged : {U D : Type 0} (uplink : Kind U Frame) (downlink : Kind D Report) (given : Directive) (old new : Whole U D) (answer : List LinkIndication) (fits level : Bool)
    → (actions : List Action) × (directed old.fop given ≡ Ok actions) × Directs uplink downlink given actions old new answer
    → fits ≡ is_still_fitting new → level ≡ level_after uplink downlink given old
    → Happens uplink downlink (event.Directive given) old (record new { fits = fits; level = level }) answer
judged {U} {D} uplink downlink given old new answer fits level done fit start =
    let same = unjudged_by uplink downlink given done.0 old new answer (is_initiation given) done.2 in (
      done.0,
      done.1,
      subst (λ (x : Whole U D). Directs uplink downlink given done.0 old x answer) (λ i. record new { fits = same.0 i; level = same.1 i }) done.2,
      fit ∙ ap (λ (b : Bool). if b then is_fitting new.fop new.farm else false) same.0,
      start,
    )
