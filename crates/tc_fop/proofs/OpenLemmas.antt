-- In S4, S5 and S6: the start goes on, the service begins, or it is given up; in S6 nothing is put out.
use Rattle.std.proofs.Common.{◌≡◌, true, false, ◌⊎◌, inl, inr, ⊎_elim, Option, Some, List, [], ◌∷◌, refl, sym, ◌∙◌, ap}
use Rattle.std.specs.List.{flat_map}
use Rattle.std.proofs.lemmas.Bool.{true≢false, false≢true}
use Rattle.tc_types.specs.declared.link.frames.Frame.{Frame}
use Rattle.tc_farm.specs.declared.clcws.Clcw.{Clcw}
use Rattle.tc_farm.specs.Farm.{distance}
use Rattle.tc_fop.specs.declared.signals.AlertKind.{AlertKind}
use Rattle.tc_fop.specs.declared.signals.FopState.{FopState}
use Rattle.tc_fop.specs.declared.signals.FopState.TheVariants.{Active, RetransmitWithoutWait, RetransmitWithWait, InitialisingWithoutBc, InitialisingWithBc, Initial}
use Rattle.tc_fop.specs.declared.signals.Indication.TheVariants as indication
use Rattle.tc_fop.specs.Machine.{Machine, Out, Alert, nothing, change, option_list, given_back}
use Rattle.tc_fop.specs.Calls.{is_taking, is_initial}
use Rattle.tc_fop.specs.Standing.{is_starting}
use Rattle.tc_fop.specs.Requests.{confirms}
use Rattle.tc_fop.specs.Moves.{transmitted_by, Opens, Rests}
use Rattle.tc_fop.proofs.MoveLemmas.{start_of, silent_alert}

-- S4 and S5 are none of the others
starting_takes_none : (s : FopState) → is_starting s ≡ true → is_taking s ≡ false
starting_takes_none Active e = absurd (false≢true e)
starting_takes_none RetransmitWithoutWait e = absurd (false≢true e)
starting_takes_none RetransmitWithWait e = absurd (false≢true e)
starting_takes_none InitialisingWithoutBc e = refl
starting_takes_none InitialisingWithBc e = refl
starting_takes_none Initial e = refl

starting_is_not_initial : (s : FopState) → is_starting s ≡ true → is_initial s ≡ false
starting_is_not_initial Active e = refl
starting_is_not_initial RetransmitWithoutWait e = refl
starting_is_not_initial RetransmitWithWait e = refl
starting_is_not_initial InitialisingWithoutBc e = refl
starting_is_not_initial InitialisingWithBc e = refl
starting_is_not_initial Initial e = absurd (false≢true e)

-- what a start leaves as it was
pub record Starts (m y : Machine) : Type 0 where
  pub starting : is_starting m.state ≡ true
  pub state : y.state ≡ m.state
  pub vs : y.vs ≡ m.vs
  pub nn : y.nn ≡ m.nn
  pub control : y.control ≡ m.control

-- the start goes on, with these frames
pub starts_on : (heard : Option Clcw) (frames : List Frame) (m y new : Machine) (out : Out) → Starts m y → (frames ≡ []) ⊎ (frames ≡ option_list m.control) → new ≡ y → out ≡ record { frames = frames; indications = [] } → Opens heard m new out
starts_on heard frames m y new out g f e o =
    let state : new.state ≡ m.state = ap (λ (n : Machine). n.state) e ∙ g.state in
    let sent : out.frames ≡ frames = ap (λ (q : Out). q.frames) o in
    record {
      confirms = ap (λ (q : Out). flat_map confirms q.indications) o;
      transmits = ap (λ (q : Out). flat_map transmitted_by q.indications) o;
      frames = ⊎_elim (λ p. inl (sent ∙ p)) (λ p. inr (sent ∙ p)) f;
      goes_on = λ s. record {
        state = state;
        vs = ap (λ (n : Machine). n.vs) e ∙ g.vs;
        nn = ap (λ (n : Machine). n.nn) e ∙ g.nn;
        control = ap (λ (n : Machine). n.control) e ∙ g.control;
        no_start = ap (λ (q : Out). flat_map start_of q.indications) o;
      };
      begins = λ t. absurd (true≢false (sym t ∙ ap (λ s. is_taking s) state ∙ starting_takes_none m.state g.starting));
      gives_up = λ i. absurd (true≢false (sym i ∙ ap (λ s. is_initial s) state ∙ starting_is_not_initial m.state g.starting));
    }

-- the start is given up
pub given_up : (heard : Option Clcw) (kind : AlertKind) (m y new : Machine) (out : Out) → new ≡ change (Alert kind) y → out ≡ record { frames = []; indications = given_back kind y } → Opens heard m new out
given_up heard kind m y new out e o =
    let state : new.state ≡ Initial = ap (λ (n : Machine). n.state) e in
    let starts = ap (λ (q : Out). flat_map start_of q.indications) o ∙ silent_alert start_of (λ n. refl) (λ n. refl) kind refl y in
    record {
      confirms = ap (λ (q : Out). flat_map confirms q.indications) o ∙ silent_alert confirms (λ n. refl) (λ n. refl) kind refl y;
      transmits = ap (λ (q : Out). flat_map transmitted_by q.indications) o ∙ silent_alert transmitted_by (λ n. refl) (λ n. refl) kind refl y;
      frames = inl (ap (λ (q : Out). q.frames) o);
      goes_on = λ s. absurd (false≢true (sym (ap (λ t. is_starting t) state) ∙ s));
      begins = λ t. absurd (false≢true (sym (ap (λ s. is_taking s) state) ∙ t));
      gives_up = λ i. (starts, ap (λ (q : Out). q.frames) o);
    }

-- a control word that reports NN(R) was heard
abbrev pub IsLevel : Option Clcw → Machine → Type 0
IsLevel heard m = (word : Clcw) × (heard ≡ Some word) × (distance word.report m.nn ≡ 0)

-- the service begins
pub begun : (heard : Option Clcw) (m y new : Machine) (out : Out) → IsLevel heard m → y.state ≡ Active → y.vs ≡ m.vs → y.nn ≡ m.nn → y.sent ≡ [] → new ≡ y → out ≡ record { frames = []; indications = indication.Started ∷ [] } → Opens heard m new out
begun heard m y new out level active vs nn sent e o =
    let state : new.state ≡ Active = ap (λ (n : Machine). n.state) e ∙ active in
    record {
      confirms = ap (λ (q : Out). flat_map confirms q.indications) o;
      transmits = ap (λ (q : Out). flat_map transmitted_by q.indications) o;
      frames = inl (ap (λ (q : Out). q.frames) o);
      goes_on = λ s. absurd (false≢true (sym (ap (λ t. is_starting t) state) ∙ s));
      begins = λ t. record {
        word = level.0;
        by = level.1;
        level = level.2;
        vs = ap (λ (n : Machine). n.vs) e ∙ vs;
        nn = ap (λ (n : Machine). n.nn) e ∙ nn;
        sent = ap (λ (n : Machine). n.sent) e ∙ sent;
        frames = ap (λ (q : Out). q.frames) o;
        start = ap (λ (q : Out). flat_map start_of q.indications) o;
      };
      gives_up = λ i. absurd (false≢true (sym (ap (λ s. is_initial s) state) ∙ i));
    }

-- S6 stays
pub rested : (m y new : Machine) (out : Out) → m.state ≡ Initial → y.state ≡ m.state → new ≡ y → out ≡ nothing → Rests m new out
rested m y new out initial state e o = record { state = ap (λ (n : Machine). n.state) e ∙ state ∙ initial; silent = o }
