-- One event where the windows fit: what stands between events, and the alerts.
use Rattle.std.proofs.Common.{◌≡◌, ◌≢◌, ℕ, ◌+◌, ◌-◌, ◌%◌, ◌<◌, ◌≤◌, ◌==◌, ◌⊎◌, inl, inr, ⊎_elim, Bool, true, false, not, if◌then◌else◌, Option, Some, None, Ok, List, [], ◌∷◌, ◌++◌, length, refl, sym, ◌∙◌, ap, subst, arith}
use Rattle.std.specs.Prelude.{nat_lt, MatchBool}
use Rattle.std.specs.List.{list_all}
use Rattle.std.proofs.lemmas.Bool.{false≢true, cases_Bool, eqb-true}
use Rattle.std.proofs.lemmas.Bool.Decides.{nat_tests}
use Rattle.tc_types.specs.declared.link.frames.Frame.{Frame}
use Rattle.tc_types.specs.declared.link.reports.Report.{Report}
use Rattle.tc_types.specs.declared.link.reports.Report.TheVariants.{Word, Telemetry}
use Rattle.tc_types.specs.declared.link.reports.Telemetry.{Telemetry as Packet}
use Rattle.tc_types.specs.declared.link.directives.Directive.{Directive}
use Rattle.tc_types.specs.declared.link.directives.Directive.TheVariants as directive
use Rattle.tc_farm.specs.declared.clcws.Clcw.{Clcw}
use Rattle.tc_farm.specs.declared.farms.FarmView.{FarmView}
use Rattle.tc_farm.specs.ControlWord.{word_of}
use Rattle.tc_farm.specs.Farm.{IsFarm, distance}
use Rattle.tc_fop.specs.declared.signals.FopState.{FopState}
use Rattle.tc_fop.specs.declared.signals.FopState.TheVariants.{Active, RetransmitWithoutWait, RetransmitWithWait, InitialisingWithoutBc, InitialisingWithBc, Initial}
use Rattle.tc_fop.specs.Machine.{Machine, Waiting, Action, Out, after, output, option_list}
use Rattle.tc_fop.specs.Rows.{row_of}
use Rattle.tc_fop.specs.Cells.{cell}
use Rattle.tc_fop.specs.Calls.{offered, directed, reported, ticked, Answers, is_taking}
use Rattle.tc_fop.specs.Standing.{IsFop, is_starting}
use Rattle.tc_fop.specs.Moves.{MovesIn, is_initiation, first_vs, control_of, initiated_state}
use Rattle.tc_fop.specs.Fair.{alerts_in, is_retransmitting, is_checking, may_alert, may_come, IsHeardFairly}
use Rattle.tc_world.specs.declared.events.Event.{Event}
use Rattle.tc_world.specs.declared.events.Event.TheVariants as event
use Rattle.tc_world.specs.declared.events.LinkIndication.{LinkIndication}
use Rattle.tc_world.specs.Sublist.{IsSublist, IsSublist-same, IsSublist-behind}
use Rattle.tc_world.specs.Links.{lossy}
use Rattle.tc_world.specs.Abstraction.{Bare, report_value}
use Rattle.tc_world.specs.Kept.{IsKept, Each, AreWords, AreControls, AreOwnWords}
use Rattle.std.proofs.lemmas.List.{append-nil}
use Rattle.tc_world.specs.Fitting.{IsFitting, IsFit, half_window}
use Rattle.tc_world.proofs.Stills.{clean_is, clean_before}
use Rattle.tc_world.proofs.Fitted.{event_fits, fits_before}
use Rattle.tc_world.specs.Fair.{is_fair, words_of, is_set, asks, AreOpen, NoneAsks, ControlsFirst, IsCalming, IsFair, IsFairOn}
use Rattle.tc_world.specs.World.{Happens, unjudged, Carries, Begins, IsIdle, Hears, Descends, Reads, IsWordOf, told_by_fop, told_of_loss, is_level, is_level_for, is_level_with, is_level_start, level_after, is_good_start, clean_after}
use Rattle.tc_world.proofs.TableLaws.{Laws}
use Rattle.tc_world.proofs.Lists.{each_sub, each_map, pairs_sub, puts_lose, sublist_trans, sublist_left}
use Rattle.tc_world.proofs.FrameLists.{controls_sub, controls_append}
use Rattle.tc_world.proofs.WordLists.{value_of_word, own_behind, words_behind}
use Rattle.tc_world.proofs.Distances.{distance_of}
use Rattle.tc_world.proofs.Moving.{Moving}
use Rattle.tc_world.proofs.Starting.{both_true, good_parts}
use Rattle.tc_world.proofs.Assembly.{answers_of, moving_of, sane_judged}
use Rattle.tc_world.proofs.Marking.{words_of_sub, words_of_append, asks_is, waits_is, locks_is, first_sub, controls_first, marked_calm}
use Rattle.tc_world.proofs.Fairly.{AsksAhead, Numbers, numbers, told_fairly, and_of, kinds, starting_opens, starting_of, unstarted_by, fair_loses, fair_releases, fair_tells, fair_boards, fair_call, taking_call}

-- the laws of the tables that speak of alerts and of Retransmit
pub record FairLaws : Type 0 where
  pub ahead : AsksAhead
  pub ticks_stand : (m : Machine) (new : Machine) (out : Out) → is_taking m.state ≡ true → Answers (ticked m) m new (Ok out) → is_retransmitting new.state ≡ true → (is_retransmitting m.state ≡ true) × (new.nn ≡ m.nn)
  pub offers_stand : (m : Machine) (w : Waiting) (new : Machine) (out : Out) → Answers (offered m w) m new (Ok out) → is_retransmitting new.state ≡ true → (is_retransmitting m.state ≡ true) × (new.nn ≡ m.nn)
  pub directives_stand : (m : Machine) (given : Directive) (new : Machine) (out : Out) → is_initiation given ≡ false → is_taking m.state ≡ true → Answers (directed m given) m new (Ok out) → is_retransmitting new.state ≡ true → (is_retransmitting m.state ≡ true) × (new.nn ≡ m.nn)
  pub words_tell : (level : Bool) (m : Machine) (word : Clcw) (new : Machine) (out : Out) → list_all (may_come level m.state) (cell (row_of m (Some word)) m.state) ≡ true → Answers (reported m (Some word)) m new (Ok out) → list_all (may_alert level m.state) (alerts_in out) ≡ true
  pub ticks_tell : (level : Bool) (m : Machine) (new : Machine) (out : Out) → Answers (ticked m) m new (Ok out) → list_all (may_alert level m.state) (alerts_in out) ≡ true
  pub offers_tell : (level : Bool) (m : Machine) (w : Waiting) (new : Machine) (out : Out) → Answers (offered m w) m new (Ok out) → list_all (may_alert level m.state) (alerts_in out) ≡ true
  pub directives_tell : (level : Bool) (m : Machine) (given : Directive) (new : Machine) (out : Out) → Answers (directed m given) m new (Ok out) → list_all (may_alert level m.state) (alerts_in out) ≡ true
  pub taking : (level : Bool) (m : Machine) (word : Clcw) → 1 ≤ m.limit → IsHeardFairly m word → is_taking m.state ≡ true → list_all (may_come level m.state) (cell (row_of m (Some word)) m.state) ≡ true
  pub checking : (m : Machine) (word : Clcw) → m.state ≡ InitialisingWithoutBc → word.lockout ≡ false → (word.wait ≡ true → word.retransmit ≡ true) → list_all (may_come false m.state) (cell (row_of m (Some word)) m.state) ≡ true
  pub level : (level : Bool) (m : Machine) (word : Clcw) → m.state ≡ InitialisingWithoutBc → word.lockout ≡ false → word.wait ≡ false → word.retransmit ≡ false → distance word.report m.nn ≡ 0 → distance m.vs m.nn ≡ 0 → list_all (may_come level m.state) (cell (row_of m (Some word)) m.state) ≡ true
  pub with_control : (level : Bool) (m : Machine) (word : Clcw) → m.state ≡ InitialisingWithBc → list_all (may_come level m.state) (cell (row_of m (Some word)) m.state) ≡ true
  pub initial : (level : Bool) (m : Machine) (word : Clcw) → m.state ≡ Initial → list_all (may_come level m.state) (cell (row_of m (Some word)) m.state) ≡ true
  pub reports : (m : Machine) (word : Clcw) → 1 ≤ m.limit → word.report < 256 → m.nn < 256 → IsHeardFairly m word → is_taking m.state ≡ true → is_retransmitting (after (cell (row_of m (Some word)) m.state) m).state ≡ true → (after (cell (row_of m (Some word)) m.state) m).nn ≡ word.report
  pub begins : (m : Machine) (word : Clcw) → is_starting m.state ≡ true → is_taking (after (cell (row_of m (Some word)) m.state) m).state ≡ true → word.retransmit ≡ false
  pub active : (m : Machine) (word : Clcw) → is_starting m.state ≡ true → is_retransmitting (after (cell (row_of m (Some word)) m.state) m).state ≡ false
  pub asks : (m : Machine) (word : Clcw) → 1 ≤ m.limit → IsHeardFairly m word → is_taking m.state ≡ true → is_retransmitting (after (cell (row_of m (Some word)) m.state) m).state ≡ true → word.retransmit ≡ true

-- what an event gives
abbrev pub Fairs : Bare → Bare → List LinkIndication → Type 0
Fairs w v answer = IsFair v × (list_all (is_fair w.level w.fop.state) answer ≡ true)

told : (level : Bool) (s : FopState) (answer : List LinkIndication) (out : Out) → answer ≡ told_by_fop out → list_all (may_alert level s) (alerts_in out) ≡ true
    → list_all (is_fair level s) answer ≡ true
told level s answer out e h = ap (λ (l : List LinkIndication). list_all (is_fair level s) l) e ∙ told_fairly level s out.indications h

-- ---- a call without a control word

carries_fair : (w v : Bare) (actions : List Action) (answer : List LinkIndication) → IsKept w → IsFitting w → IsFitting v → IsFarm v.farm → IsFair w
    → Carries lossy actions w v answer → MovesIn w.fop.state None w.fop v.fop (output actions w.fop)
    → (is_taking w.fop.state ≡ true → is_retransmitting v.fop.state ≡ true → (is_retransmitting w.fop.state ≡ true) × (v.fop.nn ≡ w.fop.nn))
    → list_all (may_alert w.level w.fop.state) (alerts_in (output actions w.fop)) ≡ true
    → Fairs w v answer
carries_fair w v actions answer kept fit fit_v farm fair h moves stands tells =
    let out : Out = output actions w.fop in
    let half = half_window w in
    let moving : Moving half None w v out = moving_of half None w v actions answer kept.fop fit.k h moves in
    let same = IsSublist-same (words_of w.down) in (
      fair_call half None w v w.down out moving same fair
          (λ tw tv.
          let marks = fair.marked tw in
          taking_call half None w v w.down out moving same (numbers w kept.farm fit tw) (numbers v farm fit_v tv) marks tw
          (λ again.
          let s = stands tw again in (
            each_map (λ (x : ℕ). report_value x ≡ w.fop.nn → asks x ≡ true) (λ (x : ℕ). report_value x ≡ v.fop.nn → asks x ≡ true) (words_of w.down)
                (λ x f e. f (e ∙ s.1)) (marks.asked s.0),
            (λ e. marks.asked_farm s.0 (e ∙ s.1)),
          )))
          (λ starting tv.
          let by = ((starting_opens w.fop.state None w.fop v.fop out starting moves).begins tv).by in
          absurd (let no : None ≡ Some ((starting_opens w.fop.state None w.fop v.fop out starting moves).begins tv).word = by in cc)),
      told w.level w.fop.state answer out h.answered tells,
    )

-- ---- a control word

-- what is read of a word of the FARM's
record IsRead (word : ℕ) (clcw : Clcw) : Type 0 where
  pub small : clcw.report < 256
  pub value : report_value word ≡ clcw.report
  pub locks : is_set 13 word ≡ clcw.lockout
  pub waits : is_set 12 word ≡ clcw.wait
  pub flag : asks word ≡ clcw.retransmit

read_of : (word : ℕ) (clcw : Clcw) → word ≡ word_of clcw → clcw.report < 256 → IsRead word clcw
read_of word clcw written small = record {
  small = small;
  value = ap report_value written ∙ value_of_word clcw small;
  locks = ap (λ (x : ℕ). is_set 13 x) written ∙ locks_is clcw small;
  waits = ap (λ (x : ℕ). is_set 12 x) written ∙ waits_is clcw small;
  flag = ap asks written ∙ asks_is clcw small;
}

-- the word stands in front of those that are left
here : (down lost left : List Report) (word : ℕ) → down ≡ lost ++ Word word ∷ left → IsSublist (word ∷ words_of left) (words_of down)
here down lost left word e = words_of_sub (Word word ∷ left) down (subst (λ (l : List Report). IsSublist (Word word ∷ left) l) (sym e) (IsSublist-behind lost (Word word ∷ left)))

-- a word that reports a position between the confirmed and the sent
heard_by : (base n r s : ℕ) (m : Machine) (word : ℕ) (clcw : Clcw) → IsRead word clcw → report_value word ≡ (base + r) % 256
    → m.nn ≡ (base + n) % 256 → m.vs ≡ (base + s) % 256 → n ≤ r → r ≤ s → s ≤ n + 127
    → clcw.lockout ≡ false → (clcw.wait ≡ true → clcw.retransmit ≡ true)
    → (asks word ≡ true → report_value word ≢ m.vs) → (is_retransmitting m.state ≡ true → report_value word ≡ m.nn → asks word ≡ true)
    → IsHeardFairly m clcw
heard_by base n r s m word clcw read value nn vs low high few locked waits below asked =
    let mine : clcw.report ≡ (base + r) % 256 = sym read.value ∙ value in
    let d : distance clcw.report m.nn ≡ r - n = distance_of base n r clcw.report m.nn mine nn low (omega (arith, high, few)) in
    let w : distance m.vs m.nn ≡ s - n = distance_of base n s m.vs m.nn vs nn (omega (arith, low, high)) (omega (arith, few)) in
    let fewer : clcw.retransmit ≡ true → r < s =
    λ a. elim (cases_Bool (nat_lt r s)) [
      | inl less ↦ grind (arith, nat_tests, less)
      | inr not_less ↦
          let most : s ≤ r = grind (arith, nat_tests, not_less) in
          let same : r ≡ s = omega (arith, most, high) in
          absurd (below (read.flag ∙ a) (value ∙ ap (λ (k : ℕ). (base + k) % 256) same ∙ sym vs))
    ] in
    record {
      open_farm = locked;
      asks = waits;
      near = omega (arith, d, w, high);
      missing = λ a. let f = fewer a in omega (arith, d, w, f, low);
      still = λ again none.
          let same : r ≡ n = omega (arith, d, none, low) in
          sym read.flag ∙ asked again (value ∙ ap (λ (k : ℕ). (base + k) % 256) same ∙ sym nn);
    }

heard_fairly : (w : Bare) (word : ℕ) (clcw : Clcw) (lost left : List Report) → w.down ≡ lost ++ Word word ∷ left → IsRead word clcw → Numbers w
    → IsFair w → is_taking w.fop.state ≡ true → IsHeardFairly w.fop clcw
heard_fairly w word clcw lost left down read n fair taking =
    let base = w.newest.base in
    let marks = fair.marked taking in
    let front = here w.down lost left word down in
    let b = words_behind base lost (Word word ∷ left) n.rs (subst (λ (l : List Report). AreWords base l n.rs) down n.kept.words) in
    let f = b.4 in
    let sub = subst (λ (l : List ℕ). IsSublist (f.0 ∷ f.1) l) (sym (b.2 ∙ ap (λ (l : List ℕ). b.0 ++ l) f.2)) (IsSublist-behind b.0 (f.0 ∷ f.1)) in
    let low = (each_sub (λ (r : ℕ). length w.newest.confirmed ≤ r) (f.0 ∷ f.1) n.rs sub n.kept.window.down_low).0 in
    let high = (each_sub (λ (r : ℕ). r ≤ length w.newest.accepted) (f.0 ∷ f.1) n.rs sub n.kept.window.down_high).0 in
    let opened = (each_sub (λ (x : ℕ). (is_set 13 x ≡ false) × (is_set 12 x ≡ true → asks x ≡ true)) (word ∷ words_of left) (words_of w.down) front fair.open_words).0 in
    heard_by base (length w.newest.confirmed) f.0 (length w.newest.sent) w.fop word clcw read f.3 n.stands.nn n.stands.vs low (omega (arith, high, n.accepted)) n.few
    (sym read.locks ∙ opened.0) (λ e. sym read.flag ∙ opened.1 (read.waits ∙ e))
    (each_sub (λ (x : ℕ). asks x ≡ true → report_value x ≢ w.fop.vs) (word ∷ words_of left) (words_of w.down) front marks.below).0
    (λ again. (each_sub (λ (x : ℕ). report_value x ≡ w.fop.nn → asks x ≡ true) (word ∷ words_of left) (words_of w.down) front (marks.asked again)).0)

starting_kinds : (s : FopState) → is_starting s ≡ true → ((s ≡ InitialisingWithoutBc) × (is_checking s ≡ true)) ⊎ (s ≡ InitialisingWithBc)
starting_kinds Active e = absurd (false≢true e)
starting_kinds RetransmitWithoutWait e = absurd (false≢true e)
starting_kinds RetransmitWithWait e = absurd (false≢true e)
starting_kinds InitialisingWithoutBc e = inl (refl, refl)
starting_kinds InitialisingWithBc e = inr refl
starting_kinds Initial e = absurd (false≢true e)

-- which alerts the cell has
hears_may : FairLaws → (w : Bare) (word : ℕ) (clcw : Clcw) (lost left : List Report) → IsKept w → IsFitting w → IsFair w
    → w.down ≡ lost ++ Word word ∷ left → IsRead word clcw
    → list_all (may_come w.level w.fop.state) (cell (row_of w.fop (Some clcw)) w.fop.state) ≡ true
hears_may fl w word clcw lost left kept fit fair down read =
    let m = w.fop in
    let front = here w.down lost left word down in
    let opened = (each_sub (λ (x : ℕ). (is_set 13 x ≡ false) × (is_set 12 x ≡ true → asks x ≡ true)) (word ∷ words_of left) (words_of w.down) front fair.open_words).0 in
    let locked : clcw.lockout ≡ false = sym read.locks ∙ opened.0 in
    ⊎_elim
    (λ taking. fl.taking w.level m clcw kept.fop.limit_least (heard_fairly w word clcw lost left down read (numbers w kept.farm fit taking) fair taking) taking)
    (λ other. ⊎_elim
    (λ starting. ⊎_elim
    (λ four. ⊎_elim
    (λ (yes : w.level ≡ true).
    let level = fair.level four.1 yes in
    let own = (each_sub (λ (x : ℕ). (report_value x ≡ m.vs) × (is_set 12 x ≡ false) × (asks x ≡ false)) (word ∷ words_of left) (words_of w.down) front level.level_words).0 in
    let same : m.vs ≡ m.nn = kept.fop.starting starting in
    let reported_nn : clcw.report ≡ m.nn = sym read.value ∙ own.0 ∙ same in
    fl.level w.level m clcw four.0 locked (sym read.waits ∙ own.1) (sym read.flag ∙ own.2)
    (omega (arith, reported_nn, kept.fop.nn)) (omega (arith, same, kept.fop.nn)))
    (λ (no : w.level ≡ false).
    subst (λ (b : Bool). list_all (may_come b m.state) (cell (row_of m (Some clcw)) m.state) ≡ true) (sym no)
    (fl.checking m clcw four.0 locked (λ e. sym read.flag ∙ opened.1 (read.waits ∙ e))))
    (cases_Bool w.level))
    (λ five. fl.with_control w.level m clcw five)
    (starting_kinds m.state starting))
    (λ initial. fl.initial w.level m clcw initial)
    other)
    (kinds m.state)

hears_fair : Laws → FairLaws → (w v : Bare) (word : ℕ) (lost left : List Report) (heard : Option Clcw) (actions : List Action) (answer : List LinkIndication)
    → IsKept w → IsFitting w → IsFitting v → IsFop v.fop → IsFarm v.farm → IsFair w → w.down ≡ lost ++ Word word ∷ left → Reads word w.vc heard
    → reported w.fop heard ≡ Ok actions → Carries lossy actions (record w { down = left }) v answer → Fairs w v answer
hears_fair laws fl w v word lost left heard actions answer kept fit fit_v fop farm fair down reads gives h =
    let own : AreOwnWords w.vc (Word word ∷ left) =
    own_behind w.vc lost (Word word ∷ left) (subst (λ l. AreOwnWords w.vc l) down kept.words) in
    let clcw : Clcw = own.0.0 in
    let written : word ≡ word_of clcw = own.0.1 in
    let small : clcw.report < 256 = own.0.3 in
    let read : IsRead word clcw = read_of word clcw written small in
    let is : heard ≡ Some clcw = reads.again clcw small written (sym own.0.2) in
    let out : Out = output actions w.fop in
    let before : Bare = record w { down = left } in
    let heard_answers = answers_of (reported w.fop heard) w.fop v.fop actions gives (ap (λ x. x.fop) h.whole) in
    let answers : Answers (reported w.fop (Some clcw)) w.fop v.fop (Ok out) = subst (λ o. Answers (reported w.fop o) w.fop v.fop (Ok out)) is heard_answers in
    let moves : MovesIn w.fop.state (Some clcw) w.fop v.fop out =
    subst (λ o. MovesIn w.fop.state o w.fop v.fop out) is (laws.words w.fop heard v.fop out kept.fop fop heard_answers) in
    let half = half_window w in
    let moving : Moving half (Some clcw) before v out = moving_of half (Some clcw) before v actions answer kept.fop fit.k h moves in
    let front = here w.down lost left word down in
    let sub : IsSublist (words_of left) (words_of w.down) = sublist_trans (words_of left) (word ∷ words_of left) (words_of w.down) (inl (IsSublist-same (words_of left))) front in
    let became : v.fop ≡ after (cell (row_of w.fop (Some clcw)) w.fop.state) w.fop = answers.0 in (
      fair_call half (Some clcw) w v left out moving sub fair
          (λ tw tv.
          let marks = fair.marked tw in
          let nw = numbers w kept.farm fit tw in
          let fairly = heard_fairly w word clcw lost left down read nw fair tw in
          taking_call half (Some clcw) w v left out moving sub nw (numbers v farm fit_v tv) marks tw
          (λ again.
          let s : is_retransmitting (after (cell (row_of w.fop (Some clcw)) w.fop.state) w.fop).state ≡ true = ap (λ (x : Machine). is_retransmitting x.state) (sym became) ∙ again in
          let flag : asks word ≡ true = read.flag ∙ fl.asks w.fop clcw kept.fop.limit_least fairly tw s in
          let nn : v.fop.nn ≡ report_value word = ap (λ (x : Machine). x.nn) became ∙ fl.reports w.fop clcw kept.fop.limit_least small kept.fop.nn fairly tw s ∙ sym read.value in
          let on = (pairs_sub (λ (x y : ℕ). asks x ≡ true → report_value x ≡ report_value y → asks y ≡ true) (word ∷ words_of left) (words_of w.down) front marks.on).0 in
          let on_farm = (each_sub (λ (x : ℕ). asks x ≡ true → report_value x ≡ w.farm.vr → w.farm.retransmit ≡ true) (word ∷ words_of left) (words_of w.down) front marks.on_farm).0 in (
            each_map (λ (y : ℕ). asks word ≡ true → report_value word ≡ report_value y → asks y ≡ true) (λ (y : ℕ). report_value y ≡ v.fop.nn → asks y ≡ true) (words_of left)
                (λ y f e. f flag (sym nn ∙ sym e)) on,
            (λ e. on_farm flag (sym nn ∙ sym e)),
          )))
          (λ starting tv.
          let calm = fair.calming starting in
          let t : is_taking (after (cell (row_of w.fop (Some clcw)) w.fop.state) w.fop).state ≡ true = ap (λ (x : Machine). is_taking x.state) (sym became) ∙ tv in
          let none : asks word ≡ false = read.flag ∙ fl.begins w.fop clcw starting t in
          let state : is_retransmitting v.fop.state ≡ false = ap (λ (x : Machine). is_retransmitting x.state) became ∙ fl.active w.fop clcw starting in
          let on = (pairs_sub (λ (x y : ℕ). asks x ≡ false → asks y ≡ false) (word ∷ words_of left) (words_of w.down) front calm.on).0 in
          let on_farm = (each_sub (λ (x : ℕ). asks x ≡ false → w.farm.retransmit ≡ false) (word ∷ words_of left) (words_of w.down) front calm.on_farm).0 in
          let unstarted = unstarted_by half w fit.sane starting in
          let base = w.newest.base in
          let control = (starting_of base w.fop.state w.fop starting unstarted.fop).control in
          let opens = starting_opens w.fop.state (Some clcw) w.fop v.fop out starting moves in
          let frames : AreControls base out.frames = ⊎_elim
          (λ e. subst (λ (fs : List Frame). AreControls base fs) (sym e) tt)
          (λ e. subst (λ (fs : List Frame). AreControls base fs) (sym e) control)
          opens.frames in
          let up : AreControls base v.up = controls_sub base v.up (w.up ++ out.frames) moving.up (controls_append base w.up out.frames unstarted.up frames) in
          marked_calm v.fop w.farm v.up (words_of left)
          (each_map (λ (y : ℕ). asks word ≡ false → asks y ≡ false) (λ (y : ℕ). asks y ≡ false) (words_of left) (λ y f. f none) on)
          (on_farm none) state (controls_first base v.up up)),
      told w.level w.fop.state answer out h.answered (fl.words_tell w.level w.fop clcw v.fop out (hears_may fl w word clcw lost left kept fit fair down read) answers),
    )

lands_fair : Laws → FairLaws → (w v : Bare) (item : Report) (lost left : List Report) (answer : List LinkIndication)
    → IsKept w → IsFitting w → IsFitting v → IsFop v.fop → IsFarm v.farm → IsFair w → w.down ≡ lost ++ item ∷ left
    → Hears lossy item (record w { down = left }) v answer → Fairs w v answer
lands_fair laws fl w v (Word word) lost left answer kept fit fit_v fop farm fair down (heard, actions, rest, reads, gives, h, answered) =
    let done = hears_fair laws fl w v word lost left heard actions rest kept fit fit_v fop farm fair down reads gives h in (
      done.0,
      ap (λ (l : List LinkIndication). list_all (is_fair w.level w.fop.state) l) answered
          ∙ and_of true (list_all (is_fair w.level w.fop.state) rest) refl done.1,
    )
lands_fair laws fl w v (Telemetry telemetry) lost left answer kept fit fit_v fop farm fair down (readied, whole, answered) = (
  subst (λ (x : Bare). IsFair x) (sym (whole ∙ ap (λ up. record w { up = up; down = left }) readied))
      (fair_loses w w.up left fair (IsSublist-same w.up)
      (words_of_sub left w.down (subst (λ l. IsSublist left l) (sym down)
      (sublist_trans left (Telemetry telemetry ∷ left) (lost ++ Telemetry telemetry ∷ left) (inl (IsSublist-same left)) (IsSublist-behind lost (Telemetry telemetry ∷ left)))))),
  ap (λ (l : List LinkIndication). list_all (is_fair w.level w.fop.state) l) answered,
)

-- ---- an initiation

flags_of : (a l t r : Bool) → (if a then (if l then false else if t then false else not r) else false) ≡ true → (a ≡ true) × (t ≡ false) × (r ≡ false)
flags_of true true t r e = absurd (false≢true e)
flags_of true false true r e = absurd (false≢true e)
flags_of true false false true e = absurd (false≢true e)
flags_of true false false false e = (refl, refl, refl)
flags_of false l t r e = absurd (false≢true e)

level_of : (fop : Machine) (farm : FarmView) → is_level fop farm ≡ true → (fop.vs ≡ farm.vr) × (farm.wait ≡ false) × (farm.retransmit ≡ false)
level_of fop farm e =
    let f = flags_of (fop.vs == farm.vr) farm.lockout farm.wait farm.retransmit e in
    (eqb-true fop.vs farm.vr f.0, f.1, f.2)

control_first : (given : Directive) → ControlsFirst (option_list (control_of given))
control_first directive.InitiateNone = tt
control_first directive.InitiateCheck = tt
control_first directive.InitiateUnlock = tt
control_first (directive.InitiateSetVr v) = tt
control_first directive.Terminate = tt
control_first (directive.SetVs v) = tt
control_first (directive.SetK k) = tt
control_first (directive.SetT1 t1) = tt
control_first (directive.SetLimit limit) = tt

-- without check the service begins at once, and both sides are level
at_once : (given : Directive) (fop : Machine) (farm : FarmView) → is_level_for given fop farm ≡ true → is_taking (initiated_state given) ≡ true
    → (farm.retransmit ≡ false) × (is_retransmitting (initiated_state given) ≡ false)
at_once directive.InitiateNone fop farm e t = ((level_of fop farm e).2, refl)
at_once directive.InitiateCheck fop farm e t = absurd (false≢true t)
at_once directive.InitiateUnlock fop farm e t = absurd (false≢true t)
at_once (directive.InitiateSetVr v) fop farm e t = absurd (false≢true t)
at_once directive.Terminate fop farm e t = absurd (false≢true t)
at_once (directive.SetVs v) fop farm e t = absurd (false≢true t)
at_once (directive.SetK k) fop farm e t = absurd (false≢true t)
at_once (directive.SetT1 t1) fop farm e t = absurd (false≢true t)
at_once (directive.SetLimit limit) fop farm e t = absurd (false≢true t)

-- S4 comes by the check alone
by_check : (given : Directive) → is_checking (initiated_state given) ≡ true → given ≡ directive.InitiateCheck
by_check directive.InitiateNone t = absurd (false≢true t)
by_check directive.InitiateCheck t = refl
by_check directive.InitiateUnlock t = absurd (false≢true t)
by_check (directive.InitiateSetVr v) t = absurd (false≢true t)
by_check directive.Terminate t = absurd (false≢true t)
by_check (directive.SetVs v) t = absurd (false≢true t)
by_check (directive.SetK k) t = absurd (false≢true t)
by_check (directive.SetT1 t1) t = absurd (false≢true t)
by_check (directive.SetLimit limit) t = absurd (false≢true t)

begins_fair : Laws → FairLaws → (w v : Bare) (given : Directive) (actions : List Action) (answer : List LinkIndication) → IsKept w → IsFop v.fop
    → is_initiation given ≡ true → directed w.fop given ≡ Ok actions → Begins lossy lossy given actions w (unjudged w v) answer
    → v.clean ≡ true → v.level ≡ level_after lossy lossy given w → Fairs w v answer
begins_fair laws fl w v given actions answer kept fop initiation gives h clean lev =
    let out : Out = output actions w.fop in
    let answers = answers_of (directed w.fop given) w.fop v.fop actions gives (ap (λ (x : Bare). x.fop) h.whole) in
    let law = laws.initiations w.fop given v.fop out initiation kept.fop fop answers in
    let cleaned : v.clean ≡ clean_after lossy lossy given w = ap (λ (x : Bare). x.clean) h.whole in
    let good = (both_true w.clean (is_good_start lossy lossy given w) (sym cleaned ∙ clean)).1 in
    let parts = good_parts given w good in
    let farm : v.farm ≡ w.farm = ap (λ (x : Bare). x.farm) h.whole in
    let ws : words_of v.down ≡ [] = ap words_of (ap (λ (x : Bare). x.down) h.whole ∙ parts.1) in
    let put : IsSublist v.up (w.up ++ out.frames) = subst (λ l. IsSublist v.up (l ++ out.frames)) h.readied
    (puts_lose lossy h.ready out.frames v.up (λ before next item put. put) h.frames) in
    let up : IsSublist v.up (option_list (control_of given)) =
    subst (λ (l : List Frame). IsSublist v.up l) (ap (λ (l : List Frame). l ++ out.frames) parts.0 ∙ law.frames) put in (
      record {
        open_words = subst (λ (l : List ℕ). AreOpen l) (sym ws) tt;
        marked = λ t.
            let once = at_once given w.fop w.farm parts.2 (sym (ap is_taking law.state) ∙ t) in
            marked_calm v.fop v.farm v.up (words_of v.down) (subst (λ (l : List ℕ). NoneAsks l) (sym ws) tt)
            (ap (λ (x : FarmView). x.retransmit) farm ∙ once.0) (ap is_retransmitting law.state ∙ once.1)
            (first_sub v.up (option_list (control_of given)) up (control_first given));
        calming = λ t. subst (λ (l : List ℕ). IsCalming v.farm l) (sym ws) (record { on = tt; on_farm = tt });
        level = λ t l.
            let check : given ≡ directive.InitiateCheck = by_check given (sym (ap is_checking law.state) ∙ t) in
            let start : is_level_start lossy lossy given w ≡ true =
            sym (ap (λ (b : Bool). if b then is_level_start lossy lossy given w else w.level) initiation) ∙ sym lev ∙ l in
            let with_check : is_level_with given w.fop w.farm ≡ true =
            (both_true (is_good_start lossy lossy given w) (is_level_with given w.fop w.farm) start).1 in
            let sides = level_of w.fop w.farm (sym (ap (λ (d : Directive). is_level_with d w.fop w.farm) check) ∙ with_check) in
            let vs : v.fop.vs ≡ w.fop.vs = law.vs ∙ ap (λ (d : Directive). first_vs d w.fop) check in
            let nothing : IsSublist v.up [] = subst (λ (d : Directive). IsSublist v.up (option_list (control_of d))) check up in
            record {
              nothing_up = nothing;
              vr = ap (λ (x : FarmView). x.vr) farm ∙ sym sides.0 ∙ sym vs;
              wait = ap (λ (x : FarmView). x.wait) farm ∙ sides.1;
              retransmit = ap (λ (x : FarmView). x.retransmit) farm ∙ sides.2;
              level_words = subst (λ (l : List ℕ). Each (λ (x : ℕ). (report_value x ≡ v.fop.vs) × (is_set 12 x ≡ false) × (asks x ≡ false)) l) (sym ws) tt;
            };
      },
      told w.level w.fop.state answer out h.answered (fl.directives_tell w.level w.fop given v.fop out answers),
    )

fitting_judged : (v : Bare) (fits level : Bool) → IsFitting (record v { fits = fits; level = level }) → IsFitting v
fitting_judged v fits level h = record { k = h.k; sane = sane_judged (half_window v) v fits level h.sane; open_farm = h.open_farm }

directive_fair : Laws → FairLaws → (w v : Bare) (given : Directive) (actions : List Action) (answer : List LinkIndication) (initiation : Bool)
    → IsKept w → IsFitting w → IsFitting v → IsFop v.fop → IsFarm v.farm → IsFair w → is_initiation given ≡ initiation → directed w.fop given ≡ Ok actions
    → MatchBool initiation (Begins lossy lossy given actions w (unjudged w v) answer) (Carries lossy actions w (unjudged w v) answer)
    → v.clean ≡ true → v.level ≡ level_after lossy lossy given w → Fairs w v answer
directive_fair laws fl w v given actions answer true kept fit fit_v fop farm fair is gives h clean lev =
    begins_fair laws fl w v given actions answer kept fop is gives h clean lev
directive_fair laws fl w v given actions answer false kept fit fit_v fop farm fair is gives h clean lev =
    let out : Out = output actions w.fop in
    let answers = answers_of (directed w.fop given) w.fop v.fop actions gives (ap (λ (x : Bare). x.fop) h.whole) in
    let done = carries_fair w (unjudged w v) actions answer kept fit (fitting_judged (unjudged w v) v.fits v.level fit_v) farm fair h
    (laws.directives w.fop given v.fop out is kept.fop fop answers)
    (λ taking again. fl.directives_stand w.fop given v.fop out is taking answers again)
    (fl.directives_tell w.level w.fop given v.fop out answers) in
    let same : v.level ≡ w.level = lev ∙ ap (λ (b : Bool). if b then is_level_start lossy lossy given w else w.level) is in (
      record {
        open_words = done.0.open_words;
        marked = done.0.marked;
        calming = done.0.calming;
        level = λ t l. done.0.level t (sym same ∙ l);
      },
      done.1,
    )

-- ---- the events, one by one

loss_fair : (level : Bool) (s : FopState) (found : Bool) → list_all (is_fair level s) (told_of_loss found) ≡ true
loss_fair level s true = refl
loss_fair level s false = refl

idle_fair : (w v : Bare) (answer : List LinkIndication) → IsFair w → IsIdle lossy lossy w v answer → Fairs w v answer
idle_fair w v answer fair h = (
  subst (λ (x : Bare). IsFair x) (sym h.same.rest)
      (fair_loses w v.up v.down fair (subst (λ l. IsSublist l w.up) (sym h.same.up) (IsSublist-same w.up))
      (words_of_sub v.down w.down (subst (λ l. IsSublist l w.down) (sym h.same.down) (IsSublist-same w.down)))),
  ap (λ (l : List LinkIndication). list_all (is_fair w.level w.fop.state) l) h.answered,
)

tells_fair : (w v : Bare) (clcw : Clcw) (answer : List LinkIndication) → IsKept w → IsFitting w → IsFair w → IsWordOf w.farm w.vc clcw
    → Descends lossy (Word (word_of clcw)) w v answer → Fairs w v answer
tells_fair w v clcw answer kept fit fair is h =
    let small : clcw.report < 256 = subst (λ (n : ℕ). n < 256) (sym is.report_value) kept.farm.vr in
    let sub : IsSublist v.down (w.down ++ Word (word_of clcw) ∷ []) =
    subst (λ l. IsSublist v.down (l ++ Word (word_of clcw) ∷ [])) h.readied h.put in (
      subst (λ (x : Bare). IsFair x) (sym h.whole)
          (fair_tells w (word_of clcw) v.down fair kept.farm fit.open_farm (value_of_word clcw small ∙ is.report_value)
          (locks_is clcw small ∙ is.lockout) (waits_is clcw small ∙ is.wait) (asks_is clcw small ∙ is.retransmit) sub),
      ap (λ (l : List LinkIndication). list_all (is_fair w.level w.fop.state) l) h.answered,
    )

reports_fair : (w v : Bare) (telemetry : Packet) (answer : List LinkIndication) → IsFair w → Descends lossy (Telemetry telemetry) w v answer → Fairs w v answer
reports_fair w v telemetry answer fair h =
    let sub : IsSublist v.down (w.down ++ Telemetry telemetry ∷ []) =
    subst (λ l. IsSublist v.down (l ++ Telemetry telemetry ∷ [])) h.readied h.put in
    let some : IsSublist (words_of v.down) (words_of w.down) =
    subst (λ (l : List ℕ). IsSublist (words_of v.down) l) (words_of_append w.down (Telemetry telemetry ∷ []) ∙ append-nil (words_of w.down))
    (words_of_sub v.down (w.down ++ Telemetry telemetry ∷ []) sub) in (
      subst (λ (x : Bare). IsFair x) (sym h.whole) (fair_loses w w.up v.down fair (IsSublist-same w.up) some),
      ap (λ (l : List LinkIndication). list_all (is_fair w.level w.fop.state) l) h.answered,
    )

event_fair : Laws → FairLaws → (given : Event) (w v : Bare) (answer : List LinkIndication) → IsKept w → IsFitting w → IsFitting v → IsFop v.fop → IsFarm v.farm
    → v.clean ≡ true → IsFair w → Happens lossy lossy given w v answer → Fairs w v answer
event_fair laws fl (event.Offer request body) w v answer kept fit fit_v fop farm clean fair (actions, unknown, gives, h) =
    let waiting : Waiting = record { request = request; body = body } in
    let out : Out = output actions w.fop in
    let answers = answers_of (offered w.fop waiting) w.fop v.fop actions gives (ap (λ (x : Bare). x.fop) h.whole) in
    carries_fair w v actions answer kept fit fit_v farm fair h (laws.offers w.fop waiting v.fop out kept.fop fop answers)
    (λ taking again. fl.offers_stand w.fop waiting v.fop out answers again)
    (fl.offers_tell w.level w.fop waiting v.fop out answers)
event_fair laws fl (event.Directive given) w v answer kept fit fit_v fop farm clean fair (actions, gives, h, fits, level) =
    directive_fair laws fl w v given actions answer (is_initiation given) kept fit fit_v fop farm fair refl gives h clean level
event_fair laws fl event.Tick w v answer kept fit fit_v fop farm clean fair (actions, gives, h) =
    let out : Out = output actions w.fop in
    let answers = answers_of (ticked w.fop) w.fop v.fop actions gives (ap (λ (x : Bare). x.fop) h.whole) in
    carries_fair w v actions answer kept fit fit_v farm fair h (laws.ticks w.fop v.fop out kept.fop fop answers)
    (λ taking again. fl.ticks_stand w.fop v.fop out taking answers again)
    (fl.ticks_tell w.level w.fop v.fop out answers)
event_fair laws fl (event.Uplink room) w v answer kept fit fit_v fop farm clean fair (inl (nothing, h)) = idle_fair w v answer fair h
event_fair laws fl (event.Uplink room) w v answer kept fit fit_v fop farm clean fair (inr h) = (
  subst (λ (x : Bare). IsFair x) (sym h.whole) (fair_boards fl.ahead w h.frame room h.taken.0 v.up h.taken.1 kept.farm fit fair),
  ap (λ (l : List LinkIndication). list_all (is_fair w.level w.fop.state) l) h.answered,
)
event_fair laws fl (event.LoseUp place) w v answer kept fit fit_v fop farm clean fair h = (
  subst (λ (x : Bare). IsFair x) (sym h.whole) (fair_loses w v.up w.down fair h.lost (IsSublist-same (words_of w.down))),
  ap (λ (l : List LinkIndication). list_all (is_fair w.level w.fop.state) l) h.answered ∙ loss_fair w.level w.fop.state h.found,
)
event_fair laws fl event.Release w v answer kept fit fit_v fop farm clean fair (whole, answered) = (
  subst (λ (x : Bare). IsFair x) (sym whole) (fair_releases w fair),
  ap (λ (l : List LinkIndication). list_all (is_fair w.level w.fop.state) l) answered,
)
event_fair laws fl event.Clcw w v answer kept fit fit_v fop farm clean fair (clcw, is, h) = tells_fair w v clcw answer kept fit fair is h
event_fair laws fl (event.Put telemetry) w v answer kept fit fit_v fop farm clean fair h = reports_fair w v telemetry answer fair h
event_fair laws fl event.Downlink w v answer kept fit fit_v fop farm clean fair (inl (nothing, h)) = idle_fair w v answer fair h
event_fair laws fl event.Downlink w v answer kept fit fit_v fop farm clean fair (inr h) =
    lands_fair laws fl w v h.item h.taken.0 h.left answer kept fit fit_v fop farm fair h.taken.1 h.heard
event_fair laws fl (event.LoseDown place) w v answer kept fit fit_v fop farm clean fair h = (
  subst (λ (x : Bare). IsFair x) (sym h.whole) (fair_loses w w.up v.down fair (IsSublist-same w.up) (words_of_sub v.down w.down h.lost)),
  ap (λ (l : List LinkIndication). list_all (is_fair w.level w.fop.state) l) h.answered ∙ loss_fair w.level w.fop.state h.found,
)
event_fair laws fl event.Transmit w v answer kept fit fit_v fop farm clean fair (inl (nothing, h)) = idle_fair w v answer fair h
event_fair laws fl event.Transmit w v answer kept fit fit_v fop farm clean fair (inr h) = (
  subst (λ (x : Bare). IsFair x) (sym h.whole)
      (fair_loses w v.up w.down fair (sublist_left w.up h.taken.0 h.frame v.up h.taken.1) (IsSublist-same (words_of w.down))),
  ap (λ (l : List LinkIndication). list_all (is_fair w.level w.fop.state) l) h.answered,
)
event_fair laws fl (event.Hear item) w v answer kept fit fit_v fop farm clean fair h =
    absurd (false≢true (sym (clean_is lossy lossy (event.Hear item) w v answer h) ∙ clean))

-- one event, where every start was good and K fitted
pub event_fairly : Laws → FairLaws → (given : Event) (w v : Bare) (answer : List LinkIndication) → IsKept w → IsFit w → IsFairOn w → IsFop v.fop → IsFarm v.farm
    → Happens lossy lossy given w v answer → v.clean ≡ true → v.fits ≡ true → Fairs w v answer
event_fairly laws fl given w v answer kept fit fair fop farm h clean fits =
    let was_clean = clean_before lossy lossy given w (sym (clean_is lossy lossy given w v answer h) ∙ clean) in
    let did_fit = fits_before lossy lossy given w v answer h fits in
    event_fair laws fl given w v answer kept (fit was_clean did_fit) (event_fits laws given w v answer kept fit fop farm h clean fits) fop farm clean
    (fair was_clean did_fit) h
