-- One event keeps what stands between events, and is a run of the session that is on or begins another.
use Rattle.std.proofs.Common.{◌≡◌, ℕ, ◌<◌, ◌≤◌, arith, Bool, true, false, inl, inr, Option, Some, None, Ok, List, [], ◌∷◌, ◌++◌, refl, sym, ◌∙◌, ap, subst, map}
use Rattle.std.specs.Prelude.{MatchBool, if◌then◌else◌, ◌/◌}
use Rattle.std.specs.List.{flat_map}
use Rattle.std.proofs.lemmas.Bool.{false≢true}
use Rattle.std.proofs.lemmas.List.{append-nil}
use Rattle.tc_types.specs.declared.link.frames.Frame.{Frame}
use Rattle.tc_types.specs.declared.link.reports.Report.{Report}
use Rattle.tc_types.specs.declared.link.reports.Report.TheVariants.{Word, Telemetry}
use Rattle.tc_types.specs.declared.link.reports.Telemetry.{Telemetry as Packet}
use Rattle.tc_farm.specs.declared.clcws.Clcw.{Clcw}
use Rattle.tc_farm.specs.ControlWord.{word_of}
use Rattle.tc_farm.specs.Farm.{IsFarm, released}
use Rattle.tc_types.specs.declared.link.directives.Directive.{Directive}
use Rattle.tc_fop.specs.declared.signals.Indication.TheVariants as signal
use Rattle.tc_fop.specs.Machine.{Machine, Waiting, Action, Out, after, output, option_list}
use Rattle.tc_fop.specs.Calls.{Given, offered, directed, reported, ticked, Answers, is_taking}
use Rattle.tc_fop.specs.Standing.{IsFop}
use Rattle.tc_fop.specs.Requests.{KeepsOrder, waiting_requests}
use Rattle.tc_fop.specs.Moves.{MovesIn, is_initiation, transmitted_in, transmitted_by}
use Rattle.tc_world.specs.declared.events.Event.{Event}
use Rattle.tc_world.specs.declared.events.Event.TheVariants as event
use Rattle.tc_world.specs.declared.events.LinkIndication.{LinkIndication}
use Rattle.tc_world.specs.Sublist.{IsSublist, IsSublist-same, IsSublist-behind}
use Rattle.tc_world.specs.Links.{lossy}
use Rattle.tc_world.specs.Logs.{noted, blank}
use Rattle.tc_world.specs.Session.{SessionRun, nothing_yet}
use Rattle.tc_world.specs.Abstraction.{Bare, session_of, report_value}
use Rattle.tc_world.specs.Window.{Distinct, IsPrefix, IsPrefixed, ArePrefixed, Follows}
use Rattle.tc_world.specs.Kept.{IsKept, IsSane, IsStarted, AreOwnWords}
use Rattle.tc_world.specs.Fitting.{IsFitting, half_window}
use Rattle.tc_world.specs.World.{Happens, unjudged, Carries, Begins, IsIdle, Boards, Hears, Descends, Reads, all_sent, is_good_start, clean_after}
use Rattle.tc_world.proofs.TableLaws.{Laws}
use Rattle.tc_world.proofs.Lists.{puts_lose, sublist_trans, sublist_left}
use Rattle.tc_world.proofs.WordLists.{value_of_word, own_append, own_sub, own_behind}
use Rattle.tc_world.proofs.Moving.{Moving}
use Rattle.tc_world.proofs.Stepping.{Steps, moves_on, hears_on, boards_on, releases_on, tells_on, reports_on, loses_on}
use Rattle.tc_world.proofs.Fits.{boards_open, boards_window}
use Rattle.tc_world.proofs.Newest.{same_sent, distinct_newest}
use Rattle.tc_world.proofs.Starting.{Initiating, both_true, good_start}
use Rattle.tc_world.proofs.Abstracted.{session_started, session_unstarted}
use Rattle.tc_world.proofs.Requests.{carries_distinct, offered_distinct, begins_distinct, prefixed, prefixed_push}

-- what an event gives
pub record Goes (w v : Bare) : Type 0 where
  pub kept : IsKept v
  pub follows : v.clean ≡ true → Follows w v
  pub fits : v.clean ≡ true → IsFitting w → v.fop.k ≤ half_window v → IsFitting v

-- a step keeps the session sane, for each bound that K fits into
abbrev pub StepsFor : Bare → Bare → Type 0
StepsFor w v = (bound : ℕ) → bound ≤ 255 → w.fop.k ≤ bound → IsSane bound w → Steps bound w v

-- the width of the FARM's window stays, and Lockout does not come where the session lies in half of it
pub record StaysOpen (w v : Bare) : Type 0 where
  pub window : v.farm.window ≡ w.farm.window
  pub open_farm : IsSane (half_window w) w → w.farm.lockout ≡ false → v.farm.lockout ≡ false

same_farm : (w v : Bare) → v.farm ≡ w.farm → StaysOpen w v
same_farm w v e = record { window = ap (λ f. f.window) e; open_farm = λ sane l. ap (λ f. f.lockout) e ∙ l }

half_small : (w : Bare) → IsFarm w.farm → half_window w ≤ 255
half_small w farm = omega (arith, farm.window.2)

-- the session that is on goes on; the rest is as it was
goes_on : (w v : Bare) → IsKept w → IsFop v.fop → IsFarm v.farm → v.past ≡ w.past → v.clean ≡ w.clean
    → AreOwnWords v.vc v.down → Distinct (all_sent v ++ waiting_requests v.fop) → StaysOpen w v → StepsFor w v → Goes w v
goes_on w v kept fop farm past clean words distinct stays steps_for = let steps = λ (sane : IsSane 255 w). steps_for 255 (omega arith) kept.fop.k_most sane in record {
  kept = record {
    fop = fop;
    farm = farm;
    words = words;
    distinct = distinct;
    past = λ c. subst (λ logs. ArePrefixed logs) (sym past) (kept.past (sym clean ∙ c));
    sane = λ c. (steps (kept.sane (sym clean ∙ c))).sane;
  };
  follows = λ c. inl (past, (steps (kept.sane (sym clean ∙ c))).run);
  fits = λ c old small. record {
    k = small;
    sane = subst (λ (width : ℕ). IsSane (width / 2) v) (sym stays.window) (steps_for (half_window w) (half_small w kept.farm) old.k old.sane).sane;
    open_farm = stays.open_farm old.sane old.open_farm;
  };
}

-- what was carried out, as a call of the FOP
pub answers_of : (given : Given) (m n : Machine) (actions : List Action) → given ≡ Ok actions → n ≡ after actions m
    → Answers given m n (Ok (output actions m))
answers_of given m n actions e after_is = subst (λ g. Answers g m n (Ok (output actions m))) (sym e) (after_is, refl)

up_loses : (w v : Bare) (actions : List Action) (answer : List LinkIndication) → Carries lossy actions w v answer
    → IsSublist v.up (w.up ++ (output actions w.fop).frames)
up_loses w v actions answer h =
    subst (λ l. IsSublist v.up (l ++ (output actions w.fop).frames)) h.readied
    (puts_lose lossy h.ready (output actions w.fop).frames v.up (λ before next item put. put) h.frames)

pub moving_of : (bound : ℕ) → (heard : Option Clcw) (w v : Bare) (actions : List Action) (answer : List LinkIndication) → IsFop w.fop → w.fop.k ≤ bound
    → Carries lossy actions w v answer → MovesIn w.fop.state heard w.fop v.fop (output actions w.fop)
    → Moving bound heard w v (output actions w.fop)
moving_of bound heard w v actions answer old_fop fits h moves = record {
  old_fop = old_fop;
  fits = fits;
  moves = moves;
  up = up_loses w v actions answer h;
  whole = h.whole ∙ ap (λ m. record w { fop = m; up = v.up; newest = noted (output actions w.fop) w.newest }) (sym (ap (λ x. x.fop) h.whole));
}

-- a call of the FOP without a control word
carried : (w v : Bare) (actions : List Action) (answer : List LinkIndication) (requests : List ℕ) → IsKept w → IsFop v.fop → IsFarm v.farm
    → Carries lossy actions w v answer → MovesIn w.fop.state None w.fop v.fop (output actions w.fop)
    → KeepsOrder requests w.fop v.fop (output actions w.fop) → Distinct (all_sent w ++ waiting_requests w.fop ++ requests)
    → Goes w v
carried w v actions answer requests kept fop farm h moves order fresh =
    let past : v.past ≡ w.past = ap (λ x. x.past) h.whole in
    let clean : v.clean ≡ w.clean = ap (λ x. x.clean) h.whole in
    let words : AreOwnWords v.vc v.down =
    subst (λ x. AreOwnWords x.vc x.down) (sym h.whole) kept.words in
    let distinct : Distinct (all_sent v ++ waiting_requests v.fop) =
    carries_distinct w v (output actions w.fop) requests past (ap (λ x. x.newest.sent) h.whole) order fresh in
    goes_on w v kept fop farm past clean words distinct (same_farm w v (ap (λ x. x.farm) h.whole))
    (λ bound fit wide sane. moves_on bound fit w v (output actions w.fop) (distinct_newest w (waiting_requests w.fop) kept.distinct)
    (distinct_newest v (waiting_requests v.fop) distinct) (moving_of bound None w v actions answer kept.fop wide h moves) sane)

-- nothing is offered
pub without_offer : (w : Bare) → Distinct (all_sent w ++ waiting_requests w.fop) → Distinct (all_sent w ++ waiting_requests w.fop ++ [])
without_offer w d = subst (λ l. Distinct l) (sym (append-nil (all_sent w ++ waiting_requests w.fop))) d

-- ---- the events, one by one

offers : Laws → (w v : Bare) (waiting : Waiting) (actions : List Action) (answer : List LinkIndication) → IsKept w → IsFop v.fop → IsFarm v.farm
    → offered w.fop waiting ≡ Ok actions → Distinct (all_sent w ++ waiting_requests w.fop ++ waiting.request ∷ [])
    → Carries lossy actions w v answer → Goes w v
offers laws w v waiting actions answer kept fop farm gives fresh h =
    let answers = answers_of (offered w.fop waiting) w.fop v.fop actions gives (ap (λ x. x.fop) h.whole) in
    carried w v actions answer (waiting.request ∷ []) kept fop farm h
    (laws.offers w.fop waiting v.fop (output actions w.fop) kept.fop fop answers)
    (laws.offers_order w.fop waiting v.fop (output actions w.fop) kept.fop fop answers) fresh

ticks : Laws → (w v : Bare) (actions : List Action) (answer : List LinkIndication) → IsKept w → IsFop v.fop → IsFarm v.farm
    → ticked w.fop ≡ Ok actions → Carries lossy actions w v answer → Goes w v
ticks laws w v actions answer kept fop farm gives h =
    let answers = answers_of (ticked w.fop) w.fop v.fop actions gives (ap (λ x. x.fop) h.whole) in
    carried w v actions answer [] kept fop farm h
    (laws.ticks w.fop v.fop (output actions w.fop) kept.fop fop answers)
    (laws.ticks_order w.fop v.fop (output actions w.fop) kept.fop fop answers) (without_offer w kept.distinct)

directs : Laws → (w v : Bare) (given : Directive) (actions : List Action) (answer : List LinkIndication) → IsKept w → IsFop v.fop → IsFarm v.farm
    → is_initiation given ≡ false → directed w.fop given ≡ Ok actions → Carries lossy actions w v answer → Goes w v
directs laws w v given actions answer kept fop farm other gives h =
    let answers = answers_of (directed w.fop given) w.fop v.fop actions gives (ap (λ x. x.fop) h.whole) in
    carried w v actions answer [] kept fop farm h
    (laws.directives w.fop given v.fop (output actions w.fop) other kept.fop fop answers)
    (laws.directives_order w.fop given v.fop (output actions w.fop) kept.fop fop answers) (without_offer w kept.distinct)

boards : Laws → (w v : Bare) (room : Bool) (answer : List LinkIndication) → IsKept w → IsFop v.fop → IsFarm v.farm
    → Boards lossy room w v answer → Goes w v
boards laws w v room answer kept fop farm h =
    let past : v.past ≡ w.past = ap (λ x. x.past) h.whole in
    let words : AreOwnWords v.vc v.down = subst (λ x. AreOwnWords x.vc x.down) (sym h.whole) kept.words in
    let sent : all_sent v ≡ all_sent w = same_sent w v past (ap (λ x. x.newest.sent) h.whole) in
    let distinct : Distinct (all_sent v ++ waiting_requests v.fop) =
    subst (λ l. Distinct (l ++ waiting_requests v.fop)) (sym sent)
    (subst (λ m. Distinct (all_sent w ++ waiting_requests m)) (sym (ap (λ x. x.fop) h.whole)) kept.distinct) in
    goes_on w v kept fop farm past (ap (λ x. x.clean) h.whole) words distinct
    (record {
      window = ap (λ x. x.farm.window) h.whole ∙ boards_window w.farm h.frame room;
      open_farm = λ sane l. ap (λ x. x.farm.lockout) h.whole ∙ boards_open w h.frame room h.taken.0 v.up h.taken.1 kept.farm sane l;
    })
    (λ bound fit wide sane. subst (λ x. Steps bound w x) (sym h.whole)
    (boards_on bound fit w h.frame room h.taken.0 v.up (distinct_newest w (waiting_requests w.fop) kept.distinct)
    (laws.frames w.farm h.frame room kept.farm) h.taken.1 sane))

-- something that leaves the FOP, the FARM and the sessions
flies : (w v : Bare) (up : List Frame) (down : List Report) → IsKept w → v ≡ record w { up = up; down = down }
    → AreOwnWords w.vc down → StepsFor w (record w { up = up; down = down }) → Goes w v
flies w v up down kept whole words steps =
    subst (λ x. Goes w x) (sym whole)
    (goes_on w (record w { up = up; down = down }) kept kept.fop kept.farm refl refl words kept.distinct (record { window = refl; open_farm = λ sane l. l }) steps)

tells : (w v : Bare) (clcw : Clcw) (answer : List LinkIndication) → IsKept w → clcw.vc ≡ w.vc → clcw.report ≡ w.farm.vr
    → Descends lossy (Word (word_of clcw)) w v answer → Goes w v
tells w v clcw answer kept channel value h =
    let small : clcw.report < 256 = subst (λ n. n < 256) (sym value) kept.farm.vr in
    let sub : IsSublist v.down (w.down ++ Word (word_of clcw) ∷ []) =
    subst (λ l. IsSublist v.down (l ++ Word (word_of clcw) ∷ [])) h.readied h.put in
    let words : AreOwnWords w.vc v.down =
    own_sub w.vc v.down (w.down ++ Word (word_of clcw) ∷ []) sub
    (own_append w.vc w.down (Word (word_of clcw) ∷ []) kept.words ((clcw, refl, channel, small), tt)) in
    flies w v w.up v.down kept h.whole words
    (λ bound fit wide sane. tells_on bound fit w (word_of clcw) v.down (distinct_newest w (waiting_requests w.fop) kept.distinct)
    (value_of_word clcw small ∙ value) sub sane)

reports : (w v : Bare) (telemetry : Packet) (answer : List LinkIndication) → IsKept w → Descends lossy (Telemetry telemetry) w v answer → Goes w v
reports w v telemetry answer kept h =
    let sub : IsSublist v.down (w.down ++ Telemetry telemetry ∷ []) =
    subst (λ l. IsSublist v.down (l ++ Telemetry telemetry ∷ [])) h.readied h.put in
    let words : AreOwnWords w.vc v.down =
    own_sub w.vc v.down (w.down ++ Telemetry telemetry ∷ []) sub
    (own_append w.vc w.down (Telemetry telemetry ∷ []) kept.words tt) in
    flies w v w.up v.down kept h.whole words
    (λ bound fit wide sane. reports_on bound fit w telemetry v.down (distinct_newest w (waiting_requests w.fop) kept.distinct) sub sane)

loses : (w v : Bare) (up : List Frame) (down : List Report) → IsKept w → v ≡ record w { up = up; down = down }
    → IsSublist up w.up → IsSublist down w.down → Goes w v
loses w v up down kept whole sub_up sub_down =
    flies w v up down kept whole (own_sub w.vc down w.down sub_down kept.words)
    (λ bound fit wide sane. loses_on bound fit w up down (distinct_newest w (waiting_requests w.fop) kept.distinct) sub_up sub_down sane)

-- nothing happened
idles : (w v : Bare) (answer : List LinkIndication) → IsKept w → IsIdle lossy lossy w v answer → Goes w v
idles w v answer kept h =
    loses w v v.up v.down kept h.same.rest
    (subst (λ l. IsSublist l w.up) (sym h.same.up) (IsSublist-same w.up))
    (subst (λ l. IsSublist l w.down) (sym h.same.down) (IsSublist-same w.down))

releases : (w v : Bare) → IsKept w → IsFarm v.farm → v ≡ record w { farm = released w.farm } → Goes w v
releases w v kept farm whole =
    subst (λ x. Goes w x) (sym whole)
    (goes_on w (record w { farm = released w.farm }) kept kept.fop (subst (λ x. IsFarm x) (ap (λ x. x.farm) whole) farm) refl refl
    kept.words kept.distinct (record { window = refl; open_farm = λ sane l. l })
    (λ bound fit wide sane. releases_on bound fit w (distinct_newest w (waiting_requests w.fop) kept.distinct) sane))

-- a control word of the FARM's came down
hears : Laws → (w v : Bare) (word : ℕ) (lost left : List Report) (heard : Option Clcw) (actions : List Action) (answer : List LinkIndication)
    → IsKept w → IsFop v.fop → IsFarm v.farm → w.down ≡ lost ++ Word word ∷ left → Reads word w.vc heard
    → reported w.fop heard ≡ Ok actions → Carries lossy actions (record w { down = left }) v answer → Goes w v
hears laws w v word lost left heard actions answer kept fop farm down reads gives h =
    let own : AreOwnWords w.vc (Word word ∷ left) =
    own_behind w.vc lost (Word word ∷ left) (subst (λ l. AreOwnWords w.vc l) down kept.words) in
    let clcw : Clcw = own.0.0 in
    let written : word ≡ word_of clcw = own.0.1 in
    let small : clcw.report < 256 = own.0.3 in
    let is : heard ≡ Some clcw = reads.again clcw small written (sym own.0.2) in
    let before : Bare = record w { down = left } in
    let answers = answers_of (reported w.fop heard) w.fop v.fop actions gives (ap (λ x. x.fop) h.whole) in
    let moves : MovesIn w.fop.state (Some clcw) w.fop v.fop (output actions w.fop) =
    subst (λ o. MovesIn w.fop.state o w.fop v.fop (output actions w.fop)) is
    (laws.words w.fop heard v.fop (output actions w.fop) kept.fop fop answers) in
    let order = laws.words_order w.fop heard v.fop (output actions w.fop) kept.fop fop answers in
    let past : v.past ≡ w.past = ap (λ x. x.past) h.whole in
    let words : AreOwnWords v.vc v.down = subst (λ x. AreOwnWords x.vc x.down) (sym h.whole) own.1 in
    let distinct : Distinct (all_sent v ++ waiting_requests v.fop) =
    carries_distinct w v (output actions w.fop) [] past (ap (λ x. x.newest.sent) h.whole) order (without_offer w kept.distinct) in
    goes_on w v kept fop farm past (ap (λ x. x.clean) h.whole) words distinct (same_farm w v (ap (λ x. x.farm) h.whole))
    (λ bound fit wide sane. hears_on bound fit w v (output actions w.fop) word clcw lost left (distinct_newest w (waiting_requests w.fop) kept.distinct)
    (distinct_newest v (waiting_requests v.fop) distinct) small (ap (λ n. report_value n) written ∙ value_of_word clcw small) down
    (moving_of bound (Some clcw) before v actions answer kept.fop wide h moves) sane)

-- a report of the spacecraft came down
receives : (w v : Bare) (telemetry : Packet) (lost left : List Report) → IsKept w
    → w.down ≡ lost ++ Telemetry telemetry ∷ left → v ≡ record w { down = left } → Goes w v
receives w v telemetry lost left kept down whole =
    loses w v w.up left kept whole (IsSublist-same w.up)
    (subst (λ l. IsSublist left l) (sym down)
    (sublist_trans left (Telemetry telemetry ∷ left) (lost ++ Telemetry telemetry ∷ left) (inl (IsSublist-same left))
    (IsSublist-behind lost (Telemetry telemetry ∷ left))))

lands : Laws → (w v : Bare) (item : Report) (lost left : List Report) (answer : List LinkIndication) → IsKept w → IsFop v.fop → IsFarm v.farm
    → w.down ≡ lost ++ item ∷ left → Hears lossy item (record w { down = left }) v answer → Goes w v
lands laws w v (Word word) lost left answer kept fop farm down (heard, actions, rest, reads, gives, h, answered) =
    hears laws w v word lost left heard actions rest kept fop farm down reads gives h
lands laws w v (Telemetry telemetry) lost left answer kept fop farm down (readied, whole, answered) =
    receives w v telemetry lost left kept down
    (whole ∙ ap (λ up. record w { up = up; down = left }) readied)

-- nothing is known of the starts any more
unclean : (w v : Bare) → IsFop v.fop → IsFarm v.farm → v.clean ≡ false → AreOwnWords v.vc v.down → Distinct (all_sent v ++ waiting_requests v.fop) → Goes w v
unclean w v fop farm none words distinct = record {
  kept = record {
    fop = fop;
    farm = farm;
    words = words;
    distinct = distinct;
    past = λ c. absurd (false≢true (sym none ∙ c));
    sane = λ c. absurd (false≢true (sym none ∙ c));
  };
  follows = λ c. absurd (false≢true (sym none ∙ c));
  fits = λ c old small. absurd (false≢true (sym none ∙ c));
}

-- something from outside was heard
hears_outside : Laws → (w v : Bare) (item : Report) (answer : List LinkIndication) → IsKept w → IsFop v.fop → IsFarm v.farm
    → Hears lossy item (record w { clean = false }) v answer → Goes w v
hears_outside laws w v (Word word) answer kept fop farm (heard, actions, rest, reads, gives, h, answered) =
    let answers = answers_of (reported w.fop heard) w.fop v.fop actions gives (ap (λ x. x.fop) h.whole) in
    let order = laws.words_order w.fop heard v.fop (output actions w.fop) kept.fop fop answers in
    unclean w v fop farm (ap (λ x. x.clean) h.whole) (subst (λ x. AreOwnWords x.vc x.down) (sym h.whole) kept.words)
    (carries_distinct w v (output actions w.fop) [] (ap (λ x. x.past) h.whole) (ap (λ x. x.newest.sent) h.whole) order (without_offer w kept.distinct))
hears_outside laws w v (Telemetry telemetry) answer kept fop farm (readied, whole, answered) =
    unclean w v fop farm (ap (λ x. x.clean) whole) (subst (λ x. AreOwnWords x.vc x.down) (sym whole) kept.words)
    (subst (λ (x : Bare). Distinct (all_sent x ++ waiting_requests x.fop)) (sym whole) kept.distinct)

-- the session that was on is prefixed
pub newest_prefixed : (w : Bare) → IsSane 255 w → IsPrefixed w.newest
newest_prefixed w (inl (started, kept)) = record {
  accepted = subst (λ l. IsPrefix l w.newest.sent) (sym kept.accepted) refl;
  confirmed = subst (λ l. IsPrefix l w.newest.accepted) (sym kept.confirmed) refl;
}
newest_prefixed w (inr (ns, rs, started, kept)) = prefixed w.newest ns rs kept.window

-- an initiation tells of no transmission
none_sent : (out : Out) (begun : Bool) → out.indications ≡ (if begun then signal.Started ∷ [] else []) → transmitted_in out ≡ []
none_sent out true e = ap (λ is. flat_map transmitted_by is) e
none_sent out false e = ap (λ is. flat_map transmitted_by is) e

good_goes : (bound : ℕ) → bound ≤ 255 → (given : Directive) (w v : Bare) (out : Out) → Distinct v.newest.sent → Initiating given w v out
    → is_good_start lossy lossy given w ≡ true → IsSane bound v × SessionRun bound nothing_yet (session_of v)
good_goes bound fit given w v out distinct initiating good = elim (good_start bound fit given w v out initiating good) [
  | inl begun ↦ (inl begun, ([], session_unstarted v begun.0 begun.1))
  | inr begun ↦ (inr ([], [], begun.0, begun.1), ([], session_started bound v [] [] begun.0 distinct begun.1 ∙ begun.2))
]

-- an initiation: the session that was on has ended, and another begins
begins : Laws → (w v : Bare) (given : Directive) (actions : List Action) (answer : List LinkIndication) → IsKept w → IsFop v.fop → IsFarm v.farm
    → is_initiation given ≡ true → directed w.fop given ≡ Ok actions → Begins lossy lossy given actions w v answer → Goes w v
begins laws w v given actions answer kept fop farm initiation gives h =
    let out : Out = output actions w.fop in
    let fop_is : v.fop ≡ after actions w.fop = ap (λ x. x.fop) h.whole in
    let law = laws.initiations w.fop given v.fop out initiation kept.fop fop
    (answers_of (directed w.fop given) w.fop v.fop actions gives fop_is) in
    let past : v.past ≡ w.past ++ w.newest ∷ [] = ap (λ x. x.past) h.whole in
    let clean : v.clean ≡ clean_after lossy lossy given w = ap (λ x. x.clean) h.whole in
    let sent : v.newest.sent ≡ [] = ap (λ x. x.newest.sent) h.whole ∙ none_sent out (is_taking v.fop.state) law.indications in
    let distinct : Distinct (all_sent v ++ waiting_requests v.fop) =
    begins_distinct w v past sent (ap (λ o. map (λ (waiting : Waiting). waiting.request) (option_list o)) law.waiting) kept.distinct in
    let initiating : Initiating given w v out = record {
      initiation = initiation;
      new_fop = fop;
      begins = law;
      up = subst (λ l. IsSublist v.up (l ++ out.frames)) h.readied
          (puts_lose lossy h.ready out.frames v.up (λ before next item put. put) h.frames);
      whole = h.whole
          ∙ ap (λ m. record w { fop = m; up = v.up; past = w.past ++ w.newest ∷ []; newest = noted out (blank m.vs); clean = clean_after lossy lossy given w }) (sym fop_is)
          ∙ ap (λ c. record w { fop = v.fop; up = v.up; past = w.past ++ w.newest ∷ []; newest = noted out (blank v.fop.vs); clean = c }) (sym clean);
    } in
    let good : (bound : ℕ) → bound ≤ 255 → v.clean ≡ true → IsSane bound v × SessionRun bound nothing_yet (session_of v) =
    λ bound fit c. good_goes bound fit given w v out (distinct_newest v (waiting_requests v.fop) distinct) initiating
    (both_true w.clean (is_good_start lossy lossy given w) (sym clean ∙ c)).1 in
    record {
      kept = record {
        fop = fop;
        farm = farm;
        words = subst (λ x. AreOwnWords x.vc x.down) (sym h.whole) kept.words;
        distinct = distinct;
        past = λ c.
            let was : w.clean ≡ true = (both_true w.clean (is_good_start lossy lossy given w) (sym clean ∙ c)).0 in
            subst (λ logs. ArePrefixed logs) (sym past) (prefixed_push w.past w.newest (kept.past was) (newest_prefixed w (kept.sane was)));
        sane = λ c. (good 255 (omega arith) c).0;
      };
      follows = λ c. inr (past, (good 255 (omega arith) c).1);
      fits = λ c old small. record {
        k = small;
        sane = (good (half_window v) (half_small v farm) c).0;
        open_farm = ap (λ x. x.farm.lockout) h.whole ∙ old.open_farm;
      };
    }

event_goes_directive : Laws → (w v : Bare) (given : Directive) (actions : List Action) (answer : List LinkIndication) (initiation : Bool)
    → IsKept w → IsFop v.fop → IsFarm v.farm → is_initiation given ≡ initiation → directed w.fop given ≡ Ok actions
    → MatchBool initiation (Begins lossy lossy given actions w v answer) (Carries lossy actions w v answer) → Goes w v
event_goes_directive laws w v given actions answer true kept fop farm is gives h = begins laws w v given actions answer kept fop farm is gives h
event_goes_directive laws w v given actions answer false kept fop farm is gives h = directs laws w v given actions answer kept fop farm is gives h

-- what is known of widths and starts has no part in it
started_judged : (bound : ℕ) (v : Bare) (fits level : Bool) (ns rs : List ℕ) → IsStarted bound (record v { fits = fits; level = level }) ns rs → IsStarted bound v ns rs
started_judged bound v fits level ns rs h = record {
  base = h.base;
  window = h.window;
  frames = h.frames;
  leftover = h.leftover;
  words = h.words;
  vr = h.vr;
  fop = h.fop;
}

pub sane_judged : (bound : ℕ) (v : Bare) (fits level : Bool) → IsSane bound (record v { fits = fits; level = level }) → IsSane bound v
sane_judged bound v fits level (inl (started, h)) = inl (
  started,
  record {
    base = h.base;
    sent = h.sent;
    accepted = h.accepted;
    confirmed = h.confirmed;
    up = h.up;
    down = h.down;
    fop = h.fop;
  },
)
sane_judged bound v fits level (inr (ns, rs, started, h)) = inr (ns, rs, started, started_judged bound v fits level ns rs h)

goes_judged : (w v : Bare) → Goes w (unjudged w v) → Goes w v
goes_judged w v h = record {
  kept = record {
    fop = h.kept.fop;
    farm = h.kept.farm;
    words = h.kept.words;
    distinct = h.kept.distinct;
    past = h.kept.past;
    sane = λ clean. sane_judged 255 v w.fits w.level (h.kept.sane clean);
  };
  follows = h.follows;
  fits = λ clean old small.
      let new = h.fits clean old small in
      record { k = new.k; sane = sane_judged (half_window v) v w.fits w.level new.sane; open_farm = new.open_farm };
}

-- one event
pub event_goes : Laws → (given : Event) (w v : Bare) (answer : List LinkIndication) → IsKept w → IsFop v.fop → IsFarm v.farm
    → Happens lossy lossy given w v answer → Goes w v
event_goes laws (event.Offer request body) w v answer kept fop farm (actions, unknown, gives, h) =
    offers laws w v (record { request = request; body = body }) actions answer kept fop farm gives
    (offered_distinct w request unknown kept.distinct) h
event_goes laws (event.Directive given) w v answer kept fop farm (actions, gives, h, fits, level) =
    goes_judged w v
    (event_goes_directive laws w (unjudged w v) given actions answer (is_initiation given) kept fop farm refl gives h)
event_goes laws event.Tick w v answer kept fop farm (actions, gives, h) = ticks laws w v actions answer kept fop farm gives h
event_goes laws (event.Uplink room) w v answer kept fop farm (inl (nothing, h)) = idles w v answer kept h
event_goes laws (event.Uplink room) w v answer kept fop farm (inr h) = boards laws w v room answer kept fop farm h
event_goes laws (event.LoseUp place) w v answer kept fop farm h = loses w v v.up w.down kept h.whole h.lost (IsSublist-same w.down)
event_goes laws event.Release w v answer kept fop farm (whole, answered) = releases w v kept farm whole
event_goes laws event.Clcw w v answer kept fop farm (clcw, told, h) = tells w v clcw answer kept told.channel told.report_value h
event_goes laws (event.Put telemetry) w v answer kept fop farm h = reports w v telemetry answer kept h
event_goes laws event.Downlink w v answer kept fop farm (inl (nothing, h)) = idles w v answer kept h
event_goes laws event.Downlink w v answer kept fop farm (inr h) =
    lands laws w v h.item h.taken.0 h.left answer kept fop farm h.taken.1 h.heard
event_goes laws (event.LoseDown place) w v answer kept fop farm h = loses w v w.up v.down kept h.whole (IsSublist-same w.up) h.lost
event_goes laws event.Transmit w v answer kept fop farm (inl (nothing, h)) = idles w v answer kept h
event_goes laws event.Transmit w v answer kept fop farm (inr h) =
    loses w v v.up w.down kept h.whole (sublist_left w.up h.taken.0 h.frame v.up h.taken.1) (IsSublist-same w.down)
event_goes laws (event.Hear item) w v answer kept fop farm h = hears_outside laws w v item answer kept fop farm h
