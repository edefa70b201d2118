-- The session that a world stands for, as a function of the world.
use Rattle.std.proofs.Common.{◌≡◌, ℕ, zero, suc, ◌+◌, ◌%◌, ◌≤◌, ◌==◌, Bool, true, false, if◌then◌else◌, Some, List, [], ◌∷◌, length, slice_get, sym, ◌∙◌, ap, subst, arith}
use Rattle.std.specs.List.{list_any}
use Rattle.std.proofs.lemmas.Bool.{or_parts}
use Rattle.tc_types.specs.declared.link.frames.Frame.{Frame}
use Rattle.tc_types.specs.declared.link.frames.Frame.TheVariants.{Ad, Unlock, SetVr}
use Rattle.tc_types.specs.declared.link.reports.Report.{Report}
use Rattle.tc_types.specs.declared.link.reports.Report.TheVariants.{Word, Telemetry}
use Rattle.tc_farm.specs.Farm.{distance}
use Rattle.tc_world.specs.Session.{Session, nothing_yet}
use Rattle.tc_world.specs.Abstraction.{Bare, session_of, session_with, position_of, positions_in, values_in, report_value}
use Rattle.tc_world.specs.Window.{Distinct}
use Rattle.tc_world.specs.Kept.{IsStarted, IsUnstarted, AreFrames, AreWords, Each}
use Rattle.tc_world.proofs.Lists.{each_map}

-- what no item meets is not met by the one at a place
none_at : (test : ℕ → Bool) (xs : List ℕ) (n x : ℕ) → list_any test xs ≡ false → slice_get xs n ≡ Some x
    → test x ≡ false
none_at test [] n x none stands = cc
none_at test (first ∷ others) zero x none stands =
    let same : first ≡ x = cc in
    subst (λ (y : ℕ). test y ≡ false) same (or_parts (test first) (list_any test others) none).0
none_at test (first ∷ others) (suc n) x none stands =
    none_at test others n x (or_parts (test first) (list_any test others) none).1 stands

-- a list of numbers of which none stands twice has each at one place
pub position_at : (sent : List ℕ) (n request : ℕ) → Distinct sent → slice_get sent n ≡ Some request
    → position_of request sent ≡ n
position_at [] n request distinct stands = cc
position_at (first ∷ others) zero request distinct stands =
    let same : first ≡ request = cc in
    let met : (first == request) ≡ true = grind arith in
    ap (λ (b : Bool). if b then 0 else position_of request others + 1) met
position_at (first ∷ others) (suc n) request distinct stands =
    let other : (request == first) ≡ false = none_at (λ (x : ℕ). x == first) others n request distinct.0 stands in
    let unmet : (first == request) ≡ false = grind arith in
    let rest : position_of request others ≡ n = position_at others n request distinct.1 stands in
    ap (λ (b : Bool). if b then 0 else position_of request others + 1) unmet ∙ omega (arith, rest)

-- the positions for which frames fly are those where their requests stand
pub positions_are : (base : ℕ) (sent : List ℕ) (fs : List Frame) (ns : List ℕ) → AreFrames base sent fs ns
    → Distinct sent
    → positions_in sent fs ≡ ns
positions_are base sent [] ns frames distinct = sym frames
positions_are base sent (Ad number request body ∷ fs) ns frames distinct =
    let n = frames.0 in
    let others = frames.1 in
    let first : position_of request sent ≡ n = position_at sent n request distinct frames.4 in
    let rest : positions_in sent fs ≡ others = positions_are base sent fs others frames.5 distinct in
    ap (λ (x : ℕ). x ∷ positions_in sent fs) first ∙ ap (λ (l : List ℕ). n ∷ l) rest ∙ sym frames.2
positions_are base sent (Unlock ∷ fs) ns frames distinct = positions_are base sent fs ns frames distinct
positions_are base sent (SetVr v ∷ fs) ns frames distinct = positions_are base sent fs ns frames distinct

-- a number among 256 in a row is told by its value modulo 256
value_at : (base confirmed value r : ℕ) → value ≡ (base + r) % 256 → confirmed ≤ r → r ≤ confirmed + 255
    → confirmed + distance value ((base + confirmed) % 256) ≡ r
value_at base confirmed value r e low high = omega (arith, e, low, high)

-- words that fly for reports among 256 in a row fly for the ones that their values tell
pub values_are : (base confirmed : ℕ) (ds : List Report) (rs : List ℕ) → AreWords base ds rs
    → Each (λ (r : ℕ). confirmed ≤ r) rs → Each (λ (r : ℕ). r ≤ confirmed + 255) rs → values_in base confirmed ds ≡ rs
values_are base confirmed [] rs words low high = sym words
values_are base confirmed (Word word ∷ ds) rs words low high =
    let r = words.0 in
    let others = words.1 in
    let lows : Each (λ (q : ℕ). confirmed ≤ q) (r ∷ others) = subst (Each (λ (q : ℕ). confirmed ≤ q)) words.2 low in
    let highs : Each (λ (q : ℕ). q ≤ confirmed + 255) (r ∷ others) =
    subst (Each (λ (q : ℕ). q ≤ confirmed + 255)) words.2 high in
    let first = value_at base confirmed (report_value word) r words.3 lows.0 highs.0 in
    let rest : values_in base confirmed ds ≡ others = values_are base confirmed ds others words.4 lows.1 highs.1 in
    ap (λ (x : ℕ). x ∷ values_in base confirmed ds) first ∙ ap (λ (l : List ℕ). r ∷ l) rest ∙ sym words.2
values_are base confirmed (Telemetry telemetry ∷ ds) rs words low high = values_are base confirmed ds rs words low high

-- a session that has started
pub session_started : (bound : ℕ) → (w : Bare) (ns rs : List ℕ) → w.newest.started ≡ true → Distinct w.newest.sent → IsStarted bound w ns rs
    → session_of w ≡ session_with w.newest ns rs
session_started bound w ns rs started distinct kept =
    let log = w.newest in
    let window = kept.window in
    let confirmed = length log.confirmed in
    let ups = positions_in log.sent w.up in
    let downs = values_in log.base confirmed w.down in
    let highs : Each (λ (r : ℕ). r ≤ confirmed + 255) rs = each_map
    (λ (r : ℕ). r ≤ length log.accepted)
    (λ (r : ℕ). r ≤ confirmed + 255) rs
    (λ r high. omega (arith, high, window.accepted_few, window.sent_few, window.small)) window.down_high in
    let up : ups ≡ ns = positions_are log.base log.sent w.up ns kept.frames distinct in
    let down : downs ≡ rs = values_are log.base confirmed w.down rs kept.words window.down_low highs in
    ap (λ (b : Bool). session_with log (if b then ups else []) (if b then downs else [])) started
    ∙ ap (λ (l : List ℕ). session_with log l downs) up
    ∙ ap (λ (l : List ℕ). session_with log ns l) down

-- a session of empty lists
nothing_of : (s : Session) → s.sent ≡ [] → s.accepted ≡ [] → s.confirmed ≡ [] → s.up ≡ [] → s.down ≡ []
    → s ≡ nothing_yet
nothing_of s sent accepted confirmed up down =
    ap (λ (x : List ℕ). record s { sent = x }) sent
    ∙ ap (λ (x : List ℕ). record s { sent = []; accepted = x }) accepted
    ∙ ap (λ (x : List ℕ). record s { sent = []; accepted = []; confirmed = x }) confirmed
    ∙ ap (λ (x : List ℕ). record s { sent = []; accepted = []; confirmed = []; up = x }) up
    ∙ ap (λ (x : List ℕ). record s { sent = []; accepted = []; confirmed = []; up = []; down = x }) down

-- a session that has not
pub session_unstarted : (w : Bare) → w.newest.started ≡ false → IsUnstarted w → session_of w ≡ nothing_yet
session_unstarted w started kept =
    let log = w.newest in
    let ups = positions_in log.sent w.up in
    let downs = values_in log.base (length log.confirmed) w.down in
    nothing_of (session_of w) kept.sent kept.accepted kept.confirmed
    (ap (λ (b : Bool). if b then ups else []) started)
    (ap (λ (b : Bool). if b then downs else []) started)
