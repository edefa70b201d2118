-- What source data tell: a report's tell that report, and none other.
use Rattle.std.proofs.Common.{◌≡◌, ℕ, ℤ, pos, negsuc, suc, ◌+◌, ◌*◌, ◌/◌, ◌%◌, ◌^◌, Bool, true, false, List, [], ◌∷◌, ◌++◌, take, drop, map, length}
use Rattle.std.proofs.Common.{get_or, Option, Some, None, refl, sym, ap, ◌∙◌, subst, arith}
use Rattle.std.specs.Prelude.{◌==◌, if◌then◌else◌, All, ◌≤ℤ◌}
use Rattle.std.specs.List.{cons_option, filter_map, flat_map}
use Rattle.std.proofs.lemmas.List.{append_assoc, append-nil, length-map, take_at, drop_at}
use Rattle.std.proofs.lemmas.Int.{ints}
use Rattle.std.proofs.lemmas.Bool.Decides.{nat_tests}
use Rattle.tc_types.specs.LinkLines.{verification_subtype}
use Rattle.tc_types.specs.declared.requests.Identity.{Identity}
use Rattle.tc_types.specs.declared.link.reports.Verification.{Verification}
use Rattle.tc_types.specs.declared.link.reports.Verification.TheVariants as verification
use Rattle.tc_octets.specs.declared.profiles.Profile.{Profile}
use Rattle.tc_packets.specs.OctetFields.{quad}
use Rattle.tc_packets.specs.Times.{HasTime, IsTime, fraction, seconds_since, time_length, time_of}
use Rattle.tc_packets.specs.Identities.{name_of, request_id_of}
use Rattle.tc_packets.specs.declared.identities.ActivityName.{ActivityName}
use Rattle.tc_packets.specs.Reports.{IsListed, IsReportable, activity_octets, details_of, service_of, source_data, status_of, subtype_of}
use Rattle.tc_packets.specs.ReportReaders.{AreEntries, Entry, HasDetails, IsEntry, Summarizes, Tells, entry_length, our_activity}
use Rattle.tc_packets.specs.declared.told.ScheduledActivity.{ScheduledActivity}
use Rattle.tc_packets.specs.declared.told.ScheduleSummary.{ScheduleSummary}
use Rattle.tc_packets.specs.declared.told.Told.{Told}
use Rattle.tc_packets.specs.declared.told.Told.TheVariants as told
use Rattle.tc_packets.proofs.EntryLemmas.{same_rest}
use Rattle.tc_packets.proofs.ReportLemmas.{activity_size, fraction_size}

-- ---- numbers in octets

pub pair_same : (n m : ℕ) → n / 256 ≡ m / 256 → n % 256 ≡ m % 256 → n ≡ m
pair_same n m h k = omega arith

pub quad_same : (v w : ℕ) → quad v ≡ quad w → v ≡ w
quad_same v w e =
    let high = pair_same (v / 2 ^ 16) (w / 2 ^ 16) (ap (λ (l : List ℕ). get_or l 0 0) e) (ap (λ (l : List ℕ). get_or l 1 0) e) in
    let low = pair_same (v % 2 ^ 16) (w % 2 ^ 16) (ap (λ (l : List ℕ). get_or l 2 0) e) (ap (λ (l : List ℕ). get_or l 3 0) e) in
    omega arith

-- ---- times

pub time_size : (profile : Profile) (moment : ℕ) → length (time_of profile moment) ≡ time_length profile
time_size profile moment = omega (arith, fraction_size profile.fine [], ap length (append-nil (fraction profile.fine)))

pub time_there : (profile : Profile) (moment : ℕ) → HasTime profile.epoch moment → IsTime profile (time_of profile moment) moment
time_there profile moment has = (has, record { size = time_size profile moment; whole = refl })

pub seconds_same : (epoch : ℤ) (a b : ℕ) → epoch ≤ℤ pos a → epoch ≤ℤ pos b → seconds_since epoch a ≡ seconds_since epoch b → a ≡ b
seconds_same (pos epoch) a b h k e = omega (arith, ints)
seconds_same (negsuc before) a b h k e = omega arith

pub time_same : (profile : Profile) (octets : List ℕ) (a b : ℕ) → IsTime profile octets a → IsTime profile octets b → a ≡ b
time_same profile octets a b is_a is_b =
    seconds_same profile.epoch a b is_a.0.begun is_b.0.begun
    (quad_same (seconds_since profile.epoch a) (seconds_since profile.epoch b) (sym is_a.1.whole ∙ is_b.1.whole))

-- ---- names and request ids

pub identity_same : (a b : Identity) → a.apid ≡ b.apid → a.count ≡ b.count → a ≡ b
identity_same a b apid count =
    ap (λ (n : ℕ). let i : Identity = record { apid = n; count = a.count } in i) apid
    ∙ ap (λ (n : ℕ). let i : Identity = record { apid = b.apid; count = n } in i) count

pub name_same : (a b : ActivityName) → name_of a ≡ name_of b → a ≡ b
name_same a b e =
    let source = pair_same a.source b.source (ap (λ (l : List ℕ). get_or l 0 0) e) (ap (λ (l : List ℕ). get_or l 1 0) e) in
    let apid = pair_same a.identity.apid b.identity.apid (ap (λ (l : List ℕ). get_or l 2 0) e) (ap (λ (l : List ℕ). get_or l 3 0) e) in
    let count = pair_same a.identity.count b.identity.count (ap (λ (l : List ℕ). get_or l 4 0) e) (ap (λ (l : List ℕ). get_or l 5 0) e) in
    let identity = identity_same a.identity b.identity apid count in
    ap (λ (n : ℕ). let i : ActivityName = record { source = n; identity = a.identity } in i) source
    ∙ ap (λ (n : Identity). let i : ActivityName = record { source = b.source; identity = n } in i) identity

pub request_same : (a b : Identity) → request_id_of a ≡ request_id_of b → a ≡ b
request_same a b e =
    let apid =
    pair_same (1 * 2 ^ 12 + 1 * 2 ^ 11 + a.apid) (1 * 2 ^ 12 + 1 * 2 ^ 11 + b.apid) (ap (λ (l : List ℕ). get_or l 0 0) e)
    (ap (λ (l : List ℕ). get_or l 1 0) e) in
    let count = pair_same (3 * 2 ^ 14 + a.count) (3 * 2 ^ 14 + b.count) (ap (λ (l : List ℕ). get_or l 2 0) e) (ap (λ (l : List ℕ). get_or l 3 0) e) in
    identity_same a b (omega arith) (omega arith)

-- ---- verifications

pub details_there : (v : Verification) → HasDetails (details_of v) v
details_there verification.Accepted = refl
details_there (verification.AcceptanceFailed code) = refl
details_there verification.Started = refl
details_there (verification.StartFailed code) = refl
details_there (verification.StepDone step) = refl
details_there (verification.StepFailed step code) = refl
details_there verification.Completed = refl
details_there (verification.CompletionFailed code) = refl

first_same : (a b : ℕ) → a ∷ [] ≡ b ∷ [] → a ≡ b
first_same a b e = ap (λ (l : List ℕ). get_or l 0 0) e

second_same : (a b c d : ℕ) → a ∷ c ∷ [] ≡ b ∷ d ∷ [] → c ≡ d
second_same a b c d e = ap (λ (l : List ℕ). get_or l 1 0) e

pub details_same : (octets : List ℕ) (a b : Verification) → verification_subtype a ≡ verification_subtype b → HasDetails octets a
    → HasDetails octets b → a ≡ b
details_same octets verification.Accepted verification.Accepted same x y = refl
details_same octets verification.Accepted b same x y = absurd (omega arith)
details_same octets (verification.AcceptanceFailed code) (verification.AcceptanceFailed other) same x y =
    ap (λ n. verification.AcceptanceFailed n) (first_same code other (sym x ∙ y))
details_same octets (verification.AcceptanceFailed code) b same x y = absurd (omega arith)
details_same octets verification.Started verification.Started same x y = refl
details_same octets verification.Started b same x y = absurd (omega arith)
details_same octets (verification.StartFailed code) (verification.StartFailed other) same x y =
    ap (λ n. verification.StartFailed n) (first_same code other (sym x ∙ y))
details_same octets (verification.StartFailed code) b same x y = absurd (omega arith)
details_same octets (verification.StepDone step) (verification.StepDone other) same x y =
    ap (λ n. verification.StepDone n) (first_same step other (sym x ∙ y))
details_same octets (verification.StepDone step) b same x y = absurd (omega arith)
details_same octets (verification.StepFailed step code) (verification.StepFailed step' code') same x y =
    ap (λ n. verification.StepFailed n code) (ap (λ (l : List ℕ). get_or l 0 0) (sym x ∙ y))
    ∙ ap (λ n. verification.StepFailed step' n) (second_same step step' code code' (sym x ∙ y))
details_same octets (verification.StepFailed step code) b same x y = absurd (omega arith)
details_same octets verification.Completed verification.Completed same x y = refl
details_same octets verification.Completed b same x y = absurd (omega arith)
details_same octets (verification.CompletionFailed code) (verification.CompletionFailed other) same x y =
    ap (λ n. verification.CompletionFailed n) (first_same code other (sym x ∙ y))
details_same octets (verification.CompletionFailed code) b same x y = absurd (omega arith)

-- ---- summaries

-- an activity of our source as an entry
abbrev entry_of : Profile → ScheduledActivity → Entry
entry_of profile activity = record { time = activity.time; name = record { source = profile.source; identity = activity.identity } }

entry_there : (profile : Profile) (activity : ScheduledActivity) → IsListed profile activity
    → IsEntry profile (activity_octets profile activity) (entry_of profile activity)
entry_there profile activity listed =
    let name : List ℕ = name_of (record { source = profile.source; identity = activity.identity }) in
    let time : take (time_length profile) (activity_octets profile activity) ≡ time_of profile activity.time =
    take_at (time_of profile activity.time) name (time_length profile) (time_size profile activity.time) in
    record {
      time = subst (λ (l : List ℕ). IsTime profile l activity.time) (sym time) (time_there profile activity.time listed.time);
      flies = listed.identity;
      name = drop_at (time_of profile activity.time) name (time_length profile) (time_size profile activity.time);
    }

entry_long : (profile : Profile) (activity : ScheduledActivity) → length (activity_octets profile activity) ≡ entry_length profile
entry_long profile activity = omega (arith, activity_size profile activity)

-- activities one after another are their entries
entries_there : (profile : Profile) (activities : List ScheduledActivity) (rest : List ℕ) → All (IsListed profile) activities
    → AreEntries profile (flat_map (activity_octets profile) activities ++ rest) (map (entry_of profile) activities) rest
entries_there profile [] rest all = refl
entries_there profile (activity ∷ activities) rest all =
    let first : List ℕ = activity_octets profile activity in
    let others : List ℕ = flat_map (activity_octets profile) activities in
    let joined : (first ++ others) ++ rest ≡ first ++ (others ++ rest) = append_assoc first others rest in
    let front : take (entry_length profile) ((first ++ others) ++ rest) ≡ first =
    ap (take (entry_length profile)) joined ∙ take_at first (others ++ rest) (entry_length profile) (entry_long profile activity) in
    let back : drop (entry_length profile) ((first ++ others) ++ rest) ≡ others ++ rest =
    ap (drop (entry_length profile)) joined ∙ drop_at first (others ++ rest) (entry_length profile) (entry_long profile activity) in (
      subst (λ (l : List ℕ). IsEntry profile l (entry_of profile activity)) (sym front) (entry_there profile activity (all 0 activity (omega arith))),
      subst (λ (l : List ℕ). AreEntries profile l (map (entry_of profile) activities) rest) (sym back)
          (entries_there profile activities rest (λ k d h. all (suc k) d (omega arith))),
    )

same_number : (n : ℕ) → (n == n) ≡ true
same_number n = grind (arith, nat_tests)

-- what a list has with one activity more, if that is ours
abbrev cond_more : Bool → ScheduledActivity → List ScheduledActivity → List ScheduledActivity
cond_more ours activity activities = cons_option (if ours then Some activity else None) activities

-- all of them are ours
ours_there : (profile : Profile) (activities : List ScheduledActivity)
    → activities ≡ filter_map (our_activity profile.source) (map (entry_of profile) activities)
ours_there profile [] = refl
ours_there profile (activity ∷ activities) =
    ap (λ l. activity ∷ l) (ours_there profile activities)
    ∙ sym
    (ap (λ (b : Bool). cond_more b activity (filter_map (our_activity profile.source) (map (entry_of profile) activities)))
    (same_number profile.source))

entry_same : (profile : Profile) (octets : List ℕ) (a b : Entry) → IsEntry profile octets a → IsEntry profile octets b → a ≡ b
entry_same profile octets a b is_a is_b =
    let time = time_same profile (take (time_length profile) octets) a.time b.time is_a.time is_b.time in
    let name = name_same a.name b.name (sym is_a.name ∙ is_b.name) in
    ap (λ (n : ℕ). let e : Entry = record { time = n; name = a.name } in e) time
    ∙ ap (λ (n : ActivityName). let e : Entry = record { time = b.time; name = n } in e) name

entries_same : (profile : Profile) (octets left rest : List ℕ) (xs ys : List Entry) → length xs ≡ length ys → AreEntries profile octets xs left
    → AreEntries profile octets ys rest → xs ≡ ys
entries_same profile octets left rest [] [] e xs_are ys_are = refl
entries_same profile octets left rest [] (y ∷ ys) e xs_are ys_are = absurd (omega arith)
entries_same profile octets left rest (x ∷ xs) [] e xs_are ys_are = absurd (omega arith)
entries_same profile octets left rest (x ∷ xs) (y ∷ ys) e xs_are ys_are =
    ap (λ z. z ∷ xs) (entry_same profile (take (entry_length profile) octets) x y xs_are.0 ys_are.0)
    ∙ ap (λ l. y ∷ l) (entries_same profile (drop (entry_length profile) octets) left rest xs ys (omega arith) xs_are.1 ys_are.1)

bit_same : (a b : Bool) → status_of (Some a) ≡ status_of (Some b) → a ≡ b
bit_same false false e = refl
bit_same true true e = refl
bit_same false true e = absurd (omega (arith, first_same 0 1 e))
bit_same true false e = absurd (omega (arith, first_same 1 0 e))

status_same : (a b : Option Bool) → status_of a ≡ status_of b → a ≡ b
status_same None None e = refl
status_same None (Some b) e = absurd (omega (arith, ap length e))
status_same (Some a) None e = absurd (omega (arith, ap length e))
status_same (Some a) (Some b) e = ap (λ (s : Bool). Some s) (bit_same a b e)

-- what a summary tells, and how many were passed over
record SameSummary (a b : ScheduleSummary) (a_passed b_passed : ℕ) : Type 0 where
  pub told : a ≡ b
  pub passed : a_passed ≡ b_passed

summary_same : (profile : Profile) (octets : List ℕ) (a b : ScheduleSummary) (a_passed b_passed : ℕ)
    → Summarizes profile octets a a_passed → Summarizes profile octets b b_passed → SameSummary a b a_passed b_passed
summary_same profile [] a b a_passed b_passed x y = absurd x
summary_same profile (number ∷ octets) a b a_passed b_passed x y =
    let count : length x.1.entries ≡ length y.1.entries = x.1.count ∙ sym y.1.count in
    let entries = entries_same profile octets (status_of a.enabled) (status_of b.enabled) x.1.entries y.1.entries count x.1.listed y.1.listed in
    let rest = same_rest profile octets (status_of a.enabled) (status_of b.enabled) x.1.entries y.1.entries count x.1.listed y.1.listed in
    let activities : a.activities ≡ b.activities = x.1.ours ∙ ap (filter_map (our_activity profile.source)) entries ∙ sym y.1.ours in
    let sizes : length a.activities ≡ length b.activities = ap length activities in
    let a_all = x.1.others in
    let b_all = y.1.others in
    record {
      told =
          ap (λ (s : Option Bool). let m : ScheduleSummary = record { enabled = s; activities = a.activities } in m)
          (status_same a.enabled b.enabled rest)
          ∙ ap (λ (l : List ScheduledActivity). let m : ScheduleSummary = record { enabled = b.enabled; activities = l } in m) activities;
      passed = omega arith;
    }

-- ---- source data of either kind

-- the source data of a report tell that report, with nothing passed over
pub tells_itself : (profile : Profile) (t : Told) → IsReportable profile t → Tells profile (source_data profile t) t 0
tells_itself profile (told.Verification v request) h = (record { flies = h; request_id = refl; details = details_there v }, refl)
tells_itself profile (told.Summary summary) h = (
  h.1,
  record {
    entries = map (entry_of profile) summary.activities;
    count = length-map summary.activities (entry_of profile);
    listed = entries_there profile summary.activities (status_of summary.enabled) h.0;
    ours = ours_there profile summary.activities;
    others = omega arith;
  },
)

pub record SameTold (a b : Told) (a_passed b_passed : ℕ) : Type 0 where
  pub told : a ≡ b
  pub passed : a_passed ≡ b_passed

-- source data of one type tell one thing
pub tells_one : (profile : Profile) (octets : List ℕ) (a b : Told) (a_passed b_passed : ℕ) → service_of a ≡ service_of b → subtype_of a ≡ subtype_of b
    → Tells profile octets a a_passed → Tells profile octets b b_passed → SameTold a b a_passed b_passed
tells_one profile octets (told.Verification v request) (told.Verification w other) a_passed b_passed service subtype x y =
    let requests = request_same request other (sym x.0.request_id ∙ y.0.request_id) in
    let details = details_same (drop 4 octets) v w subtype x.0.details y.0.details in
    record { told = ap (λ n. told.Verification n request) details ∙ ap (λ n. told.Verification w n) requests; passed = x.1 ∙ sym y.1 }
tells_one profile octets (told.Verification v request) (told.Summary t) a_passed b_passed service subtype x y = absurd (omega arith)
tells_one profile octets (told.Summary s) (told.Verification w other) a_passed b_passed service subtype x y = absurd (omega arith)
tells_one profile octets (told.Summary s) (told.Summary t) a_passed b_passed service subtype x y =
    let same = summary_same profile octets s t a_passed b_passed x y in
    record { told = ap (λ n. told.Summary n) same.told; passed = same.passed }
