-- Reports: how many octets activities have, and what no reader finds.
use Rattle.std.proofs.Common.{◌≡◌, ℕ, ◌+◌, ◌*◌, Bool, true, false, List, [], ◌∷◌, ◌++◌, length, Option, None, sym, ap, ◌∙◌, subst, inl, inr, arith}
use Rattle.std.specs.List.{flat_map}
use Rattle.std.proofs.lemmas.List.{length-append}
use Rattle.tc_types.specs.LinkLines.{verification_subtype}
use Rattle.tc_types.specs.declared.requests.Identity.{Identity}
use Rattle.tc_types.specs.declared.link.reports.Verification.{Verification}
use Rattle.tc_octets.specs.declared.profiles.Profile.{Profile}
use Rattle.tc_packets.specs.Times.{fraction, fraction_length}
use Rattle.tc_packets.specs.Identities.{name_of}
use Rattle.tc_packets.specs.Reports.{activity_octets, status_of}
use Rattle.tc_packets.specs.ReportReaders.{IsKnown, Lists, ReadsField, ReadsSource, Summarizes, Verifies, service_in, source_data_in, subtype_in}
use Rattle.tc_packets.specs.declared.told.ScheduledActivity.{ScheduledActivity}
use Rattle.tc_packets.specs.declared.told.ScheduleSummary.{ScheduleSummary}
use Rattle.tc_packets.specs.declared.told.Told.TheVariants as told
use Rattle.tc_packets.specs.declared.told.HeardReport.{HeardReport}
use Rattle.tc_packets.proofs.EntryLemmas.{same_rest}

pub fraction_size : (fine : Bool) (octets : List ℕ) → length (fraction fine ++ octets) ≡ fraction_length fine + length octets
fraction_size false octets = omega arith
fraction_size true octets = omega arith

pub activity_size : (profile : Profile) (activity : ScheduledActivity) → length (activity_octets profile activity) ≡ 10 + fraction_length profile.fine
activity_size profile activity =
    omega (arith, fraction_size profile.fine (name_of (record { source = profile.source; identity = activity.identity })))

pub fine_size : (profile : Profile) (activities : List ScheduledActivity) → profile.fine ≡ true
    → length activities * 12 ≡ length (flat_map (activity_octets profile) activities)
fine_size profile [] fine = omega arith
fine_size profile (activity ∷ activities) fine =
    let two : fraction_length profile.fine ≡ 2 = ap fraction_length fine in
    let both = length-append (activity_octets profile activity) (flat_map (activity_octets profile) activities) in
    omega (arith, both, activity_size profile activity, fine_size profile activities fine)

pub whole_size : (profile : Profile) (activities : List ScheduledActivity) → profile.fine ≡ false
    → length activities * 10 ≡ length (flat_map (activity_octets profile) activities)
whole_size profile [] fine = omega arith
whole_size profile (activity ∷ activities) fine =
    let none : fraction_length profile.fine ≡ 0 = ap fraction_length fine in
    let both = length-append (activity_octets profile activity) (flat_map (activity_octets profile) activities) in
    omega (arith, both, activity_size profile activity, whole_size profile activities fine)

-- source data that verify nothing
pub no_verification : (origin : Identity) (subtype : ℕ) (octets : List ℕ)
    → ((verification : Verification) (request : Identity) → verification_subtype verification ≡ subtype → ¬ Verifies octets verification request)
    → (profile : Profile) → ReadsSource profile origin 1 subtype octets None
no_verification origin subtype octets none profile (told.Verification verification request) passed service same tells =
    none verification request same tells.0
no_verification origin subtype octets none profile (told.Summary summary) passed service same tells = absurd (omega arith)

-- source data that summarize nothing
pub no_summary : (profile : Profile) (origin : Identity) (octets : List ℕ) → ((summary : ScheduleSummary) (passed : ℕ)
    → ¬ Summarizes profile octets summary passed)
    → ReadsSource profile origin 11 13 octets None
no_summary profile origin octets none (told.Verification verification request) passed service same tells = absurd (omega arith)
no_summary profile origin octets none (told.Summary summary) passed service same tells = none summary passed tells

-- What follows the entries is no status.
pub no_status : (profile : Profile) (origin : Identity) (octets : List ℕ) (number : ℕ) (entries rest : List ℕ)
    (activities : List ScheduledActivity) (passed : ℕ)
    → octets ≡ number ∷ entries → Lists profile number entries rest activities passed → ((enabled : Option Bool) → ¬ (rest ≡ status_of enabled))
    → ReadsSource profile origin 11 13 octets None
no_status profile origin octets number entries rest activities passed e lists none =
    subst (λ (l : List ℕ). ReadsSource profile origin 11 13 l None) (sym e)
    (no_summary profile origin (number ∷ entries)
    (λ summary others says.
    none summary.enabled
    (same_rest profile entries rest (status_of summary.enabled) lists.entries says.1.entries (lists.count ∙ sym says.1.count) lists.listed
    says.1.listed)))

-- A report that is no summary is a verification.
pub read_verification : (profile : Profile) (origin : Identity) (field octets : List ℕ) (read : Option HeardReport)
    → IsKnown (service_in field) (subtype_in field)
    → ¬ (service_in field ≡ 11) → octets ≡ source_data_in profile field → ReadsSource profile origin 1 (subtype_in field) octets read
    → ReadsField profile origin field read
read_verification profile origin field octets read (inl known) other e says =
    subst (λ (l : List ℕ). ReadsSource profile origin (service_in field) (subtype_in field) l read) e
    (subst (λ (n : ℕ). ReadsSource profile origin n (subtype_in field) octets read) (sym known.0) says)
read_verification profile origin field octets read (inr known) other e says = absurd (other known.0)
