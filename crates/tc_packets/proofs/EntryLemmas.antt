-- Entries of a summary: one more, and what follows them.
use Rattle.std.proofs.Common.{◌≡◌, ℕ, ◌+◌, ◌<◌, List, [], ◌∷◌, ◌++◌, take, drop, length, refl, sym, ap, ◌∙◌, subst, arith}
use Rattle.std.specs.List.{filter_map}
use Rattle.std.proofs.lemmas.List.{length-append, length-drop, length-take}
use Rattle.std.proofs.lemmas.List.Elements.{filter_map-append}
use Rattle.tc_octets.specs.declared.profiles.Profile.{Profile}
use Rattle.tc_packets.specs.Times.{time_length}
use Rattle.tc_packets.specs.ReportReaders.{AreEntries, Entry, IsEntry, Lists, entry_length, our_activity}
use Rattle.tc_packets.specs.declared.told.ScheduledActivity.{ScheduledActivity}

-- an entry has as many octets as each
pub entry_size : (profile : Profile) (octets : List ℕ) (entry : Entry) → IsEntry profile octets entry → length octets ≡ entry_length profile
entry_size profile octets entry is =
    let name : length (drop (time_length profile) octets) ≡ 6 = ap length is.name in
    omega (arith, length-drop (time_length profile) octets)

-- one entry more
pub entry_more : (profile : Profile) (octets left : List ℕ) (entries : List Entry) (entry : Entry) → AreEntries profile octets entries left
    → IsEntry profile (take (entry_length profile) left) entry → AreEntries profile octets (entries ++ entry ∷ []) (drop (entry_length profile) left)
entry_more profile octets left [] entry are is =
    (subst (λ (l : List ℕ). IsEntry profile (take (entry_length profile) l) entry) (sym are) is, ap (drop (entry_length profile)) are)
entry_more profile octets left (first ∷ entries) entry are is =
    (are.0, entry_more profile (drop (entry_length profile) octets) left entries entry are.1 is)

-- an entry with the fact that it is one
pub record Stands (profile : Profile) (octets : List ℕ) : Type 0 where
  pub entry : Entry
  pub is : IsEntry profile octets entry

-- If there are more entries than these, one stands in what is left.
pub entry_left : (profile : Profile) (octets left rest : List ℕ) (before all : List Entry) → AreEntries profile octets before left
    → AreEntries profile octets all rest
    → length before < length all → Stands profile (take (entry_length profile) left)
entry_left profile octets left rest before [] are all_are h = absurd (omega arith)
entry_left profile octets left rest [] (entry ∷ all) are all_are h =
    record { entry = entry; is = subst (λ (l : List ℕ). IsEntry profile (take (entry_length profile) l) entry) are all_are.0 }
entry_left profile octets left rest (first ∷ before) (entry ∷ all) are all_are h =
    entry_left profile (drop (entry_length profile) octets) left rest before all are.1 all_are.1 (omega arith)

-- As many entries leave the same rest.
pub same_rest : (profile : Profile) (octets left rest : List ℕ) (xs ys : List Entry) → length xs ≡ length ys → AreEntries profile octets xs left
    → AreEntries profile octets ys rest
    → left ≡ rest
same_rest profile octets left rest [] [] e xs_are ys_are = sym xs_are ∙ ys_are
same_rest profile octets left rest [] (y ∷ ys) e xs_are ys_are = absurd (omega arith)
same_rest profile octets left rest (x ∷ xs) [] e xs_are ys_are = absurd (omega arith)
same_rest profile octets left rest (x ∷ xs) (y ∷ ys) e xs_are ys_are =
    same_rest profile (drop (entry_length profile) octets) left rest xs ys (omega arith) xs_are.1 ys_are.1

-- a list with one entry more
pub lists_more : (profile : Profile) (i : ℕ) (octets left : List ℕ) (activities more : List ScheduledActivity) (passed now_passed : ℕ) (entry : Entry)
    → Lists profile i octets left activities passed → IsEntry profile (take (entry_length profile) left) entry
    → more ≡ activities ++ filter_map (our_activity profile.source) (entry ∷ []) → length more + now_passed ≡ length activities + passed + 1
    → Lists profile (i + 1) octets (drop (entry_length profile) left) more now_passed
lists_more profile i octets left activities more passed now_passed entry lists is ours all =
    let count = lists.count in
    let others = lists.others in
    record {
      entries = lists.entries ++ entry ∷ [];
      count = omega (arith, length-append lists.entries (entry ∷ []));
      listed = entry_more profile octets left lists.entries entry lists.listed is;
      ours =
          ours
          ∙ ap (λ l. l ++ filter_map (our_activity profile.source) (entry ∷ [])) lists.ours
          ∙ sym (filter_map-append (our_activity profile.source) lists.entries (entry ∷ []));
      others = omega arith;
    }

-- an empty list
pub lists_none : (profile : Profile) (octets : List ℕ) (activities : List ScheduledActivity) (passed : ℕ) → activities ≡ [] → passed ≡ 0
    → Lists profile 0 octets octets activities passed
lists_none profile octets activities passed none zero =
    let empty : length activities ≡ 0 = ap length none in
    record { entries = []; count = refl; listed = refl; ours = none; others = omega arith }

-- Fewer octets than an entry has are left, though entries are missing.
pub too_few : (profile : Profile) (i number : ℕ) (octets left : List ℕ) (activities : List ScheduledActivity) (passed : ℕ)
    → Lists profile i octets left activities passed → i < number → length left < entry_length profile
    → (entries : List Entry) (rest : List ℕ) → length entries ≡ number → ¬ AreEntries profile octets entries rest
too_few profile i number octets left activities passed lists h short entries rest count are =
    let before = lists.count in
    let found = entry_left profile octets left rest lists.entries entries lists.listed are (omega arith) in
    let size : length (take (entry_length profile) left) ≡ entry_length profile =
    entry_size profile (take (entry_length profile) left) found.entry found.is in
    omega (arith, length-take (entry_length profile) left)

-- What is left does not begin with an entry, though entries are missing.
pub no_entry : (profile : Profile) (i number : ℕ) (octets left : List ℕ) (activities : List ScheduledActivity) (passed : ℕ)
    → Lists profile i octets left activities passed → i < number → ((entry : Entry) → ¬ IsEntry profile (take (entry_length profile) left) entry)
    → (entries : List Entry) (rest : List ℕ) → length entries ≡ number → ¬ AreEntries profile octets entries rest
no_entry profile i number octets left activities passed lists h none entries rest count are =
    let before = lists.count in
    let found = entry_left profile octets left rest lists.entries entries lists.listed are (omega arith) in
    none found.entry found.is
