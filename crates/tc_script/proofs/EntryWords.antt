-- The words of each entry stand one behind the other, each where it is taken, and words that do are those of an entry.
use Rattle.std.proofs.Common.{◌≡◌, ◌∙◌, ℕ, ◌<◌, ◌≤◌, ◌==◌, Bool, true, false, if◌then◌else◌, Some, List, [], ◌∷◌, ◌++◌, length, map, codes, refl, sym, ap, inl, inr, subst, arith}
use Rattle.std.specs.List.{AllByRecursion, join_with_byte}
use Rattle.std.specs.Fmt.{decimal, signed_decimal}
use Rattle.std.proofs.lemmas.List.{length-map}
use Rattle.std.proofs.lemmas.Fmt.{decimal_injective}
use Rattle.std.proofs.lemmas.List.Splits.{join_with_byte-slice_split}
use Rattle.tc_types.specs.declared.requests.Ack.{Ack}
use Rattle.tc_types.specs.declared.requests.Outcome.{Outcome}
use Rattle.tc_types.specs.declared.requests.Outcome.TheVariants.{Completes}
use Rattle.tc_types.specs.declared.requests.Command.{Command}
use Rattle.tc_types.specs.declared.requests.Command.TheVariants as command
use Rattle.tc_types.specs.declared.requests.Form.{Form}
use Rattle.tc_types.specs.declared.rides.Ride.{Ride}
use Rattle.tc_types.specs.Numbers.{IsMoment, IsNumber, IsService, IsSubtype}
use Rattle.tc_types.specs.Schedule.{is_schedule}
use Rattle.tc_types.specs.Grammar.{ack_word, outcome_word, IsOutcome, command_words, IsCommand, listed, target_word, time_word, IsRide, AreRides, entry_words, IsEntry}
use Rattle.tc_types.proofs.WordLaws.{words_joined, words_nonempty}
use Rattle.tc_types.proofs.Spellings.{targets_parted, times_parted}
use Rattle.tc_script.specs.declared.slots.Slot.TheVariants as slot
use Rattle.tc_script.specs.declared.sorts.Sort.TheVariants as sort
use Rattle.tc_script.specs.Sorts.{is_scheduling}
use Rattle.tc_script.specs.Slots.{behind, completes, parts}
use Rattle.tc_script.specs.Fits.{AreMoments, AreRequests, IsServiceFor, Spells, schedule_subtypes}
use Rattle.tc_script.specs.Faults.{Follow}
use Rattle.tc_script.proofs.WordLemmas.{decimal_1, decimal_2, decimal_3, decimal_4, decimal_5, decimal_7, decimal_11, decimal_15, decimal_17, other_service, word_is, IsAny, any_of}

-- ---- the words of lists

targets_spelled : (rides : List Ride) → AllByRecursion IsRide rides → AllByRecursion (Spells decimal IsNumber) (map target_word rides)
targets_spelled [] each = tt
targets_spelled (r ∷ rides) each = ((r.target, refl, each.0.0), targets_spelled rides each.1)

times_spelled : (rides : List Ride) → AllByRecursion IsRide rides → AllByRecursion (Spells decimal IsMoment) (map time_word rides)
times_spelled [] each = tt
times_spelled (r ∷ rides) each = ((r.time, refl, each.0.1), times_spelled rides each.1)

targets_part : (rides : List Ride) → AreRides rides → parts (listed target_word rides) ≡ map target_word rides
targets_part rides are = words_joined 59 (map target_word rides) (targets_parted rides are.1) (subst (λ n. 0 < n) (sym (length-map rides target_word)) are.0.some)

times_part : (rides : List Ride) → AreRides rides → parts (listed time_word rides) ≡ map time_word rides
times_part rides are = words_joined 59 (map time_word rides) (times_parted rides are.1) (subst (λ n. 0 < n) (sym (length-map rides time_word)) are.0.some)

requests_fit : (rides : List Ride) → AreRides rides → AreRequests (listed target_word rides)
requests_fit rides are =
    rw (targets_part rides are) (subst (λ n. n ≤ 8) (sym (length-map rides target_word)) are.0.few, targets_spelled rides are.1)

moments_fit : (rides : List Ride) → AreRides rides → AreMoments (length (parts (listed target_word rides))) (listed time_word rides)
moments_fit rides are =
    rw (targets_part rides are, times_part rides are) (length-map rides time_word ∙ sym (length-map rides target_word), times_spelled rides are.1)

-- ---- the words of entries

ack_completes : (ack : Ack) → completes (ack_word ack) ≡ ack.completion
ack_completes ack = by_flag ack.completion
  where
    by_flag : (c : Bool) → ((if c then 99 else 45) == 99) ≡ c
    by_flag true = refl
    by_flag false = refl

any_service : (asking : Bool) (service : ℕ) → IsService service → IsServiceFor asking service
any_service true service is = (is.0, is.1)
any_service false service is = is

plain_follows : (asking : Bool) (service subtype : ℕ) (o : Outcome) → IsService service → IsSubtype subtype → IsOutcome o
    → Follow (Some (slot.Service asking)) (decimal service ∷ decimal subtype ∷ codes "-" ∷ codes "-" ∷ outcome_word o ∷ [])
plain_follows asking service subtype o is also kept = (
  (service, refl, any_service asking service is),
  subst (λ (scheduling : Bool). Follow (Some (slot.Subtype scheduling)) (decimal subtype ∷ codes "-" ∷ codes "-" ∷ outcome_word o ∷ [])) (sym (other_service service is.1 is.2))
      ((subtype, refl, also), (refl, (refl, ((o, refl, kept), tt)))),
)

-- words behind the service and the subtype of a command of the on-board schedule
schedule_follows : (asking : Bool) (subtype : ℕ) (word : List ℕ) (others : List (List ℕ)) → asking ≡ true → decimal subtype ≡ word
    → Follow (Some (slot.Subtype true)) (word ∷ others) → Follow (Some (slot.Service asking)) (decimal 11 ∷ decimal subtype ∷ others)
schedule_follows asking subtype word others completing is given = (
  (11, refl, subst (λ (c : Bool). IsServiceFor c 11) (sym completing) (omega arith, omega arith)),
  subst (λ (service : List ℕ). Follow (Some (slot.Subtype (is_scheduling service))) (decimal subtype ∷ others)) (sym decimal_11)
      (subst (λ (w : List ℕ). Follow (Some (slot.Subtype true)) (w ∷ others)) (sym is) given),
)

-- service, subtype, target, time and outcome
command_follows : (asking : Bool) (c : Command) (o : Outcome) → IsCommand c → IsOutcome o → (is_schedule c ≡ true → asking ≡ true) → (is_schedule c ≡ true → o ≡ Completes)
    → Follow (Some (slot.Service asking)) (command_words c ++ outcome_word o ∷ [])
command_follows asking (command.Plain service subtype) o is kept asks ends = plain_follows asking service subtype o is.0 is.1 kept
command_follows asking command.EnableSchedule o is kept asks ends =
    subst (λ (o : Outcome). Follow (Some (slot.Service asking)) (command_words command.EnableSchedule ++ outcome_word o ∷ [])) (sym (ends refl))
    (schedule_follows asking 1 (codes "1") (codes "-" ∷ codes "-" ∷ codes "ok" ∷ []) (asks refl) decimal_1 (refl, (refl, (refl, (refl, tt)))))
command_follows asking command.DisableSchedule o is kept asks ends =
    subst (λ (o : Outcome). Follow (Some (slot.Service asking)) (command_words command.DisableSchedule ++ outcome_word o ∷ [])) (sym (ends refl))
    (schedule_follows asking 2 (codes "2") (codes "-" ∷ codes "-" ∷ codes "ok" ∷ []) (asks refl) decimal_2 (refl, (refl, (refl, (refl, tt)))))
command_follows asking command.ResetSchedule o is kept asks ends =
    subst (λ (o : Outcome). Follow (Some (slot.Service asking)) (command_words command.ResetSchedule ++ outcome_word o ∷ [])) (sym (ends refl))
    (schedule_follows asking 3 (codes "3") (codes "-" ∷ codes "-" ∷ codes "ok" ∷ []) (asks refl) decimal_3 (refl, (refl, (refl, (refl, tt)))))
command_follows asking (command.InsertActivities rides) o is kept asks ends =
    subst (λ (o : Outcome). Follow (Some (slot.Service asking)) (command_words (command.InsertActivities rides) ++ outcome_word o ∷ [])) (sym (ends refl))
    (schedule_follows asking 4 (codes "4") (listed target_word rides ∷ listed time_word rides ∷ codes "ok" ∷ []) (asks refl) decimal_4 (refl, (requests_fit rides is, (moments_fit rides is, (refl, tt)))))
command_follows asking (command.DeleteActivity target) o is kept asks ends =
    subst (λ (o : Outcome). Follow (Some (slot.Service asking)) (command_words (command.DeleteActivity target) ++ outcome_word o ∷ [])) (sym (ends refl))
    (schedule_follows asking 5 (codes "5") (decimal target ∷ codes "-" ∷ codes "ok" ∷ []) (asks refl) decimal_5 (refl, ((target, refl, is), (refl, (refl, tt)))))
command_follows asking (command.ShiftActivity target offset) o is kept asks ends =
    subst (λ (o : Outcome). Follow (Some (slot.Service asking)) (command_words (command.ShiftActivity target offset) ++ outcome_word o ∷ [])) (sym (ends refl))
    (schedule_follows asking 7 (codes "7") (decimal target ∷ signed_decimal offset ∷ codes "ok" ∷ []) (asks refl) decimal_7 (refl, ((target, refl, is.0), ((offset, refl, is.1), (refl, tt)))))
command_follows asking (command.ShiftAll offset) o is kept asks ends =
    subst (λ (o : Outcome). Follow (Some (slot.Service asking)) (command_words (command.ShiftAll offset) ++ outcome_word o ∷ [])) (sym (ends refl))
    (schedule_follows asking 15 (codes "15") (codes "-" ∷ signed_decimal offset ∷ codes "ok" ∷ []) (asks refl) decimal_15 (refl, (refl, ((offset, refl, is), (refl, tt)))))
command_follows asking command.SummarizeAll o is kept asks ends =
    subst (λ (o : Outcome). Follow (Some (slot.Service asking)) (command_words command.SummarizeAll ++ outcome_word o ∷ [])) (sym (ends refl))
    (schedule_follows asking 17 (codes "17") (codes "-" ∷ codes "-" ∷ codes "ok" ∷ []) (asks refl) decimal_17 (refl, (refl, (refl, (refl, tt)))))

pub entry_follows : (entry : Form) → IsEntry entry → Follow (Some slot.Apid) (entry_words entry)
entry_follows entry is = (
  (entry.apid, refl, is.apid),
  (
    (entry.ack, refl, tt),
    (
      (entry.critical, refl, tt),
      subst (λ (flag : Bool). Follow (Some (slot.Service flag)) (command_words entry.command ++ outcome_word entry.outcome ∷ [])) (sym (ack_completes entry.ack))
          (command_follows entry.ack.completion entry.command entry.outcome is.command is.outcome is.schedule.completion is.schedule.completes),
    ),
  ),
)

-- ---- words that are those of lists

rides_from : (targets times : List (List ℕ)) → AllByRecursion (Spells decimal IsNumber) targets → AllByRecursion (Spells decimal IsMoment) times → length times ≡ length targets
    → (rides : List Ride) × (targets ≡ map target_word rides) × (times ≡ map time_word rides) × AllByRecursion IsRide rides
rides_from [] [] numbers moments many = ([], refl, refl, tt)
rides_from [] (m ∷ ms) numbers moments many = absurd (omega (arith, many))
rides_from (t ∷ ts) [] numbers moments many = absurd (omega (arith, many))
rides_from (t ∷ ts) (m ∷ ms) numbers moments many =
    let more = rides_from ts ms numbers.1 moments.1 (omega (arith, many)) in
    let first : Ride = record { target = numbers.0.0; time = moments.0.0 } in
    (first ∷ more.0, (λ i. numbers.0.1 i ∷ more.1 i), (λ i. moments.0.1 i ∷ more.2 i), ((numbers.0.2, moments.0.2), more.3))

-- the two words of an insert
insert_from : (target time : List ℕ) → AreRequests target → AreMoments (length (parts target)) time
    → (rides : List Ride) × (target ≡ listed target_word rides) × (time ≡ listed time_word rides) × AreRides rides
insert_from target time requests moments =
    let (rides, targets, times, each) = rides_from (parts target) (parts time) requests.1 moments.1 moments.0 in
    let many : length (parts target) ≡ length rides = ap length targets ∙ length-map rides target_word in
    let some : parts target ≡ [] → ⊥ = words_nonempty 59 target in (
      rides,
      sym (join_with_byte-slice_split 59 target) ∙ ap (join_with_byte 59) targets,
      sym (join_with_byte-slice_split 59 time) ∙ ap (join_with_byte 59) times,
      (record { some = not_empty (parts target) rides some many; few = subst (λ n. n ≤ 8) many requests.0 }, each),
    )
  where
    not_empty : (ws : List (List ℕ)) (rides : List Ride) → (ws ≡ [] → ⊥) → length ws ≡ length rides → 0 < length rides
    not_empty [] rides some many = absurd (some refl)
    not_empty (w ∷ ws) rides some many = omega (arith, many)

-- ---- words that are those of entries

-- what stands behind the completion flag and CRIT is a command and an outcome
pub record CommandFrom (completing : Bool) (given : List (List ℕ)) : Type 0 where
  pub command : Command
  pub outcome : Outcome
  pub are : given ≡ command_words command ++ outcome_word outcome ∷ []
  pub ranged : IsCommand command
  pub ends : IsOutcome outcome
  pub asks : is_schedule command ≡ true → completing ≡ true
  pub completes : is_schedule command ≡ true → outcome ≡ Completes

-- the words of a command of the on-board schedule behind its service
pub record ScheduleFrom (given : List (List ℕ)) : Type 0 where
  pub command : Command
  pub are : decimal 11 ∷ given ≡ command_words command ++ codes "ok" ∷ []
  pub ranged : IsCommand command

bare_from : (given : List (List ℕ)) → Follow (Some (slot.Target sort.Schedule)) given → given ≡ codes "-" ∷ codes "-" ∷ codes "ok" ∷ []
bare_from [] f = absurd f
bare_from (g ∷ []) f = absurd f.1
bare_from (g ∷ m ∷ []) f = absurd f.1.1
bare_from (g ∷ m ∷ o ∷ []) f = λ i. f.0 i ∷ f.1.0 i ∷ f.1.1.0 i ∷ []
bare_from (g ∷ m ∷ o ∷ x ∷ xs) f = absurd f.1.1.1

-- three words behind a subtype whose last is ok
bare_words : (c : Command) (n : ℕ) (word : List ℕ) (rest : List (List ℕ)) → decimal n ≡ word → command_words c ≡ decimal 11 ∷ decimal n ∷ codes "-" ∷ codes "-" ∷ []
    → Follow (Some (slot.Target sort.Schedule)) rest → decimal 11 ∷ word ∷ rest ≡ command_words c ++ codes "ok" ∷ []
bare_words c n word rest spelled words follow =
    let rest_is = bare_from rest follow in
    let are : decimal 11 ∷ word ∷ rest ≡ decimal 11 ∷ decimal n ∷ codes "-" ∷ codes "-" ∷ codes "ok" ∷ [] = λ i. decimal 11 ∷ sym spelled i ∷ rest_is i in
    are ∙ ap (λ (ws : List (List ℕ)). ws ++ codes "ok" ∷ []) (sym words)

insert_words : (word : List ℕ) (rest : List (List ℕ)) → decimal 4 ≡ word → Follow (Some (slot.Target sort.Insert)) rest → ScheduleFrom (word ∷ rest)
insert_words word [] spelled f = absurd f
insert_words word (g ∷ []) spelled f = absurd f.1
insert_words word (g ∷ m ∷ []) spelled f = absurd f.1.1
insert_words word (g ∷ m ∷ o ∷ []) spelled f =
    let (rides, target, time, are) = insert_from g m f.0 f.1.0 in
    record { command = command.InsertActivities rides; are = λ i. decimal 11 ∷ sym spelled i ∷ target i ∷ time i ∷ f.1.1.0 i ∷ []; ranged = are }
insert_words word (g ∷ m ∷ o ∷ x ∷ xs) spelled f = absurd f.1.1.1

delete_words : (word : List ℕ) (rest : List (List ℕ)) → decimal 5 ≡ word → Follow (Some (slot.Target sort.Delete)) rest → ScheduleFrom (word ∷ rest)
delete_words word [] spelled f = absurd f
delete_words word (g ∷ []) spelled f = absurd f.1
delete_words word (g ∷ m ∷ []) spelled f = absurd f.1.1
delete_words word (g ∷ m ∷ o ∷ []) spelled f =
    let (target, is, small) = f.0 in
    record { command = command.DeleteActivity target; are = λ i. decimal 11 ∷ sym spelled i ∷ is i ∷ f.1.0 i ∷ f.1.1.0 i ∷ []; ranged = small }
delete_words word (g ∷ m ∷ o ∷ x ∷ xs) spelled f = absurd f.1.1.1

shift_words : (word : List ℕ) (rest : List (List ℕ)) → decimal 7 ≡ word → Follow (Some (slot.Target sort.Shift)) rest → ScheduleFrom (word ∷ rest)
shift_words word [] spelled f = absurd f
shift_words word (g ∷ []) spelled f = absurd f.1
shift_words word (g ∷ m ∷ []) spelled f = absurd f.1.1
shift_words word (g ∷ m ∷ o ∷ []) spelled f =
    let (target, is, small) = f.0 in
    let (offset, also, near) = f.1.0 in
    record { command = command.ShiftActivity target offset; are = λ i. decimal 11 ∷ sym spelled i ∷ is i ∷ also i ∷ f.1.1.0 i ∷ []; ranged = (small, near) }
shift_words word (g ∷ m ∷ o ∷ x ∷ xs) spelled f = absurd f.1.1.1

shift_all_words : (word : List ℕ) (rest : List (List ℕ)) → decimal 15 ≡ word → Follow (Some (slot.Target sort.ShiftAll)) rest → ScheduleFrom (word ∷ rest)
shift_all_words word [] spelled f = absurd f
shift_all_words word (g ∷ []) spelled f = absurd f.1
shift_all_words word (g ∷ m ∷ []) spelled f = absurd f.1.1
shift_all_words word (g ∷ m ∷ o ∷ []) spelled f =
    let (offset, also, near) = f.1.0 in
    record { command = command.ShiftAll offset; are = λ i. decimal 11 ∷ sym spelled i ∷ f.0 i ∷ also i ∷ f.1.1.0 i ∷ []; ranged = near }
shift_all_words word (g ∷ m ∷ o ∷ x ∷ xs) spelled f = absurd f.1.1.1

-- behind the subtype, by which of them it is
subtype_from : (word : List ℕ) (rest : List (List ℕ)) → IsAny word schedule_subtypes → Follow (behind (slot.Subtype true) word) rest → ScheduleFrom (word ∷ rest)
subtype_from word rest (inl is) f =
    record { command = command.EnableSchedule; are = bare_words command.EnableSchedule 1 word rest (decimal_1 ∙ sym is) refl (subst (λ (w : List ℕ). Follow (behind (slot.Subtype true) w) rest) is f); ranged = tt }
subtype_from word rest (inr (inl is)) f =
    record { command = command.DisableSchedule; are = bare_words command.DisableSchedule 2 word rest (decimal_2 ∙ sym is) refl (subst (λ (w : List ℕ). Follow (behind (slot.Subtype true) w) rest) is f); ranged = tt }
subtype_from word rest (inr (inr (inl is))) f =
    record { command = command.ResetSchedule; are = bare_words command.ResetSchedule 3 word rest (decimal_3 ∙ sym is) refl (subst (λ (w : List ℕ). Follow (behind (slot.Subtype true) w) rest) is f); ranged = tt }
subtype_from word rest (inr (inr (inr (inl is)))) f = insert_words word rest (decimal_4 ∙ sym is) (subst (λ (w : List ℕ). Follow (behind (slot.Subtype true) w) rest) is f)
subtype_from word rest (inr (inr (inr (inr (inl is))))) f = delete_words word rest (decimal_5 ∙ sym is) (subst (λ (w : List ℕ). Follow (behind (slot.Subtype true) w) rest) is f)
subtype_from word rest (inr (inr (inr (inr (inr (inl is)))))) f = shift_words word rest (decimal_7 ∙ sym is) (subst (λ (w : List ℕ). Follow (behind (slot.Subtype true) w) rest) is f)
subtype_from word rest (inr (inr (inr (inr (inr (inr (inl is))))))) f = shift_all_words word rest (decimal_15 ∙ sym is) (subst (λ (w : List ℕ). Follow (behind (slot.Subtype true) w) rest) is f)
subtype_from word rest (inr (inr (inr (inr (inr (inr (inr (inl is)))))))) f =
    record { command = command.SummarizeAll; are = bare_words command.SummarizeAll 17 word rest (decimal_17 ∙ sym is) refl (subst (λ (w : List ℕ). Follow (behind (slot.Subtype true) w) rest) is f); ranged = tt }
subtype_from word rest (inr (inr (inr (inr (inr (inr (inr (inr none)))))))) f = absurd none

schedule_from : (given : List (List ℕ)) → Follow (Some (slot.Subtype true)) given → ScheduleFrom given
schedule_from [] f = absurd f
schedule_from (word ∷ rest) f = subtype_from word rest (any_of schedule_subtypes word f.0) f.1

-- a command of another service
plain_from : (completing : Bool) (service : ℕ) (given : List (List ℕ)) → IsService service → Follow (Some (slot.Subtype false)) given → CommandFrom completing (decimal service ∷ given)
plain_from completing service [] is f = absurd f
plain_from completing service (t ∷ []) is f = absurd f.1
plain_from completing service (t ∷ g ∷ []) is f = absurd f.1.1
plain_from completing service (t ∷ g ∷ m ∷ []) is f = absurd f.1.1.1
plain_from completing service (t ∷ g ∷ m ∷ o ∷ []) is f =
    let (subtype, spelled, ranged) = f.0 in
    let (outcome, shown, ends) = f.1.1.1.0 in
    record {
      command = command.Plain service subtype;
      outcome = outcome;
      are = λ i. decimal service ∷ spelled i ∷ f.1.0 i ∷ f.1.1.0 i ∷ shown i ∷ [];
      ranged = (is, ranged);
      ends = ends;
      asks = λ scheduled. cc;
      completes = λ scheduled. cc;
    }
plain_from completing service (t ∷ g ∷ m ∷ o ∷ x ∷ xs) is f = absurd f.1.1.1.1

-- the service of a command of the on-board schedule asks for its completion
asks_completion : (completing : Bool) (service : ℕ) → IsServiceFor completing service → decimal service ≡ codes "11" → completing ≡ true
asks_completion true service is spelled = refl
asks_completion false service is spelled = absurd (is.2 (decimal_injective service 11 (let small = is.1 in omega (arith, small)) (omega arith) (spelled ∙ sym decimal_11)))

not_scheduling : (completing : Bool) (service : ℕ) → IsServiceFor completing service → is_scheduling (decimal service) ≡ false → IsService service
not_scheduling false service is other = is
not_scheduling true service is other = (is.0, is.1, λ eleven. eleven_is (subst (λ n. is_scheduling (decimal n) ≡ false) eleven other))
  where
    eleven_is : is_scheduling (decimal 11) ≡ false → ⊥
    eleven_is differs = let bad : true ≡ false = subst (λ (w : List ℕ). is_scheduling w ≡ false) decimal_11 differs in cc

command_from : (completing : Bool) (given : List (List ℕ)) → Follow (Some (slot.Service completing)) given → CommandFrom completing given
command_from completing [] f = absurd f
command_from completing (word ∷ rest) f =
    let (service, spelled, is) = f.0 in
    subst (λ (w : List ℕ). CommandFrom completing (w ∷ rest)) (sym spelled) (by_service service is (subst (λ (w : List ℕ). Follow (Some (slot.Subtype (is_scheduling w))) rest) spelled f.1) (is_scheduling (decimal service)) refl)
  where
    by_service : (service : ℕ) → IsServiceFor completing service → Follow (Some (slot.Subtype (is_scheduling (decimal service)))) rest → (scheduling : Bool) → is_scheduling (decimal service) ≡ scheduling
        → CommandFrom completing (decimal service ∷ rest)
    by_service service is follow false equal = plain_from completing service rest (not_scheduling completing service is equal) (subst (λ (b : Bool). Follow (Some (slot.Subtype b)) rest) equal follow)
    by_service service is follow true equal =
        let eleven : decimal service ≡ codes "11" = word_is (decimal service) (codes "11") equal in
        let from = schedule_from rest (subst (λ (b : Bool). Follow (Some (slot.Subtype b)) rest) equal follow) in
        record {
          command = from.command;
          outcome = Completes;
          are = ap (λ (w : List ℕ). w ∷ rest) (eleven ∙ sym decimal_11) ∙ from.are;
          ranged = from.ranged;
          ends = tt;
          asks = λ scheduled. asks_completion completing service is eleven;
          completes = λ scheduled. refl;
        }

pub entry_from : (given : List (List ℕ)) → Follow (Some slot.Apid) given → (entry : Form) × (given ≡ entry_words entry) × IsEntry entry
entry_from [] f = absurd f
entry_from (a ∷ []) f = absurd f.1
entry_from (a ∷ k ∷ []) f = absurd f.1.1
entry_from (a ∷ k ∷ c ∷ rest) f =
    let (apid, apid_is, ranged) = f.0 in
    let (ack, ack_is, tt_of) = f.1.0 in
    let (critical, critical_is, tt_also) = f.1.1.0 in
    let from = command_from (completes k) rest f.1.1.1 in
    let entry : Form = record { apid = apid; ack = ack; critical = critical; command = from.command; outcome = from.outcome } in (
      entry,
      (λ i. apid_is i ∷ ack_is i ∷ critical_is i ∷ from.are i),
      record {
        apid = ranged;
        command = from.ranged;
        outcome = from.ends;
        schedule = record { completion = λ scheduled. sym (ack_completes ack) ∙ (ap completes (sym ack_is) ∙ from.asks scheduled); completes = from.completes };
      },
    )
