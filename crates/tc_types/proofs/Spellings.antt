-- No spelling has a word with the byte that parts it from the next.
use Rattle.std.proofs.Common.{◌≡◌, ℕ, ℤ, pos, negsuc, suc, ◌<◌, ◌≤◌, ◌^◌, Bool, true, false, not, ◌&&◌, ◌||◌, eqb, List, [], ◌∷◌, length, map, refl, arith, rules}
use Rattle.std.specs.List.{list_all, list_any, AllByRecursion}
use Rattle.std.specs.Fmt.{decimal, signed_decimal}
use Rattle.std.specs.Str.Parse.{AllDigits}
use Rattle.std.proofs.lemmas.Str.Parse.{digit_from_value}
use Rattle.std.proofs.lemmas.Fmt.{digits_decimal}
use Rattle.std.proofs.lemmas.List.Folds.{list_all-append}
use Rattle.std.proofs.lemmas.Bool.{and_parts, ne_eqb}
use Rattle.std.proofs.lemmas.Int.{ints}
use Rattle.std.proofs.lemmas.Grind.{common_steps}
use Rattle.tc_types.specs.Names.{is_name_byte}
use Rattle.tc_types.specs.Numbers.{IsOffset}
use Rattle.tc_types.specs.declared.requests.Outcome.{Outcome}
use Rattle.tc_types.specs.declared.requests.Outcome.TheVariants as outcome
use Rattle.tc_types.specs.declared.requests.Ack.{Ack}
use Rattle.tc_types.specs.declared.requests.Command.{Command}
use Rattle.tc_types.specs.declared.requests.Command.TheVariants as command
use Rattle.tc_types.specs.declared.requests.Form.{Form}
use Rattle.tc_types.specs.declared.rides.Ride.{Ride}
use Rattle.tc_types.specs.Grammar.{flag, ack_word, yes_no, outcome_words, outcome_word, IsOutcome, command_words, IsCommand, listed, target_word, time_word, IsRide, entry_words, IsEntry}
use Rattle.tc_types.specs.Loads.{LoadLine, kind_word, load_words, IsLoad}
use Rattle.tc_types.specs.declared.loads.LoadKind.{LoadKind}
use Rattle.tc_types.specs.declared.loads.LoadKind.TheVariants as kind
use Rattle.tc_types.proofs.WordLaws.{lacks, lacks_joined}
use Rattle.tc_types.proofs.NumberLaws.{numeral, small_offset}

digits_lack : (c : ℕ) → ((48 ≤ c) × (c ≤ 57) → ⊥) → (digits : List ℕ) → AllDigits 10 digits → lacks c digits ≡ true
digits_lack c none [] h = refl
digits_lack c none (d ∷ digits) h =
    let range = digit_from_value d h.0 in
    let other : eqb d c ≡ false = ne_eqb d c (λ e. none (omega (arith, range, e), omega (arith, range, e))) in
    rw (other, digits_lack c none digits h.1) refl

pub decimal_lacks : (c n : ℕ) → c < 48 → n < 2 ^ 64 → lacks c (decimal n) ≡ true
decimal_lacks c n low small = digits_lack c (λ digit. omega (arith, low, digit.0)) (decimal n) (digits_decimal numeral n small)

-- what stands in a list has no semicolon
decimal_parted : (n : ℕ) → n < 2 ^ 32 → lacks 59 (decimal n) ≡ true
decimal_parted n small = digits_lack 59 (λ digit. omega (arith, digit.1)) (decimal n) (digits_decimal numeral n (omega arith))

each_lacks : (c : ℕ) (word : Ride → List ℕ) → ((r : Ride) → IsRide r → lacks c (word r) ≡ true) → (rides : List Ride) → AllByRecursion IsRide rides → list_all (lacks c) (map word rides) ≡ true
each_lacks c word lack [] are = refl
each_lacks c word lack (r ∷ rides) are = rw (lack r are.0, each_lacks c word lack rides are.1) refl

pub targets_parted : (rides : List Ride) → AllByRecursion IsRide rides → list_all (lacks 59) (map target_word rides) ≡ true
targets_parted rides are = each_lacks 59 target_word (λ r is. decimal_parted r.target is.0) rides are

pub times_parted : (rides : List Ride) → AllByRecursion IsRide rides → list_all (lacks 59) (map time_word rides) ≡ true
times_parted rides are = each_lacks 59 time_word (λ r is. decimal_parted r.time (omega (arith, is.1))) rides are

-- a list has no byte but digits and semicolons
pub lists_lack : (c : ℕ) → c < 48 → (rides : List Ride) → AllByRecursion IsRide rides → (lacks c (listed target_word rides) ≡ true) × (lacks c (listed time_word rides) ≡ true)
lists_lack c low rides are =
    let apart : eqb 59 c ≡ false = ne_eqb 59 c (λ e. omega (arith, low, e)) in (
      lacks_joined 59 c (map target_word rides) apart (each_lacks c target_word (λ r is. decimal_lacks c r.target low (omega (arith, is.0))) rides are),
      lacks_joined 59 c (map time_word rides) apart (each_lacks c time_word (λ r is. decimal_lacks c r.time low (omega (arith, is.1))) rides are),
    )

-- the words of an outcome have no slash
pub outcome_parted : (o : Outcome) → IsOutcome o → (list_all (lacks 47) (outcome_words o) ≡ true) × (0 < length (outcome_words o))
outcome_parted outcome.Completes h = (refl, omega arith)
outcome_parted (outcome.CompletesInSteps steps) h = (rw (decimal_lacks 47 steps (omega arith) (omega arith)) refl, omega arith)
outcome_parted (outcome.Refuses code) h = (rw (decimal_lacks 47 code (omega arith) (omega arith)) refl, omega arith)
outcome_parted (outcome.StartFails code) h = (rw (decimal_lacks 47 code (omega arith) (omega arith)) refl, omega arith)
outcome_parted (outcome.Halts steps code) h =
    (rw (decimal_lacks 47 steps (omega arith) (omega arith), decimal_lacks 47 code (omega arith) (omega arith)) refl, omega arith)
outcome_parted (outcome.Fails code) h = (rw (decimal_lacks 47 code (omega arith) (omega arith)) refl, omega arith)

pub number_lacks : (n : ℕ) → n < 2 ^ 32 → lacks 32 (decimal n) ≡ true
number_lacks n small = decimal_lacks 32 n (omega arith) (omega arith)

offset_lacks : (z : ℤ) → IsOffset z → lacks 32 (signed_decimal z) ≡ true
offset_lacks (pos n) h = number_lacks n (small_offset n h)
offset_lacks (negsuc n) h = decimal_lacks 32 (suc n) (omega arith) (let small : suc n < 2 ^ 32 = omega (arith, ints, h.0) in omega arith)

name_byte_lacks : (byte : ℕ) → is_name_byte byte ≡ true → eqb byte 32 ≡ false
name_byte_lacks byte h = grind (arith, common_steps)

pub name_lacks : (name : List ℕ) → list_all is_name_byte name ≡ true → lacks 32 name ≡ true
name_lacks [] h = refl
name_lacks (byte ∷ others) h =
    let parts = and_parts (is_name_byte byte) (list_all is_name_byte others) h in
    let other : eqb byte 32 ≡ false = name_byte_lacks byte parts.0 in
    rw (other, name_lacks others parts.1) refl

outcome_lacks : (o : Outcome) → IsOutcome o → list_all (lacks 32) (outcome_words o) ≡ true
outcome_lacks outcome.Completes h = refl
outcome_lacks (outcome.CompletesInSteps steps) h = rw (number_lacks steps (omega arith)) refl
outcome_lacks (outcome.Refuses code) h = rw (number_lacks code (omega arith)) refl
outcome_lacks (outcome.StartFails code) h = rw (number_lacks code (omega arith)) refl
outcome_lacks (outcome.Halts steps code) h = rw (number_lacks steps (omega arith), number_lacks code (omega arith)) refl
outcome_lacks (outcome.Fails code) h = rw (number_lacks code (omega arith)) refl

eleven : lacks 32 (decimal 11) ≡ true
eleven = number_lacks 11 (omega arith)

command_lacks : (c : Command) → IsCommand c → list_all (lacks 32) (command_words c) ≡ true
command_lacks (command.Plain service subtype) h = rw (number_lacks service (omega arith), number_lacks subtype (omega arith)) refl
command_lacks command.EnableSchedule h = rw (eleven, number_lacks 1 (omega arith)) refl
command_lacks command.DisableSchedule h = rw (eleven, number_lacks 2 (omega arith)) refl
command_lacks command.ResetSchedule h = rw (eleven, number_lacks 3 (omega arith)) refl
command_lacks (command.InsertActivities rides) h =
    let lists = lists_lack 32 (omega arith) rides h.1 in
    rw (eleven, number_lacks 4 (omega arith), lists.0, lists.1) refl
command_lacks (command.DeleteActivity target) h = rw (eleven, number_lacks 5 (omega arith), number_lacks target h) refl
command_lacks (command.ShiftActivity target offset) h =
    rw (eleven, number_lacks 7 (omega arith), number_lacks target h.0, offset_lacks offset h.1) refl
command_lacks (command.ShiftAll offset) h = rw (eleven, number_lacks 15 (omega arith), offset_lacks offset h) refl
command_lacks command.SummarizeAll h = rw (eleven, number_lacks 17 (omega arith)) refl

flag_lacks : (there : Bool) (letter : ℕ) → eqb letter 32 ≡ false → eqb (flag there letter) 32 ≡ false
flag_lacks true letter h = h
flag_lacks false letter h = refl

ack_lacks : (ack : Ack) → lacks 32 (ack_word ack) ≡ true
ack_lacks ack =
    rw (flag_lacks ack.acceptance 97 refl, flag_lacks ack.start 115 refl, flag_lacks ack.progress 112 refl, flag_lacks ack.completion 99 refl) refl

yes_no_lacks : (b : Bool) → lacks 32 (yes_no b) ≡ true
yes_no_lacks true = refl
yes_no_lacks false = refl

pub entry_lacks : (entry : Form) → IsEntry entry → list_all (lacks 32) (entry_words entry) ≡ true
entry_lacks entry h =
    let outcome_word_lacks : lacks 32 (outcome_word entry.outcome) ≡ true = lacks_joined 47 32 (outcome_words entry.outcome) refl (outcome_lacks entry.outcome h.outcome) in
    let apid : entry.apid < 2048 = h.apid in
    rw (number_lacks entry.apid (omega arith), ack_lacks entry.ack, yes_no_lacks entry.critical, list_all-append (lacks 32) (command_words entry.command) (outcome_word entry.outcome ∷ []), command_lacks entry.command h.command, outcome_word_lacks) refl

path_lacks : (path : List ℕ) → list_any (λ byte. eqb byte 32) path ≡ false → lacks 32 path ≡ true
path_lacks [] h = refl
path_lacks (byte ∷ others) h = by_byte (eqb byte 32) (path_lacks others) h
  where
    by_byte : (t : Bool) → (list_any (λ b. eqb b 32) others ≡ false → lacks 32 others ≡ true) → (t || list_any (λ b. eqb b 32) others) ≡ false → (not t && lacks 32 others) ≡ true
    by_byte true rest e = cc
    by_byte false rest e = rest e

kind_lacks : (k : LoadKind) → lacks 32 (kind_word k) ≡ true
kind_lacks kind.Stack = refl
kind_lacks kind.Procedure = refl

-- nor have those of a line that loads a file
pub load_parted : (line : LoadLine) → IsLoad line → (list_all (lacks 32) (load_words line) ≡ true) × (0 < length (load_words line))
load_parted line h =
    let moment : line.moment ≤ 4102444799 = h.0 in
    (rw (number_lacks line.moment (omega arith), name_lacks line.by (search rules), kind_lacks line.kind, name_lacks line.name (search rules), path_lacks line.path h.3.one_word) refl, omega arith)
