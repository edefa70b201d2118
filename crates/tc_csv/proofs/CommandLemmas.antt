-- The command of a row, by its kind and then by its target and its time.
use Rattle.std.proofs.Common.{◌≡◌, inl, inr, ℕ, true, Option, Some, None, get_or, subst, arith, List, [], ◌∷◌, refl, sym, ◌∙◌, ap}
use Rattle.tc_types.specs.declared.requests.Command.{Command}
use Rattle.tc_types.specs.declared.requests.Command.TheVariants as command
use Rattle.tc_types.specs.Grammar.{Reads, IsCommand}
use Rattle.tc_types.specs.Schedule.{is_schedule, targets_of}
use Rattle.std.specs.List.{AllByRecursion}
use Rattle.std.specs.Prelude.{◌<◌}
use Rattle.std.specs.Fmt.{decimal}
use Rattle.std.proofs.lemmas.Fmt.{decimal_injective}
use Rattle.tc_csv.specs.declared.faults.Rule.{Rule}
use Rattle.tc_csv.specs.Faults.{KeepsAll, FirstBroken}
use Rattle.tc_csv.specs.Rows.{IsOnly}
use Rattle.tc_csv.specs.declared.stack_texts.commands.CommandKind.{CommandKind}
use Rattle.tc_stack.specs.Stacks.{IsEarlier}
use Rattle.tc_csv.specs.StackTexts.{kind_of, kind_words, IsKind, IsScheduling, IsTargetField, IsTimeField, SpellsCommand, SpellsKind, KeepsRow}
use Rattle.tc_csv.specs.CommandTexts.{IsCommandAt, SpellsRest, KeepsRest, rest_rules, command_rules}
use Rattle.tc_csv.proofs.InsertLemmas.{insert_target, insert_time}

-- a command's kind is in range where it is
kind_in : (c : Command) → IsCommand c → IsKind (kind_of c)
kind_in (command.Plain service subtype) is = is
kind_in command.EnableSchedule is = tt
kind_in command.DisableSchedule is = tt
kind_in command.ResetSchedule is = tt
kind_in (command.InsertActivities rides) is = tt
kind_in (command.DeleteActivity target) is = tt
kind_in (command.ShiftActivity target offset) is = tt
kind_in (command.ShiftAll offset) is = tt
kind_in command.SummarizeAll is = tt

pub some_same : {X : Type 0} (a b : X) → Some a ≡ Some b → a ≡ b
some_same a b same = ap (got a) same
  where
    got : {X : Type 0} → X → Option X → X
    got else None = else
    got else (Some x) = x

-- the kind that was read is the one that is spelled
kind_same : (fields : List (List ℕ)) (read other : CommandKind) → Reads kind_words IsKind (get_or fields 2 [] ∷ get_or fields 3 [] ∷ []) (Some read) → SpellsKind fields other → read ≡ other
kind_same fields read other reads spelled = some_same read other (reads.only other spelled.1 spelled.0)

-- the command that was read is the one that is spelled
pub command_only : (line : ℕ) (fields : List (List ℕ)) (read : CommandKind) (c : Command) → Reads kind_words IsKind (get_or fields 2 [] ∷ get_or fields 3 [] ∷ []) (Some read)
    → IsOnly (λ c. SpellsRest read (get_or fields 4 []) (get_or fields 5 []) c × IsCommandAt line c) c → IsOnly (λ c. SpellsCommand fields c × IsCommandAt line c) c
command_only line fields read c reads is = (
  (record { kind = reads.found.0 ∙ ap kind_words (sym is.0.0.0); target = is.0.0.1; time = is.0.0.2 }, is.0.1),
  λ other so. is.1 other ((sym (kind_same fields read (kind_of other) reads (so.0.kind, kind_in other so.1.0)), so.0.target, so.0.time), so.1),
)

-- the first rule of target and time that is broken is the first of the command's
pub command_broken : (line : ℕ) (fields : List (List ℕ)) (read : CommandKind) (service : ℕ) (broken : Rule) → Reads decimal (λ n. (0 < n) × (n < 256)) (get_or fields 2 []) (Some service)
    → Reads kind_words IsKind (get_or fields 2 [] ∷ get_or fields 3 [] ∷ []) (Some read) → FirstBroken (KeepsRest line read (get_or fields 4 []) (get_or fields 5 [])) rest_rules broken
    → FirstBroken (KeepsRow line fields) command_rules broken
command_broken line fields read service broken any reads first = inr ((service, any.found.1, any.found.0), inr ((read, (reads.found.0, reads.found.1)), by_rule first))
  where
    other_kind : (Is : CommandKind → Type 0) → (Is read → ⊥) → (k : CommandKind) → SpellsKind fields k → Is k → ⊥
    other_kind Is never k spelled is = never (subst Is (sym (kind_same fields read k reads spelled)) is)

    by_rule : FirstBroken (KeepsRest line read (get_or fields 4 []) (get_or fields 5 [])) rest_rules broken → FirstBroken (KeepsRow line fields) rest_rules broken
    by_rule (inl target) = inl (λ is. other_kind (λ k. IsTargetField line k (get_or fields 4 [])) target.0 is.0 is.1 is.2, target.1)
    by_rule (inr (kept, inl time)) = inr ((read, (reads.found.0, reads.found.1), kept), inl (λ is. other_kind (λ k. IsTimeField k (get_or fields 4 []) (get_or fields 5 [])) time.0 is.0 is.1 is.2, time.1))
    by_rule (inr (kept, inr (also, none))) = absurd none

abbrev first_word : List (List ℕ) → List ℕ
first_word words = get_or words 0 []

-- a schedule command has the service of one
pub schedule_service : (fields : List (List ℕ)) (c : Command) → SpellsCommand fields c → is_schedule c ≡ true → IsScheduling (get_or fields 2 [])
schedule_service fields (command.Plain service subtype) spelled is = cc
schedule_service fields command.EnableSchedule spelled is = ap first_word spelled.kind
schedule_service fields command.DisableSchedule spelled is = ap first_word spelled.kind
schedule_service fields command.ResetSchedule spelled is = ap first_word spelled.kind
schedule_service fields (command.InsertActivities rides) spelled is = ap first_word spelled.kind
schedule_service fields (command.DeleteActivity target) spelled is = ap first_word spelled.kind
schedule_service fields (command.ShiftActivity target offset) spelled is = ap first_word spelled.kind
schedule_service fields (command.ShiftAll offset) spelled is = ap first_word spelled.kind
schedule_service fields command.SummarizeAll spelled is = ap first_word spelled.kind

-- and what has that service is a schedule command
pub scheduled : (fields : List (List ℕ)) (c : Command) → SpellsCommand fields c → IsScheduling (get_or fields 2 []) → IsCommand c → is_schedule c ≡ true
scheduled fields (command.Plain service subtype) spelled is range =
    let same : decimal service ≡ decimal 11 = sym (ap first_word spelled.kind) ∙ is in
    let eleven : service ≡ 11 = decimal_injective service 11 (omega (arith, range.0.1)) (omega arith) same in
    absurd (range.0.2 eleven)
scheduled fields command.EnableSchedule spelled is range = refl
scheduled fields command.DisableSchedule spelled is range = refl
scheduled fields command.ResetSchedule spelled is range = refl
scheduled fields (command.InsertActivities rides) spelled is range = refl
scheduled fields (command.DeleteActivity target) spelled is range = refl
scheduled fields (command.ShiftActivity target offset) spelled is range = refl
scheduled fields (command.ShiftAll offset) spelled is range = refl
scheduled fields command.SummarizeAll spelled is range = refl

-- a command that is spelled keeps the rules of target and time
target_kept : (line : ℕ) (fields : List (List ℕ)) (c : Command) → SpellsCommand fields c → IsCommand c → AllByRecursion (IsEarlier line) (targets_of c) → IsTargetField line (kind_of c) (get_or fields 4 [])
target_kept line fields (command.Plain service subtype) spelled range earlier = spelled.target
target_kept line fields command.EnableSchedule spelled range earlier = spelled.target
target_kept line fields command.DisableSchedule spelled range earlier = spelled.target
target_kept line fields command.ResetSchedule spelled range earlier = spelled.target
target_kept line fields (command.InsertActivities rides) spelled range earlier = insert_target line (get_or fields 4 []) rides range earlier spelled.target
target_kept line fields (command.DeleteActivity target) spelled range earlier = (target, earlier.0, spelled.target)
target_kept line fields (command.ShiftActivity target offset) spelled range earlier = (target, earlier.0, spelled.target)
target_kept line fields (command.ShiftAll offset) spelled range earlier = spelled.target
target_kept line fields command.SummarizeAll spelled range earlier = spelled.target

time_kept : (fields : List (List ℕ)) (c : Command) → SpellsCommand fields c → IsCommand c → IsTimeField (kind_of c) (get_or fields 4 []) (get_or fields 5 [])
time_kept fields (command.Plain service subtype) spelled range = spelled.time
time_kept fields command.EnableSchedule spelled range = spelled.time
time_kept fields command.DisableSchedule spelled range = spelled.time
time_kept fields command.ResetSchedule spelled range = spelled.time
time_kept fields (command.InsertActivities rides) spelled range = insert_time (get_or fields 4 []) (get_or fields 5 []) rides range spelled.target spelled.time
time_kept fields (command.DeleteActivity target) spelled range = spelled.time
time_kept fields (command.ShiftActivity target offset) spelled range = (offset, range.1, spelled.time)
time_kept fields (command.ShiftAll offset) spelled range = (offset, range, spelled.time)
time_kept fields command.SummarizeAll spelled range = spelled.time

-- the service of a command in range is one
service_in : (fields : List (List ℕ)) (c : Command) → SpellsCommand fields c → IsCommand c → (service : ℕ) × ((0 < service) × (service < 256)) × (get_or fields 2 [] ≡ decimal service)
service_in fields (command.Plain service subtype) spelled range = (service, (range.0.0, range.0.1), ap first_word spelled.kind)
service_in fields command.EnableSchedule spelled range = (11, (omega arith, omega arith), ap first_word spelled.kind)
service_in fields command.DisableSchedule spelled range = (11, (omega arith, omega arith), ap first_word spelled.kind)
service_in fields command.ResetSchedule spelled range = (11, (omega arith, omega arith), ap first_word spelled.kind)
service_in fields (command.InsertActivities rides) spelled range = (11, (omega arith, omega arith), ap first_word spelled.kind)
service_in fields (command.DeleteActivity target) spelled range = (11, (omega arith, omega arith), ap first_word spelled.kind)
service_in fields (command.ShiftActivity target offset) spelled range = (11, (omega arith, omega arith), ap first_word spelled.kind)
service_in fields (command.ShiftAll offset) spelled range = (11, (omega arith, omega arith), ap first_word spelled.kind)
service_in fields command.SummarizeAll spelled range = (11, (omega arith, omega arith), ap first_word spelled.kind)

-- a command that is spelled keeps all rules of one
pub command_keeps : (line : ℕ) (fields : List (List ℕ)) (c : Command) → SpellsCommand fields c → IsCommand c → AllByRecursion (IsEarlier line) (targets_of c) → KeepsAll (KeepsRow line fields) command_rules
command_keeps line fields c spelled range earlier =
    let kind : SpellsKind fields (kind_of c) = (spelled.kind, kind_in c range) in
    (service_in fields c spelled range, ((kind_of c, kind), ((kind_of c, kind, target_kept line fields c spelled range earlier), ((kind_of c, kind, time_kept fields c spelled range), tt))))
