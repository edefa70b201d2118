-- A row of a stack, read part by part.
use Rattle.std.proofs.Common.{◌≡◌, ℕ, true, List, [], get_or, ◌++◌, refl, ◌∙◌}
use Rattle.tc_types.specs.declared.requests.Command.{Command}
use Rattle.tc_types.specs.declared.requests.Form.{Form}
use Rattle.tc_types.specs.declared.requests.Outcome.TheVariants.{Completes}
use Rattle.tc_types.specs.Schedule.{KeepsScheduleRule}
use Rattle.tc_csv.specs.declared.faults.Rule.{Rule}
use Rattle.tc_csv.specs.Faults.{KeepsAll, FirstBroken}
use Rattle.tc_csv.specs.Rows.{IsOnly}
use Rattle.tc_csv.proofs.RowLemmas.{broken_among, broken_behind}
use Rattle.tc_csv.specs.declared.stack_texts.stack_rows.Conduct.{Conduct}
use Rattle.tc_stack.specs.declared.stacks.StackRow.{StackRow}
use Rattle.tc_csv.specs.StackTexts.{IsScheduling, SpellsCommand, SpellsRow, KeepsRow, row_rules}
use Rattle.tc_csv.specs.CommandTexts.{IsCommandAt, command_rules}
use Rattle.tc_csv.specs.RowTexts.{ReadsPlace, ReadsConduct, place_rules, conduct_rules}
use Rattle.tc_csv.proofs.CommandLemmas.{schedule_service, scheduled, some_same, command_keeps}

-- what was read keeps the rule of the on-board schedule's commands
pub schedule_kept : (line : ℕ) (fields : List (List ℕ)) (c : Command) (conduct : Conduct) (form : Form) → SpellsCommand fields c → ReadsConduct line fields conduct
    → form.command ≡ c → form.ack ≡ conduct.ack → form.outcome ≡ conduct.outcome → KeepsScheduleRule form
schedule_kept line fields c conduct form spelled reads command ack outcome =
    record {
      completion = λ is. rw ack (reads.ack.found.1 (schedule_service fields c spelled (rw command at is)));
      completes = λ is. outcome ∙ reads.outcome.found.1.1 (schedule_service fields c spelled (rw command at is));
    }

-- the row that was read is the one that is spelled
pub row_only : (line : ℕ) (fields : List (List ℕ)) (apid : ℕ) (c : Command) (conduct : Conduct) → ReadsPlace line fields apid → IsOnly (λ c. SpellsCommand fields c × IsCommandAt line c) c
    → ReadsConduct line fields conduct
    → IsOnly (SpellsRow line fields) (record { entry = record { apid = apid; ack = conduct.ack; critical = conduct.critical; command = c; outcome = conduct.outcome }; after = conduct.after })
row_only line fields apid c conduct place command reads = (
  record {
    count = place.count;
    number = place.number;
    apid = place.apid.found.0;
    command = command.0.0;
    ack = reads.ack.found.0;
    critical = reads.critical.found.0;
    after = reads.after.found.0;
    outcome = reads.outcome.found.0;
    stands = record {
      entry = record {
        apid = place.apid.found.1;
        command = command.0.1.0;
        outcome = reads.outcome.found.1.0;
        schedule = schedule_kept line fields c conduct form command.0.0 reads refl refl refl;
      };
      targets = command.0.1.1;
      after = reads.after.found.1;
    };
  },
  only,
)
  where
    form : Form
    form = record { apid = apid; ack = conduct.ack; critical = conduct.critical; command = c; outcome = conduct.outcome }

    only : (other : StackRow) → SpellsRow line fields other → record { entry = form; after = conduct.after } ≡ other
    only other is =
        let same_apid = some_same apid other.entry.apid (place.apid.only other.entry.apid is.stands.entry.apid is.apid) in
        let same_command = command.1 other.entry.command (is.command, (is.stands.entry.command, is.stands.targets)) in
        let completion : IsScheduling (get_or fields 2 []) → other.entry.ack.completion ≡ true = λ scheduling. is.stands.entry.schedule.completion (scheduled fields other.entry.command is.command scheduling is.stands.entry.command) in
        let completes : IsScheduling (get_or fields 2 []) → other.entry.outcome ≡ Completes = λ scheduling. is.stands.entry.schedule.completes (scheduled fields other.entry.command is.command scheduling is.stands.entry.command) in
        let same_ack = some_same conduct.ack other.entry.ack (reads.ack.only other.entry.ack completion is.ack) in
        let same_critical = some_same conduct.critical other.entry.critical (reads.critical.only other.entry.critical tt is.critical) in
        let same_after = some_same conduct.after other.after (reads.after.only other.after is.stands.after is.after) in
        let same_outcome = some_same conduct.outcome other.entry.outcome (reads.outcome.only other.entry.outcome (is.stands.entry.outcome, completes) is.outcome) in
        λ i. record {
          entry = record { apid = same_apid i; ack = same_ack i; critical = same_critical i; command = same_command i; outcome = same_outcome i };
          after = same_after i;
        }

-- the first rule of a part that is broken is the first of the row's
pub place_broken : (line : ℕ) (fields : List (List ℕ)) (broken : Rule) → FirstBroken (KeepsRow line fields) place_rules broken → FirstBroken (KeepsRow line fields) row_rules broken
place_broken line fields broken first = broken_among (KeepsRow line fields) place_rules (command_rules ++ conduct_rules) broken first

place_keeps : (line : ℕ) (fields : List (List ℕ)) (apid : ℕ) → ReadsPlace line fields apid → KeepsAll (KeepsRow line fields) place_rules
place_keeps line fields apid place = (place.count, (place.number, ((apid, place.apid.found.1, place.apid.found.0), tt)))

pub command_part_broken : (line : ℕ) (fields : List (List ℕ)) (apid : ℕ) (broken : Rule) → ReadsPlace line fields apid → FirstBroken (KeepsRow line fields) command_rules broken → FirstBroken (KeepsRow line fields) row_rules broken
command_part_broken line fields apid broken place first =
    broken_behind (KeepsRow line fields) place_rules (command_rules ++ conduct_rules) broken (place_keeps line fields apid place) (broken_among (KeepsRow line fields) command_rules conduct_rules broken first)

pub conduct_broken : (line : ℕ) (fields : List (List ℕ)) (apid : ℕ) (c : Command) (broken : Rule) → ReadsPlace line fields apid → SpellsCommand fields c × IsCommandAt line c
    → FirstBroken (KeepsRow line fields) conduct_rules broken → FirstBroken (KeepsRow line fields) row_rules broken
conduct_broken line fields apid c broken place command first =
    broken_behind (KeepsRow line fields) place_rules (command_rules ++ conduct_rules) broken (place_keeps line fields apid place)
    (broken_behind (KeepsRow line fields) command_rules conduct_rules broken (command_keeps line fields c command.0 command.1.0 command.1.1) first)
