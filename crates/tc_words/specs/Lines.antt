-- What a line of the program is of what its words ask for, and why they ask for nothing.
use Rattle.std.specs.Prelude.{◌%◌, ◌≡◌, ◌⊎◌, ◌↔◌, ◌||◌, ⊤, ℕ, [], Bool, IfSome, Option, None, Some, is_none, option_map}
use Rattle.clap.specs.Words.{IsAmong, Kinds, Text, kind_of}
use Rattle.clap.specs.declared.error.Error.{Error}
use Rattle.clap.specs.declared.error.kind.ErrorKind.TheVariants.{OutOfMemory}
use Rattle.tc_types.specs.Loads.{kind_word}
use Rattle.tc_types.specs.declared.loads.LoadKind.{LoadKind}
use Rattle.tc_world.specs.Config.{IsConfig}
use Rattle.tc_world.specs.declared.configs.Config.{Config}
use Rattle.tc_words.specs.Asked.{Asked, SpellsMoment, SpellsNoMoment, Terms, backup, wall, check, loop, octets, report, run, run_kept, script_word, serve}
use Rattle.tc_words.specs.Layers.{layer_word}
use Rattle.tc_words.specs.declared.layers.Layer.{Layer}
use Rattle.tc_words.specs.declared.lines.CommandLine.{CommandLine}
use Rattle.tc_words.specs.declared.lines.CommandLine.TheVariants.{Backup, Wall, Check, CheckScript, Loop, Octets, Report, Run, RunKept, Serve}
use Rattle.tc_words.specs.declared.lines.Service.{Service}
use Rattle.tc_words.specs.declared.lines.UsageFault.{UsageFault}
use Rattle.tc_words.specs.declared.lines.UsageFault.TheVariants.{Memory, NoKind, NoLayer, NoMoment, NoOpening, OddWindow, Words}

-- the terms of a server, with the bytes of its name
abbrev pub terms_of : Service → Terms
terms_of service = record {
  port = service.port;
  count = service.count;
  host = option_map (λ host. host.now) service.host;
  until_eof = service.until_eof;
  end_when_stopped = service.end_when_stopped;
  verbose = service.verbose;
}

-- it ends once its desk has stopped: if it has no count, or if that is asked for
abbrev pub ends_with_desk : Service → Bool
ends_with_desk service = is_none service.count || service.end_when_stopped

-- A line asks for this. What stands for the moment of an opening, and for a report's FROM and TO, spells it, also where a new desk is not opened at any; the KIND of a check is the word of its
-- kind, or that of a script; the LAYER of octets is the word of their layer.
abbrev pub AsksFor : CommandLine → Asked → Type 0
AsksFor (Run script config telling) asked =
    (begins : Text) × (moment : ℕ) × SpellsMoment moment begins
    × (asked ≡ run script.now config.window config.channel config.ring begins telling.echo telling.verbose)
AsksFor (RunKept script config database moment telling) asked =
    (begins : Text) × SpellsMoment moment begins
    × (asked ≡ run_kept script.now config.window config.channel config.ring database.now begins telling.echo telling.verbose)
AsksFor (Report database from to) asked =
    (begins ends : Text) × SpellsMoment from begins × SpellsMoment to ends × (asked ≡ report database.now begins ends)
AsksFor (Backup database copy) asked = asked ≡ backup database.now copy.now
AsksFor (Wall database) asked = asked ≡ wall database.now
AsksFor (Check kind file) asked = asked ≡ check (kind_word kind) file.now
AsksFor (CheckScript file) asked = asked ≡ check script_word file.now
AsksFor (Octets profile layer hex) asked = asked ≡ octets (option_map (λ path. path.now) profile) (layer_word layer) hex.now
AsksFor (Serve database service config moment) asked =
    (begins : Text) × SpellsMoment moment begins × (asked ≡ serve database.now (terms_of service) config.window config.channel config.ring begins)
AsksFor (Loop database script config moment numbers telling) asked =
    (begins : Text) × SpellsMoment moment begins
    × (asked ≡ loop database.now script.now config.window config.channel config.ring begins numbers.first numbers.only_new telling.echo telling.verbose)

-- what the desk of a line is made or opened with
abbrev pub config_of : CommandLine → Option Config
config_of (Run script config telling) = Some config
config_of (RunKept script config database moment telling) = Some config
config_of (Report database from to) = None
config_of (Backup database copy) = None
config_of (Wall database) = None
config_of (Check kind file) = None
config_of (CheckScript file) = None
config_of (Octets profile layer hex) = None
config_of (Serve database service config moment) = Some config
config_of (Loop database script config moment numbers telling) = Some config

-- a line asks for this, and what its desk is made or opened with may be chosen
pub record IsLineFor (line : CommandLine) (asked : Asked) : Type 0 where
  pub asks : AsksFor line asked
  pub fit : IfSome (config_of line) IsConfig

-- the window that is asked for is odd
abbrev pub AsksOddWindow : Asked → Type 0
AsksOddWindow (run script window channel ring moment echo verbose) = window % 2 ≡ 1
AsksOddWindow (run_kept script window channel ring database moment echo verbose) = window % 2 ≡ 1
AsksOddWindow (report database begins ends) = ⊥
AsksOddWindow (backup database copy) = ⊥
AsksOddWindow (wall database) = ⊥
AsksOddWindow (check kind file) = ⊥
AsksOddWindow (octets profile layer hex) = ⊥
AsksOddWindow (serve database terms window channel ring moment) = window % 2 ≡ 1
AsksOddWindow (loop database script window channel ring moment first only_new echo verbose) = window % 2 ≡ 1

-- a report is asked for, whose FROM or TO is this word, which spells no moment
abbrev pub AsksNoMoment : Asked → Text → Type 0
AsksNoMoment (report database begins ends) word = ((word ≡ begins) ⊎ (word ≡ ends)) × SpellsNoMoment word
AsksNoMoment other word = ⊥

-- a desk is to be opened at what is this word, which spells no moment
abbrev pub AsksNoOpening : Asked → Text → Type 0
AsksNoOpening (run script window channel ring moment echo verbose) word = (word ≡ moment) × SpellsNoMoment word
AsksNoOpening (run_kept script window channel ring database moment echo verbose) word = (word ≡ moment) × SpellsNoMoment word
AsksNoOpening (serve database terms window channel ring moment) word = (word ≡ moment) × SpellsNoMoment word
AsksNoOpening (loop database script window channel ring moment first only_new echo verbose) word = (word ≡ moment) × SpellsNoMoment word
AsksNoOpening other word = ⊥

-- a check is asked for, whose KIND is this word, which is that of no kind, and not that of a script
abbrev pub AsksNoKind : Asked → Text → Type 0
AsksNoKind (check kind file) word = (word ≡ kind) × ((some : LoadKind) → ¬ (word ≡ kind_word some)) × (¬ (word ≡ script_word))
AsksNoKind other word = ⊥

-- octets are asked for, whose LAYER is this word, which is that of no layer
abbrev pub AsksNoLayer : Asked → Text → Type 0
AsksNoLayer (octets profile layer hex) word = (word ≡ layer) × ((some : Layer) → ¬ (word ≡ layer_word some))
AsksNoLayer other word = ⊥

-- why what is asked for is not done, and the word that is wrong
abbrev pub IsFaultOf : Asked → UsageFault → Type 0
IsFaultOf asked OddWindow = AsksOddWindow asked
IsFaultOf asked (NoMoment word) = AsksNoMoment asked word.now
IsFaultOf asked (NoOpening word) = AsksNoOpening asked word.now
IsFaultOf asked (NoKind word) = AsksNoKind asked word.now
IsFaultOf asked (NoLayer word) = AsksNoLayer asked word.now
IsFaultOf asked other = ⊥

-- A fault is told only where it is so: an error of `clap` where `clap` finds such a fault in the words; and what is wrong with a word where
-- `clap` finds none, and the word is.
abbrev pub IsTold : Kinds → Asked → UsageFault → Type 0
IsTold faults asked (Words error) = IsAmong (kind_of error) faults
IsTold faults asked Memory = ⊤
IsTold faults asked own = (faults ≡ []) × IsFaultOf asked own

-- what an error of `clap` is told as: refused memory, and nothing else, as such; any other as it is
pub record IsToldAs (error : Error) (fault : UsageFault) : Type 0 where
  pub refused : (kind_of error ≡ OutOfMemory) ↔ (fault ≡ Memory)
  pub either : (fault ≡ Memory) ⊎ (fault ≡ Words error)
