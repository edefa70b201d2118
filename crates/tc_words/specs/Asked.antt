-- What the matches of a command line's words ask for.
use Rattle.std.specs.Prelude.{◌≡◌, ◌⊎◌, if◌then◌else◌, ℕ, Bool, List, Option, None, Some, codes, false, nat_lt, unwrap_or}
use Rattle.std.specs.Fmt.{decimal}
use Rattle.std.specs.Str.{bytes_eq}
use Rattle.std.specs.Str.Parse.{digits_value, without_leading_plus}
use Rattle.clap.specs.ValueTests.{accepts}
use Rattle.clap.specs.Words.{Row, Text, count_of, first_of, one_of}
use Rattle.clap.specs.declared.builder.value_parser.ValueParser.TheVariants as parser
use Rattle.tc_types.specs.Numbers.{IsMoment}
use Rattle.tc_csv.specs.StackTexts.{IsInstant}
use Rattle.tc_world.specs.declared.configs.TheConstants.{GREATEST_RING}

-- a server's port, after how many connections it ends if after any, a further name by which it is called, whether it ends with the standard input and when the desk has stopped, and whether
-- all is told
pub record Terms : Type 0 where
  pub port : ℕ
  pub count : Option ℕ
  pub host : Option Text
  pub until_eof : Bool
  pub end_when_stopped : Bool
  pub verbose : Bool

-- A command with what it was given. Where a desk is made or opened, its window, its channel and how many items the rings of its links hold,
-- where they are rings, and what stands for the moment of its opening; where it is kept in a file, that file. A run has a script, and whether each line is shown before its answer and all is
-- told; a report what stands for FROM and TO; a backup the file that is copied to; a wall its file alone; a server its terms; a loop a script, the number of
-- the first line that it sends, whether all numbers have to be new, and what a run has besides; a check what stands for KIND, and a file; octets the file of a profile,
-- if one was given, what stands for LAYER, and for HEX.
pub data Asked : Type 0 where
  run : (script : Text) (window channel : ℕ) (ring : Option ℕ) (moment : Text) (echo verbose : Bool) → Asked
  run_kept : (script : Text) (window channel : ℕ) (ring : Option ℕ) (database moment : Text) (echo verbose : Bool) → Asked
  report : (database begins ends : Text) → Asked
  backup : (database copy : Text) → Asked
  wall : (database : Text) → Asked
  check : (kind file : Text) → Asked
  octets : (profile : Option Text) (layer hex : Text) → Asked
  serve : (database : Text) (terms : Terms) (window channel : ℕ) (ring : Option ℕ) (moment : Text) → Asked
  loop : (database script : Text) (window channel : ℕ) (ring : Option ℕ) (moment : Text) (first : ℕ) (only_new echo verbose : Bool) → Asked

-- ---- what the arguments were given

-- the text that was given for an argument, or `-` where there was none
abbrev pub given : Text → List Row → Text
given id rows = unwrap_or (first_of id rows) (codes "-")

-- The number that a text writes where that is one from least to most, and else none. The command's parser lets no other text
-- through.
abbrev pub number_within : ℕ → ℕ → Option Text → Option ℕ
number_within least most None = None
number_within least most (Some text) =
    if accepts false (parser.Unsigned least most) text then Some (digits_value 10 (without_leading_plus text)) else None

-- the same, and where there is none another
abbrev pub number_in : ℕ → ℕ → ℕ → Option Text → ℕ
number_in least most other text = unwrap_or (number_within least most text) other

-- the window that was given, or stands in the rows by default
abbrev pub given_window : List Row → ℕ
given_window rows = number_in 2 254 20 (one_of (codes "w") rows)

-- the channel that was given, or stands in the rows by default
abbrev pub given_channel : List Row → ℕ
given_channel rows = number_in 0 63 3 (one_of (codes "vc") rows)

-- how many items the rings hold, where a number of them was given
abbrev pub given_ring : List Row → Option ℕ
given_ring rows = number_within 1 GREATEST_RING (one_of (codes "ring") rows)

-- what was given for the moment of the opening, or stands in the rows by default
abbrev pub given_moment : List Row → Text
given_moment rows = given (codes "at") rows

-- the port that was given
abbrev pub given_port : List Row → ℕ
given_port rows = number_in 1 65535 1 (one_of (codes "PORT") rows)

-- how many connections were given, if they were
abbrev pub given_count : List Row → Option ℕ
given_count rows = number_within 1 1000000 (one_of (codes "COUNT") rows)

-- the number of the first line that is sent, as it was given, or stands in the rows by default
abbrev pub given_first : List Row → ℕ
given_first rows = number_in 1 4294967295 1 (one_of (codes "first") rows)

-- an option was given that has no value
abbrev pub given_flag : Text → List Row → Bool
given_flag id rows = nat_lt 0 (count_of id rows)

-- whether the numbers of the lines have to be new
abbrev pub given_only_new : List Row → Bool
given_only_new rows = given_flag (codes "new") rows

-- whether each line is to be shown before its answer
abbrev pub given_echo : List Row → Bool
given_echo rows = given_flag (codes "echo") rows

-- whether all is to be told
abbrev pub given_verbose : List Row → Bool
given_verbose rows = given_flag (codes "verbose") rows

-- the terms of a server
abbrev pub given_terms : List Row → Terms
given_terms rows = record {
  port = given_port rows;
  count = given_count rows;
  host = first_of (codes "host") rows;
  until_eof = given_flag (codes "until-eof") rows;
  end_when_stopped = given_flag (codes "end-when-stopped") rows;
  verbose = given_verbose rows;
}

-- ---- what the commands were given

-- what a run was given, where a database file was, or none
abbrev pub asked_with : Option Text → List Row → Asked
asked_with None rows =
    run (given (codes "SCRIPT") rows) (given_window rows) (given_channel rows) (given_ring rows) (given_moment rows) (given_echo rows) (given_verbose rows)
asked_with (Some database) rows =
    run_kept (given (codes "SCRIPT") rows) (given_window rows) (given_channel rows) (given_ring rows) database (given_moment rows) (given_echo rows)
    (given_verbose rows)

-- what a run was given
abbrev pub asked_run : List Row → Asked
asked_run rows = asked_with (first_of (codes "db") rows) rows

-- what a report was given
abbrev pub asked_report : List Row → Asked
asked_report rows = report (given (codes "DB") rows) (given (codes "FROM") rows) (given (codes "TO") rows)

-- what a backup was given
abbrev pub asked_backup : List Row → Asked
asked_backup rows = backup (given (codes "DB") rows) (given (codes "COPY") rows)

-- what a wall was given
abbrev pub asked_wall : List Row → Asked
asked_wall rows = wall (given (codes "DB") rows)

-- the word of a script, as the kind of a file
abbrev pub script_word : Text
script_word = codes "script"

-- what a check was given
abbrev pub asked_check : List Row → Asked
asked_check rows = check (given (codes "KIND") rows) (given (codes "FILE") rows)

-- what octets were given
abbrev pub asked_octets : List Row → Asked
asked_octets rows = octets (first_of (codes "profile") rows) (given (codes "LAYER") rows) (given (codes "HEX") rows)

-- what a server was given
abbrev pub asked_serve : List Row → Asked
asked_serve rows = serve (given (codes "DB") rows) (given_terms rows) (given_window rows) (given_channel rows) (given_ring rows) (given_moment rows)

-- what a loop was given
abbrev pub asked_loop : List Row → Asked
asked_loop rows =
    loop (given (codes "DB") rows) (given (codes "SCRIPT") rows) (given_window rows) (given_channel rows) (given_ring rows) (given_moment rows)
    (given_first rows) (given_only_new rows) (given_echo rows) (given_verbose rows)

-- what the command of this name was given
abbrev pub asked_of : Text → List Row → Asked
asked_of name rows =
    if bytes_eq name (codes "report") then asked_report rows else
    if bytes_eq name (codes "backup") then asked_backup rows else
    if bytes_eq name (codes "board") then asked_wall rows else
    if bytes_eq name (codes "check") then asked_check rows else
    if bytes_eq name (codes "octets") then asked_octets rows else
    if bytes_eq name (codes "serve") then asked_serve rows else
    if bytes_eq name (codes "loop") then asked_loop rows else asked_run rows

-- what the matches of a command ask for, where none is `run -`
abbrev pub asked : Option (Text × List Row) → Asked
asked None = run (codes "-") 20 3 None (codes "0") false false
asked (Some command) = asked_of command.0 command.1

-- ---- moments

-- a text spells a moment: as Unix seconds, or as an instant
abbrev pub SpellsMoment : ℕ → Text → Type 0
SpellsMoment moment text = IsMoment moment × ((text ≡ decimal moment) ⊎ IsInstant moment text)

abbrev pub SpellsNoMoment : Text → Type 0
SpellsNoMoment text = (moment : ℕ) → ¬ SpellsMoment moment text
