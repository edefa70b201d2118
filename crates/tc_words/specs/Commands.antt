-- The commands of the program, as `clap` takes them.
use Rattle.std.specs.Prelude.{[], ◌∷◌, Some, codes, true}
use Rattle.clap.specs.Words.{App, Rule, Text, new_app, new_rule, with_rule, with_subcommand}
use Rattle.clap.specs.declared.builder.action.ArgAction.TheVariants.{Count}
use Rattle.clap.specs.declared.builder.value_parser.ValueParser.TheVariants as parser
use Rattle.tc_world.specs.declared.configs.TheConstants.{GREATEST_RING}

-- ---- the arguments

-- a positional argument that has to be given
abbrev pub required_rule : Text → Rule
required_rule id = record (new_rule id) { required = true }

-- SCRIPT: the path of a script, or `-` for the standard input
abbrev pub script_rule : Rule
script_rule = required_rule (codes "SCRIPT")

-- KIND: what a file holds
abbrev pub kind_rule : Rule
kind_rule = required_rule (codes "KIND")

-- FILE: the path of a file that is checked, or `-` for the standard input
abbrev pub checked_rule : Rule
checked_rule = required_rule (codes "FILE")

-- --profile FILE: the file that says how the link is set
abbrev pub profile_rule : Rule
profile_rule = record (new_rule (codes "profile")) {
  long = Some (codes "profile");
  value_names = 1;
}

-- LAYER: what octets are
abbrev pub layer_rule : Rule
layer_rule = required_rule (codes "LAYER")

-- HEX: octets, or `-` for the lines of the standard input
abbrev pub hex_rule : Rule
hex_rule = required_rule (codes "HEX")

-- DB: the database file that keeps a desk
abbrev pub file_rule : Rule
file_rule = required_rule (codes "DB")

-- COPY: the file that a desk is copied to
abbrev pub copy_rule : Rule
copy_rule = required_rule (codes "COPY")

-- FROM: the first moment of a shift
abbrev pub from_rule : Rule
from_rule = required_rule (codes "FROM")

-- TO: the first moment after the shift
abbrev pub to_rule : Rule
to_rule = required_rule (codes "TO")

-- PORT: the port at which a desk is served, 1 to 65,535
abbrev pub port_rule : Rule
port_rule = record (required_rule (codes "PORT")) { parser = Some (parser.Unsigned 1 65535) }

-- COUNT: after how many connections a server ends, 1 to 1,000,000, and after none where it is not given
abbrev pub count_rule : Rule
count_rule = record (new_rule (codes "COUNT")) { parser = Some (parser.Unsigned 1 1000000) }

-- an option that has no value
abbrev pub flag_rule : Text → Rule
flag_rule name = record (new_rule name) {
  long = Some name;
  action = Some Count;
}

-- --echo: whether each line is shown before its answer
abbrev pub echo_rule : Rule
echo_rule = flag_rule (codes "echo")

-- --verbose: whether all is told
abbrev pub verbose_rule : Rule
verbose_rule = flag_rule (codes "verbose")

-- --host NAME: a further name by which a server is called
abbrev pub host_rule : Rule
host_rule = record (new_rule (codes "host")) {
  long = Some (codes "host");
  value_names = 1;
}

-- --until-eof: whether a server ends with the standard input
abbrev pub until_eof_rule : Rule
until_eof_rule = flag_rule (codes "until-eof")

-- --end-when-stopped: whether a server that has a count ends when the desk has stopped
abbrev pub end_when_stopped_rule : Rule
end_when_stopped_rule = flag_rule (codes "end-when-stopped")

-- --w N: the window W of the FARM, 2 to 254, and 20 where it is not given
abbrev pub window_rule : Rule
window_rule = record (new_rule (codes "w")) {
  long = Some (codes "w");
  value_names = 1;
  defaults = codes "20" ∷ [];
  parser = Some (parser.Unsigned 2 254);
}

-- --vc N: the virtual channel, 0 to 63, and 3 where it is not given
abbrev pub channel_rule : Rule
channel_rule = record (new_rule (codes "vc")) {
  long = Some (codes "vc");
  value_names = 1;
  defaults = codes "3" ∷ [];
  parser = Some (parser.Unsigned 0 63);
}

-- --ring N: links that are rings of N items, 1 to 4,096, and lists where it is not given
abbrev pub ring_rule : Rule
ring_rule = record (new_rule (codes "ring")) {
  long = Some (codes "ring");
  value_names = 1;
  parser = Some (parser.Unsigned 1 GREATEST_RING);
}

-- --db FILE: the database file that keeps the desk; a new desk where it is not given
abbrev pub database_rule : Rule
database_rule = record (new_rule (codes "db")) {
  long = Some (codes "db");
  value_names = 1;
}

-- --at MOMENT: when the desk in the file is opened, and 0 where it is not given
abbrev pub moment_rule : Rule
moment_rule = record (new_rule (codes "at")) {
  long = Some (codes "at");
  value_names = 1;
  defaults = codes "0" ∷ [];
}

-- --first N: the number of the first line that is sent, 1 to 4,294,967,295, and 1 where it is not given
abbrev pub first_rule : Rule
first_rule = record (new_rule (codes "first")) {
  long = Some (codes "first");
  value_names = 1;
  defaults = codes "1" ∷ [];
  parser = Some (parser.Unsigned 1 4294967295);
}

-- --new: whether nothing is sent if a number of a line was used before
abbrev pub only_new_rule : Rule
only_new_rule = flag_rule (codes "new")

-- ---- the commands, each of whose options stands at most once

-- .. [--w N] [--vc N] [--ring N]
abbrev pub with_link : App → App
with_link app = with_rule (with_rule (with_rule app window_rule) channel_rule) ring_rule

-- run SCRIPT [--w N] [--vc N] [--ring N]
abbrev pub script_app : App
script_app = with_link (with_rule (new_app (codes "run")) script_rule)

-- .. [--db FILE] [--at MOMENT]
abbrev pub with_database : App → App
with_database app = with_rule (with_rule app database_rule) moment_rule

-- .. [--echo] [--verbose]
abbrev pub with_told : App → App
with_told app = with_rule (with_rule app echo_rule) verbose_rule

abbrev pub run_app : App
run_app = with_told (with_database script_app)

-- report DB FROM TO
abbrev pub report_app : App
report_app = with_rule (with_rule (with_rule (new_app (codes "report")) file_rule) from_rule) to_rule

-- backup DB COPY
abbrev pub backup_app : App
backup_app = with_rule (with_rule (new_app (codes "backup")) file_rule) copy_rule

-- wall DB
abbrev pub wall_app : App
wall_app = with_rule (new_app (codes "board")) file_rule

-- check KIND FILE
abbrev pub check_app : App
check_app = with_rule (with_rule (new_app (codes "check")) kind_rule) checked_rule

-- octets [--profile FILE] LAYER HEX
abbrev pub octets_app : App
octets_app = with_rule (with_rule (with_rule (new_app (codes "octets")) profile_rule) layer_rule) hex_rule

-- .. [--w N] [--vc N] [--ring N] [--at MOMENT]
abbrev pub with_desk : App → App
with_desk app = with_rule (with_link app) moment_rule

-- serve DB PORT [COUNT]
abbrev pub bare_serve_app : App
bare_serve_app = with_rule (with_rule (with_rule (new_app (codes "serve")) file_rule) port_rule) count_rule

-- .. [--host NAME] [--until-eof] [--end-when-stopped] [--verbose]
abbrev pub with_ends : App → App
with_ends app = with_rule (with_rule (with_rule (with_rule app host_rule) until_eof_rule) end_when_stopped_rule) verbose_rule

abbrev pub serve_app : App
serve_app = with_ends (with_desk bare_serve_app)

-- .. [--first N] [--new]
abbrev pub with_numbers : App → App
with_numbers app = with_rule (with_rule app first_rule) only_new_rule

-- loop DB SCRIPT [--w N] [--vc N] [--ring N] [--at MOMENT] [--first N] [--new]
abbrev pub send_app : App
send_app = with_numbers (with_desk (with_rule (with_rule (new_app (codes "loop")) file_rule) script_rule))

abbrev pub loop_app : App
loop_app = with_told send_app

-- the program's name, without its commands; one of them has to be named, and it has a version
abbrev pub bare_app : App
bare_app = let new = new_app (codes "tcdesk") in
    record new { top = record new.top { subcommand_required = true; has_version = true } }

-- the program, with the commands that run a script, or print what one came to
abbrev pub script_apps : App
script_apps = with_subcommand (with_subcommand bare_app run_app.top) report_app.top

-- .. with the one that copies a desk
abbrev pub with_backup : App → App
with_backup app = with_subcommand app backup_app.top

-- .. with the one that prints the wall of one
abbrev pub with_wall : App → App
with_wall app = with_subcommand app wall_app.top

-- .. with the one that checks a file
abbrev pub with_check : App → App
with_check app = with_subcommand app check_app.top

-- .. with the one that says what octets mean
abbrev pub with_octets : App → App
with_octets app = with_subcommand app octets_app.top

-- .. and with those that serve a desk over HTTP
abbrev pub with_http : App → App
with_http app = with_subcommand (with_subcommand app serve_app.top) loop_app.top

-- the program, with its commands
abbrev pub desk_app : App
desk_app = with_http (with_octets (with_check (with_wall (with_backup script_apps))))
