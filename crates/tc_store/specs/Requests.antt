-- The table `request`: one row for each request that was entered, and where it stands, by its number.
use Rattle.std.specs.Prelude.{ℕ, ◌+◌, ℤ, pos, true, false, if◌then◌else◌, unwrap_or, List, [], ◌∷◌, codes, Option, Some, None}
use Rattle.sqlite_value.specs.declared.value.Value.TheVariants.{Null, Int, Text}
use Rattle.sqlite_value.specs.Order.{Row}
use Rattle.sqlite_schema.specs.declared.schema.Kind.TheVariants as kind
use Rattle.sqlite_sql.specs.Term.{Term, lit, col}
use Rattle.tc_types.specs.declared.requests.Ack.{Ack}
use Rattle.tc_types.specs.declared.requests.Origin.{Origin}
use Rattle.tc_types.specs.declared.requests.Command.{Command}
use Rattle.tc_types.specs.declared.requests.Command.TheVariants as command
use Rattle.tc_types.specs.declared.tables.rows.PlacedRequest.{PlacedRequest}
use Rattle.tc_types.specs.Grammar.{outcome_word}
use Rattle.tc_types.specs.Lawful.{place_number}
use Rattle.tc_sql.specs.Forms.{Form, column_of}
use Rattle.tc_store.specs.declared.requests.TheConstants.{CREATE, PUT, PUT_PLACED}

abbrev pub request_tree : ℕ
request_tree = 2

abbrev pub request_form : Form
request_form = record {
  name = codes "request";
  columns = column_of (codes "num") kind.Integer false ∷ column_of (codes "apid") kind.Integer true ∷ column_of (codes "cnt") kind.Integer true ∷ column_of (codes "ack") kind.Integer true
      ∷ column_of (codes "critical") kind.Integer true ∷ column_of (codes "service") kind.Integer true ∷ column_of (codes "subtype") kind.Integer true
      ∷ column_of (codes "target") kind.Integer true ∷ column_of (codes "at_time") kind.Integer true ∷ column_of (codes "outcome") kind.Text true
      ∷ column_of (codes "author") kind.Text true ∷ column_of (codes "stack") kind.Text true ∷ column_of (codes "line") kind.Integer true ∷ column_of (codes "prior") kind.Integer true
      ∷ column_of (codes "place") kind.Integer true ∷ [];
  key = Some 0;
  primary = 0 ∷ [];
  uniques = [];
  orders = [];
}

abbrev pub request_text : List ℕ
request_text = CREATE.now

abbrev pub request_put : List ℕ
request_put = PUT.now

-- the same over the row with its number, where it stands
abbrev pub request_put_again : List ℕ
request_put_again = PUT_PLACED.now

abbrev pub request_terms : List Term
request_terms = col 0 0 ∷ lit Null ∷ col 0 1 ∷ col 0 2 ∷ col 0 3 ∷ col 0 4 ∷ col 0 5 ∷ col 0 6 ∷ col 0 7 ∷ col 0 8 ∷ col 0 9 ∷ col 0 10 ∷ col 0 11 ∷ col 0 12 ∷ col 0 13 ∷ col 0 14 ∷ []

-- the row that stands, as `request_put_again` writes it: its number, and then the row, which stands past the parameters and the number
abbrev pub request_again : List Term
request_again = col 1 0 ∷ col 1 0 ∷ lit Null ∷ col 0 18 ∷ col 0 19 ∷ col 0 20 ∷ col 0 21 ∷ col 0 22 ∷ col 0 23 ∷ col 0 24 ∷ col 0 25 ∷ col 0 26 ∷ col 0 27 ∷ col 0 28 ∷ col 0 29 ∷ col 0 30 ∷ col 0 31 ∷ []

-- 8 for acceptance, 4 for start, 2 for progress, 1 for completion
abbrev pub ack_number : Ack → ℕ
ack_number ack = (if ack.acceptance then 8 else 0) + (if ack.start then 4 else 0) + (if ack.progress then 2 else 0) + (if ack.completion then 1 else 0)

-- service, subtype, target and time of a command, 0 where it has none; of an insert those of its first activity
abbrev pub service_of : Command → ℕ
service_of (command.Plain service subtype) = service
service_of _ = 11

abbrev pub subtype_of : Command → ℕ
subtype_of (command.Plain service subtype) = subtype
subtype_of command.EnableSchedule = 1
subtype_of command.DisableSchedule = 2
subtype_of command.ResetSchedule = 3
subtype_of (command.InsertActivities rides) = 4
subtype_of (command.DeleteActivity target) = 5
subtype_of (command.ShiftActivity target offset) = 7
subtype_of (command.ShiftAll offset) = 15
subtype_of command.SummarizeAll = 17

abbrev pub target_of : Command → ℕ
target_of (command.InsertActivities (ride ∷ others)) = ride.target
target_of (command.DeleteActivity target) = target
target_of (command.ShiftActivity target offset) = target
target_of _ = 0

abbrev pub time_of : Command → ℤ
time_of (command.InsertActivities (ride ∷ others)) = pos ride.time
time_of (command.ShiftActivity target offset) = offset
time_of (command.ShiftAll offset) = offset
time_of _ = pos 0

-- the stack, the line there and the line before it of a request that was loaded with a stack; of any other an empty text and 0
abbrev pub stack_of : Option Origin → List ℕ
stack_of None = []
stack_of (Some origin) = origin.stack

abbrev pub line_of : Option Origin → ℕ
line_of None = 0
line_of (Some origin) = origin.line

abbrev pub prior_of : Option Origin → ℕ
prior_of None = 0
prior_of (Some origin) = unwrap_or origin.after 0

-- the parameters of a request and its place
abbrev pub request_given : PlacedRequest → Row
request_given placed =
    let r = placed.request in
    Int (pos r.number) ∷ Int (pos r.body.identity.apid) ∷ Int (pos r.body.identity.count) ∷ Int (pos (ack_number r.body.ack)) ∷ Int (if r.critical then pos 1 else pos 0)
    ∷ Int (pos (service_of r.body.command)) ∷ Int (pos (subtype_of r.body.command)) ∷ Int (pos (target_of r.body.command)) ∷ Int (time_of r.body.command)
    ∷ Text (outcome_word r.body.outcome) ∷ Text r.author ∷ Text (stack_of r.origin) ∷ Int (pos (line_of r.origin)) ∷ Int (pos (prior_of r.origin))
    ∷ Int (pos (place_number placed.place)) ∷ []

abbrev pub request_row : PlacedRequest → Row
request_row placed =
    let r = placed.request in
    Int (pos r.number) ∷ Null ∷ Int (pos r.body.identity.apid) ∷ Int (pos r.body.identity.count) ∷ Int (pos (ack_number r.body.ack)) ∷ Int (if r.critical then pos 1 else pos 0)
    ∷ Int (pos (service_of r.body.command)) ∷ Int (pos (subtype_of r.body.command)) ∷ Int (pos (target_of r.body.command)) ∷ Int (time_of r.body.command)
    ∷ Text (outcome_word r.body.outcome) ∷ Text r.author ∷ Text (stack_of r.origin) ∷ Int (pos (line_of r.origin)) ∷ Int (pos (prior_of r.origin))
    ∷ Int (pos (place_number placed.place)) ∷ []
