-- The definitions carried out on a stack of an activity and its insert, which has to wait for it, and on an insert of two lines.
use Rattle.std.proofs.Common.{◌≡◌, ℕ, ◌*◌, pos, true, false, Some, None, Ok, List, [], ◌∷◌, codes, refl}
use Rattle.std.specs.Fmt.{digits}
use Rattle.csv.specs.Machine.{next_record}
use Rattle.csv.specs.Reading.{records_from, strip_bom}
use Rattle.jiff.specs.Words.{parse_timestamp}
use Rattle.jiff.proofs.OnLiterals.{jiff_on_literals}
use Rattle.tc_types.specs.declared.requests.Ack.{Ack}
use Rattle.tc_types.specs.declared.requests.Outcome.TheVariants.{Completes}
use Rattle.tc_types.specs.declared.requests.Command.TheVariants.{Plain, InsertActivities}
use Rattle.tc_types.specs.declared.history.places.Place.TheVariants.{Entered, Accepted, Completed}
use Rattle.tc_types.specs.Grammar.{ack_word, yes_no, outcome_word, listed}
use Rattle.tc_types.specs.Schedule.{targets_of}
use Rattle.std.specs.Fmt.{decimal}
use Rattle.tc_csv.specs.Tables.{records_of, header}
use Rattle.tc_stack.specs.declared.stacks.StackRow.{StackRow}
use Rattle.tc_stack.specs.Stacks.{first_barred, may_release, at_line}
use Rattle.tc_csv.specs.StackTexts.{stack_columns, parts}

abbrev asks : Ack
asks = record { acceptance = true; start = false; progress = false; completion = true }

abbrev activity : StackRow
activity = record { entry = record { apid = 5; ack = asks; critical = false; command = Plain 8 1; outcome = Completes }; after = None }

abbrev insert : StackRow
insert = record { entry = record { apid = 5; ack = asks; critical = true; command = InsertActivities (record { target = 1; time = 1935655200 } ∷ []); outcome = Completes }; after = Some 1 }

abbrev two : List StackRow
two = activity ∷ insert ∷ []

-- its text
pub spelled : records_of (codes "line,apid,service,subtype,target,time,ack,critical,after,outcome\n1,5,8,1,,,a--c,no,,ok\n2,5,11,4,1,2031-05-04T10:00:00Z,a--c,yes,1,ok\n")
    ≡ header stack_columns
    ∷ (decimal 1 ∷ decimal 5 ∷ decimal 8 ∷ decimal 1 ∷ [] ∷ [] ∷ ack_word asks ∷ yes_no false ∷ [] ∷ outcome_word Completes ∷ [])
    ∷ (decimal 2 ∷ decimal 5 ∷ decimal 11 ∷ decimal 4 ∷ decimal 1 ∷ codes "2031-05-04T10:00:00Z" ∷ ack_word asks ∷ yes_no true ∷ decimal 1 ∷ outcome_word Completes ∷ []) ∷ []
unfolding next_record records_from strip_bom digits
spelled = refl

-- its instant, and the same with an offset and a fraction of zeros
pub at_ten : parse_timestamp (codes "2031-05-04T10:00:00Z") ≡ Ok (pos (1935655200 * 1000000000))
unfolding jiff_on_literals
at_ten = refl

pub at_noon : parse_timestamp (codes "2031-05-04T12:00:00.00+02:00") ≡ Ok (pos (1935655200 * 1000000000))
unfolding jiff_on_literals
at_noon = refl

-- ---- lists

-- an insert of these two lines
abbrev inserts : ℕ → ℕ → StackRow
inserts first second = record {
  entry = record {
    apid = 5;
    ack = asks;
    critical = false;
    command = InsertActivities (record { target = first; time = 1200 } ∷ record { target = second; time = 1260 } ∷ []);
    outcome = Completes;
  };
  after = None;
}

pub a_list_is_spelled : listed decimal (targets_of (inserts 1 2).entry.command) ≡ codes "1;2"
unfolding digits
a_list_is_spelled = refl

pub a_list_has_parts : parts (codes "1970-01-01T00:20:00Z;1970-01-01T01:21:00+01:00") ≡ codes "1970-01-01T00:20:00Z" ∷ codes "1970-01-01T01:21:00+01:00" ∷ []
a_list_has_parts = refl

-- ---- targets

pub none_barred : first_barred two 1 two ≡ None
none_barred = refl

-- an insert may not name an insert
pub an_insert_is_no_target : first_barred (insert ∷ insert ∷ []) 1 (insert ∷ insert ∷ []) ≡ Some 1
an_insert_is_no_target = refl

pub two_lines_are_named : first_barred (activity ∷ activity ∷ inserts 1 2 ∷ []) 1 (activity ∷ activity ∷ inserts 1 2 ∷ []) ≡ None
two_lines_are_named = refl

-- nor behind another line, nor a line twice
pub no_insert_in_a_list : first_barred (activity ∷ insert ∷ inserts 1 2 ∷ []) 1 (activity ∷ insert ∷ inserts 1 2 ∷ []) ≡ Some 3
no_insert_in_a_list = refl

pub no_line_twice : first_barred (activity ∷ activity ∷ inserts 2 2 ∷ []) 1 (activity ∷ activity ∷ inserts 2 2 ∷ []) ≡ Some 3
no_line_twice = refl

-- ---- the interlock

pub the_first_is_free : may_release (at_line two 1) (Entered ∷ Entered ∷ []) ≡ true
the_first_is_free = refl

pub the_second_waits : may_release (at_line two 2) (Accepted ∷ Entered ∷ []) ≡ false
the_second_waits = refl

pub until_it_is_completed : may_release (at_line two 2) (Completed ∷ Entered ∷ []) ≡ true
until_it_is_completed = refl

pub there_is_no_third : may_release (at_line two 3) (Completed ∷ Completed ∷ []) ≡ false
there_is_no_third = refl
