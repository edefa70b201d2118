-- The body of a post, and the tests that what it says takes.
use Rattle.std.specs.Prelude.{◌≡◌, ℕ, nat_le, ◌&&◌, if◌then◌else◌, Option, Some, None, Result, Ok, Err, List, option_and_then}
use Rattle.std.specs.Str.{IsUtf8}
use Rattle.serde_json.specs.Data.{Data, Num}
use Rattle.serde_json.specs.Find.{as_number, as_str, get}
use Rattle.serde_json.specs.Read.{read}
use Rattle.tc_types.specs.declared.refusals.Refusal.{Refusal}
use Rattle.tc_types.specs.declared.refusals.Refusal.TheVariants.{BadText}
use Rattle.tc_types.specs.Names.{IsPerson}
use Rattle.tc_room.specs.Calls.{Needs}
use Rattle.tc_room.specs.declared.callers.Caller.{Caller}

-- The JSON value that a body is (RFC 8259); none where it is no UTF-8, or no JSON as the crate serde_json reads it.
abbrev pub IsJson : List ℕ → Option Data → Type 0
IsJson body None = IsUtf8 body → read body ≡ None
IsJson body (Some value) = IsUtf8 body × (read body ≡ Some value)

-- the text at a key of an object
abbrev pub text_at : List ℕ → Data → Option (List ℕ)
text_at key value = option_and_then as_str (get key value)

-- the number at a key of an object
abbrev pub number_at : List ℕ → Data → Option Num
number_at key value = option_and_then as_number (get key value)

-- A number that is a moment: whole, and in range.
abbrev pub moment_in : Option ℕ → Option ℕ
moment_in None = None
moment_in (Some n) = if nat_le n 4102444799 then Some n else None

-- A number that a caller may give a call: whole, and in range.
abbrev pub call_number_in : Option ℕ → Option ℕ
call_number_in None = None
call_number_in (Some n) = if nat_le 1 n && nat_le n 4294967295 then Some n else None

-- The tests of who calls, in their order, and what is called then: the person may act, and gave a number.
abbrev pub JudgesNumber : {X : Type 0} → List ℕ → Option ℕ → (Caller → X) → Result X Refusal → Type 0
JudgesNumber by None called outcome = outcome ≡ Err BadText
JudgesNumber by (Some number) called outcome = outcome ≡ Ok (called (record { by = by; number = number }))

abbrev pub JudgesCaller : {X : Type 0} → List ℕ → Option ℕ → (Caller → X) → Result X Refusal → Type 0
JudgesCaller by number called outcome = Needs (IsPerson by) BadText (JudgesNumber by (call_number_in number) called) outcome
