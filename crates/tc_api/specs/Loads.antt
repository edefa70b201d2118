-- What a body posts to be loaded, to /stacks or to /procedures: the keys of its JSON object, and who calls.
use Rattle.std.specs.Prelude.{◌≡◌, ℕ, Option, Some, None, Result, Ok, Err, List, codes, option_and_then}
use Rattle.serde_json.specs.Data.{Data, Num}
use Rattle.serde_json.specs.Find.{as_u64}
use Rattle.tc_types.specs.declared.refusals.Refusal.{Refusal}
use Rattle.tc_types.specs.declared.refusals.Refusal.TheVariants.{BadText}
use Rattle.tc_room.specs.declared.callers.Caller.{Caller}
use Rattle.tc_api.specs.declared.loads.LoadKeys as code_keys
use Rattle.tc_api.specs.declared.loads.LoadPost as code_post
use Rattle.tc_api.specs.Bodies.{IsJson, JudgesCaller, moment_in, number_at, text_at}

-- what stands at the keys of a load: who, the text, when, under which name, and under which number, if these numbers are whole
pub record LoadKeys : Type 0 where
  pub by : List ℕ
  pub csv : List ℕ
  pub moment : Option ℕ
  pub name : List ℕ
  pub number : Option ℕ

-- the keys, where each is there and of its kind
abbrev pub load_keys_of : Option (List ℕ) → Option (List ℕ) → Option Num → Option (List ℕ) → Option Num → Option LoadKeys
load_keys_of None csv moment name number = None
load_keys_of (Some by) None moment name number = None
load_keys_of (Some by) (Some csv) None name number = None
load_keys_of (Some by) (Some csv) (Some moment) None number = None
load_keys_of (Some by) (Some csv) (Some moment) (Some name) None = None
load_keys_of (Some by) (Some csv) (Some moment) (Some name) (Some number) = Some (record { by = by; csv = csv; moment = as_u64 moment; name = name; number = as_u64 number })

-- of an object; other keys are ignored
abbrev pub load_keys : Data → Option LoadKeys
load_keys value =
    load_keys_of (text_at (codes "by") value) (text_at (codes "csv") value) (number_at (codes "moment") value) (text_at (codes "name") value) (number_at (codes "number") value)

-- a call of a load: who, when, where that is a moment, and the name and the text as they came
pub record LoadCall : Type 0 where
  pub caller : Caller
  pub moment : Option ℕ
  pub name : List ℕ
  pub csv : List ℕ

-- The tests of a body, in their order: each key is there and of its kind, the person may act, the number is one. The rest is tested as the room is asked.
abbrev pub JudgesLoadKeys : Option LoadKeys → Result LoadCall Refusal → Type 0
JudgesLoadKeys None outcome = outcome ≡ Err BadText
JudgesLoadKeys (Some keys) outcome = JudgesCaller keys.by keys.number (λ caller. record { caller = caller; moment = moment_in keys.moment; name = keys.name; csv = keys.csv }) outcome

-- what a body posts to be loaded, or why it is refused
unfoldable pub JudgesLoadPost : List ℕ → Result LoadCall Refusal → Type 0
JudgesLoadPost body outcome = (value : Option Data) × IsJson body value × JudgesLoadKeys (option_and_then load_keys value) outcome

-- ---- as the code holds them

abbrev pub load_keys_seen : code_keys.LoadKeys → LoadKeys
load_keys_seen keys = record { by = keys.by.now; csv = keys.csv.now; moment = keys.moment; name = keys.name.now; number = keys.number }

abbrev pub load_seen : code_post.LoadPost → LoadCall
load_seen post = record { caller = post.caller; moment = post.moment; name = post.name.now; csv = post.csv.now }

abbrev pub load_outcome : Result code_post.LoadPost Refusal → Result LoadCall Refusal
load_outcome (Ok post) = Ok (load_seen post)
load_outcome (Err refusal) = Err refusal
