-- What a body posts to /acts: the keys of its JSON object, and who calls.
use Rattle.std.specs.Prelude.{◌≡◌, ℕ, Option, Some, None, Result, Ok, Err, List, codes, option_and_then}
use Rattle.serde_json.specs.Data.{Data, Num}
use Rattle.serde_json.specs.Find.{as_u64}
use Rattle.tc_types.specs.declared.refusals.Refusal.{Refusal}
use Rattle.tc_types.specs.declared.refusals.Refusal.TheVariants.{BadText}
use Rattle.tc_room.specs.declared.callers.Caller.{Caller}
use Rattle.tc_api.specs.declared.acts.ActKeys as code_keys
use Rattle.tc_api.specs.declared.acts.ActPost as code_post
use Rattle.tc_api.specs.Bodies.{IsJson, JudgesCaller, moment_in, number_at, text_at}

-- what stands at the keys of an act: its text, who, when, and under which number, if these numbers are whole
pub record ActKeys : Type 0 where
  pub act : List ℕ
  pub by : List ℕ
  pub moment : Option ℕ
  pub number : Option ℕ

-- the keys, where each is there and of its kind
abbrev pub act_keys_of : Option (List ℕ) → Option (List ℕ) → Option Num → Option Num → Option ActKeys
act_keys_of None by moment number = None
act_keys_of (Some act) None moment number = None
act_keys_of (Some act) (Some by) None number = None
act_keys_of (Some act) (Some by) (Some moment) None = None
act_keys_of (Some act) (Some by) (Some moment) (Some number) = Some (record { act = act; by = by; moment = as_u64 moment; number = as_u64 number })

-- of an object; other keys are ignored
abbrev pub act_keys : Data → Option ActKeys
act_keys value = act_keys_of (text_at (codes "act") value) (text_at (codes "by") value) (number_at (codes "moment") value) (number_at (codes "number") value)

-- a call of an act or a question: who, when, where that is a moment, and the text
pub record ActCall : Type 0 where
  pub caller : Caller
  pub moment : Option ℕ
  pub text : List ℕ

-- The tests of a body, in their order: each key is there and of its kind, the person may act, the number is one. The moment and the text are tested as the room is asked.
abbrev pub JudgesActKeys : Option ActKeys → Result ActCall Refusal → Type 0
JudgesActKeys None outcome = outcome ≡ Err BadText
JudgesActKeys (Some keys) outcome = JudgesCaller keys.by keys.number (λ caller. record { caller = caller; moment = moment_in keys.moment; text = keys.act }) outcome

-- what a body posts to /acts, or why it is refused
unfoldable pub JudgesActPost : List ℕ → Result ActCall Refusal → Type 0
JudgesActPost body outcome = (value : Option Data) × IsJson body value × JudgesActKeys (option_and_then act_keys value) outcome

-- ---- as the code holds them

abbrev pub act_keys_seen : code_keys.ActKeys → ActKeys
act_keys_seen keys = record { act = keys.act.now; by = keys.by.now; moment = keys.moment; number = keys.number }

abbrev pub act_seen : code_post.ActPost → ActCall
act_seen post = record { caller = post.caller; moment = post.moment; text = post.text.now }

abbrev pub act_outcome : Result code_post.ActPost Refusal → Result ActCall Refusal
act_outcome (Ok post) = Ok (act_seen post)
act_outcome (Err refusal) = Err refusal
