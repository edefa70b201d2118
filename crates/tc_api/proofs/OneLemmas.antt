-- A body posts one thing.
use Rattle.std.proofs.Common.{◌≡◌, ◌∙◌, inl, inr, refl, subst, sym, ℕ, List, Option, Some, None, Result}
use Rattle.std.specs.Prelude.{option_and_then}
use Rattle.serde_json.specs.Data.{Data}
use Rattle.serde_json.specs.Read.{read}
use Rattle.tc_types.specs.declared.refusals.Refusal.{Refusal}
use Rattle.tc_types.specs.declared.refusals.Refusal.TheVariants.{BadText}
use Rattle.tc_types.specs.Names.{IsPerson}
use Rattle.tc_room.specs.Calls.{Needs}
use Rattle.tc_room.specs.declared.callers.Caller.{Caller}
use Rattle.tc_api.specs.Acts.{ActCall, ActKeys, JudgesActKeys, JudgesActPost, act_keys}
use Rattle.tc_api.specs.Bodies.{IsJson, JudgesCaller, JudgesNumber, call_number_in, moment_in}
use Rattle.tc_api.specs.Loads.{JudgesLoadKeys, JudgesLoadPost, LoadCall, LoadKeys, load_keys}
use Rattle.tc_api.specs.Serving.{IsTheReading}

json_one : (body : List ℕ) (v w : Option Data) → IsJson body v → IsJson body w → v ≡ w
json_one body None None h k = refl
json_one body None (Some w) h k = let none : read body ≡ None = h k.0 in let some : read body ≡ Some w = k.1 in absurd cc
json_one body (Some v) None h k = let none : read body ≡ None = k h.0 in let some : read body ≡ Some v = h.1 in absurd cc
json_one body (Some v) (Some w) h k = sym h.1 ∙ k.1

needs_one : {X : Type 0} (holds : Type 0) (refusal : Refusal) (P : Result X Refusal → Type 0) (a b : Result X Refusal) → (P a → P b → a ≡ b) → Needs holds refusal P a → Needs holds refusal P b → a ≡ b
needs_one holds refusal P a b one (inl h) (inl k) = h.1 ∙ sym k.1
needs_one holds refusal P a b one (inl h) (inr k) = absurd (h.0 k.0)
needs_one holds refusal P a b one (inr h) (inl k) = absurd (k.0 h.0)
needs_one holds refusal P a b one (inr h) (inr k) = one h.1 k.1

number_one : {X : Type 0} (by : List ℕ) (number : Option ℕ) (called : Caller → X) (a b : Result X Refusal) → JudgesNumber by number called a → JudgesNumber by number called b → a ≡ b
number_one by None called a b h k = h ∙ sym k
number_one by (Some n) called a b h k = h ∙ sym k

-- who calls, and what is called then
caller_one : {X : Type 0} (by : List ℕ) (number : Option ℕ) (called : Caller → X) (a b : Result X Refusal) → JudgesCaller by number called a → JudgesCaller by number called b → a ≡ b
caller_one by number called a b h k =
    needs_one (IsPerson by) BadText (JudgesNumber by (call_number_in number) called) a b (number_one by (call_number_in number) called a b) h k

act_keys_one : (keys : Option ActKeys) (a b : Result ActCall Refusal) → JudgesActKeys keys a → JudgesActKeys keys b → a ≡ b
act_keys_one None a b h k = h ∙ sym k
act_keys_one (Some keys) a b h k = caller_one keys.by keys.number (λ caller. record { caller = caller; moment = moment_in keys.moment; text = keys.act }) a b h k

act_post_one : (body : List ℕ) (a b : Result ActCall Refusal) → JudgesActPost body a → JudgesActPost body b → a ≡ b
unfolding JudgesActPost
act_post_one body a b h k =
    act_keys_one (option_and_then act_keys k.0) a b (subst (λ (v : Option Data). JudgesActKeys (option_and_then act_keys v) a) (json_one body h.0 k.0 h.1 k.1) h.2) k.2

-- what a body posts to /acts is read so
pub the_act : (body : List ℕ) (given : Result ActCall Refusal) → JudgesActPost body given → IsTheReading (JudgesActPost body) given
the_act body given judged = record { judged = judged; only = λ other allowed. act_post_one body other given allowed judged }

load_keys_one : (keys : Option LoadKeys) (a b : Result LoadCall Refusal) → JudgesLoadKeys keys a → JudgesLoadKeys keys b → a ≡ b
load_keys_one None a b h k = h ∙ sym k
load_keys_one (Some keys) a b h k = caller_one keys.by keys.number (λ caller. record { caller = caller; moment = moment_in keys.moment; name = keys.name; csv = keys.csv }) a b h k

load_post_one : (body : List ℕ) (a b : Result LoadCall Refusal) → JudgesLoadPost body a → JudgesLoadPost body b → a ≡ b
unfolding JudgesLoadPost
load_post_one body a b h k =
    load_keys_one (option_and_then load_keys k.0) a b (subst (λ (v : Option Data). JudgesLoadKeys (option_and_then load_keys v) a) (json_one body h.0 k.0 h.1 k.1) h.2) k.2

-- so it is of a load
pub the_load : (body : List ℕ) (given : Result LoadCall Refusal) → JudgesLoadPost body given → IsTheReading (JudgesLoadPost body) given
the_load body given judged = record { judged = judged; only = λ other allowed. load_post_one body other given allowed judged }
