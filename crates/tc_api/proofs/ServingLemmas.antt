-- What is served.
use Rattle.std.proofs.Common.{Bor, ◌≡◌, ◌∙◌, ◌⊎◌, inl, inr, ap, subst, refl, ℕ, Bool, false, List, [], ◌∷◌, Option, Some, None, Result, Ok, Err}
use Rattle.std.specs.Prelude.{◌&&◌, IfSome}
use Rattle.std.specs.Str.{IsUtf8}
use Rattle.serde_json.specs.Data.{Data}
use Rattle.serde_json.specs.Read.{read}
use Rattle.sqlite_trees.specs.declared.store.Store.{Ghosts}
use Rattle.tc_types.specs.declared.loads.LoadKind.{LoadKind}
use Rattle.tc_types.specs.declared.refusals.Refusal.{Refusal}
use Rattle.tc_types.specs.declared.refusals.Refusal.TheVariants.{BadText, Memory}
use Rattle.tc_types.specs.declared.acts.Query.{Query}
use Rattle.tc_types.specs.declared.loads.LoadKind.TheVariants as load_kind
use Rattle.tc_front.specs.declared.front.Decision.{Decision}
use Rattle.tc_front.specs.declared.front.Decision.TheVariants as decision
use Rattle.tc_front.specs.declared.judge.Refused.{Refused}
use Rattle.tc_front.specs.declared.paths.Post.{Post}
use Rattle.tc_front.specs.declared.paths.Post.TheVariants as paths
use Rattle.tc_front.specs.Front.{asked_of}
use Rattle.tc_desk.specs.Replies.{Reply}
use Rattle.tc_room.specs.Calls.{AnswersActCall, AnswersLoadCall}
use Rattle.tc_room.specs.Joined.{Standing}
use Rattle.tc_room.specs.Truth.{LeavesLink, TellsTextTrue}
use Rattle.tc_api.specs.declared.endings.Ending.{Ending}
use Rattle.tc_api.specs.declared.endings.Ending.TheVariants as ending
use Rattle.tc_api.specs.declared.serving.Served.{Served}
use Rattle.tc_api.specs.declared.serving.Told.{Told}
use Rattle.tc_api.specs.Acts.{ActCall, ActKeys, JudgesActKeys, JudgesActPost}
use Rattle.tc_api.specs.Endings.{is_done}
use Rattle.tc_api.specs.Openings.{opening_line}
use Rattle.tc_api.specs.Loads.{JudgesLoadKeys, JudgesLoadPost, LoadCall, LoadKeys, load_keys}
use Rattle.tc_api.specs.Serving.{EndsWith, HasText, IsOutcome, IsServedBy, Outcome, Serves, ServesActCall, ServesWall, ServesBody, ServesKeys, ServesPost, ServesQuery, ServesValue, Tells, TellsOpening, outcome_of, page_in, refused_front, refused_with}
use Rattle.tc_api.proofs.OneLemmas.{the_act, the_load}

pub outcome_made : (acts : Bool) (reply : Reply) (ending : Ending) (text : Option Told) (served : Served) → served ≡ record { ending = ending; stands = acts && is_done ending; text = text }
    → EndsWith reply ending → page_in text ≡ None → IfSome text (Tells reply) → IsOutcome acts (outcome_of reply served) × HasText reply served
outcome_made acts reply ending text served made ends plain has = rw made (record { ends = ends; stands = refl; page = plain }, has)

-- how the desk was opened, told or not
pub opening_told : {S : Type 0} (since : ℕ) (room : Standing S) (text : Option Told) (served : Served) → served ≡ record { ending = ending.Done; stands = false; text = text }
    → page_in text ≡ None → IfSome text (Tells (opening_line room.opened since ∷ [])) → IsServedBy (TellsOpening since room) room served room
opening_told since room text served made plain has = rw made (record {
  reply = opening_line room.opened since ∷ [];
  makes = record { same = refl; told = rw plain refl };
  text = has;
  opened = refl;
})

-- ---- calls

pub act_called : {S : Type 0} (g : Ghosts S) (old new : Standing S) (keys : Option ActKeys) (call : ActCall) (given : Result ActCall Refusal) (asks_act : Bool) (text : List ℕ) (outcome : Outcome) → given ≡ Ok call
    → JudgesActKeys keys given → text ≡ call.text → AnswersActCall g call.caller call.moment text old asks_act outcome.reply new → IsOutcome asks_act outcome → TellsTextTrue text outcome.reply old new
    → (read : Result ActCall Refusal) × JudgesActKeys keys read × ServesActCall g old read outcome new
act_called g old new keys call given asks_act text outcome is judged same answers ends tells =
    (Ok call, subst (λ (r : Result ActCall Refusal). JudgesActKeys keys r) is judged, (asks_act, subst (λ (t : List ℕ). AnswersActCall g call.caller call.moment t old asks_act outcome.reply new) same answers, ends, subst (λ (t : List ℕ). TellsTextTrue t outcome.reply old new) same tells))

pub act_refused : {S : Type 0} (g : Ghosts S) (old : Standing S) (keys : Option ActKeys) (refusal : Refusal) (given : Result ActCall Refusal) (outcome : Outcome) → given ≡ Err refusal
    → JudgesActKeys keys given → outcome ≡ refused_with refusal → (read : Result ActCall Refusal) × JudgesActKeys keys read × ServesActCall g old read outcome old
act_refused g old keys refusal given outcome is judged so = (Err refusal, subst (λ (r : Result ActCall Refusal). JudgesActKeys keys r) is judged, (so, refl))

pub load_called : {S : Type 0} (g : Ghosts S) (old new : Standing S) (kind : LoadKind) (keys : Option LoadKeys) (call : LoadCall) (given : Result LoadCall Refusal) (asks_act : Bool) (name csv : List ℕ) (outcome : Outcome)
    → given ≡ Ok call → JudgesLoadKeys keys given → name ≡ call.name → csv ≡ call.csv → AnswersLoadCall g call.caller kind call.moment name csv old asks_act outcome.reply new → IsOutcome asks_act outcome
    → LeavesLink old new → ServesKeys g old kind keys outcome new
load_called g old new kind keys call given asks_act name csv outcome is judged named same answers ends leaves = (
  Ok call,
  subst (λ (r : Result LoadCall Refusal). JudgesLoadKeys keys r) is judged,
  (
    asks_act,
    subst (λ (t : List ℕ). AnswersLoadCall g call.caller kind call.moment call.name t old asks_act outcome.reply new) same
        (subst (λ (n : List ℕ). AnswersLoadCall g call.caller kind call.moment n csv old asks_act outcome.reply new) named answers),
    ends,
    leaves,
  ),
)

pub load_refused : {S : Type 0} (g : Ghosts S) (old : Standing S) (kind : LoadKind) (keys : Option LoadKeys) (refusal : Refusal) (given : Result LoadCall Refusal) (outcome : Outcome) → given ≡ Err refusal
    → JudgesLoadKeys keys given → outcome ≡ refused_with refusal → ServesKeys g old kind keys outcome old
load_refused g old kind keys refusal given outcome is judged so = (Err refusal, subst (λ (r : Result LoadCall Refusal). JudgesLoadKeys keys r) is judged, (so, refl))

-- ---- posts

pub posts_acts : {S : Type 0} (g : Ghosts S) (old new : Standing S) (post : Post) (value : Data) (outcome : Outcome) → post ≡ paths.Acts → ServesValue g old paths.Acts value outcome new → ServesValue g old post value outcome new
posts_acts g old new post value outcome is h = rw is h

pub posts_stack : {S : Type 0} (g : Ghosts S) (old new : Standing S) (post : Post) (value : Data) (outcome : Outcome) → post ≡ paths.Stacks → ServesKeys g old load_kind.Stack (load_keys value) outcome new → ServesValue g old post value outcome new
posts_stack g old new post value outcome is h = rw is h

pub posts_procedure : {S : Type 0} (g : Ghosts S) (old new : Standing S) (post : Post) (value : Data) (outcome : Outcome) → post ≡ paths.Procedures → ServesKeys g old load_kind.Procedure (load_keys value) outcome new
    → ServesValue g old post value outcome new
posts_procedure g old new post value outcome is h = rw is h

-- what stands in a body that is JSON
value_served : {S : Type 0} (g : Ghosts S) (old new : Standing S) (post : Post) (body : List ℕ) (value : Data) (outcome : Outcome) → IsUtf8 body × (read body ≡ Some value) → ServesValue g old post value outcome new → ServesBody g old post body outcome new
unfolding JudgesActPost JudgesLoadPost
value_served g old new paths.Acts body value outcome json (given, judged, serves) = (given, the_act body given (Some value, json, judged), serves)
value_served g old new paths.Stacks body value outcome json (given, judged, serves) = (given, the_load body given (Some value, json, judged), serves)
value_served g old new paths.Procedures body value outcome json (given, judged, serves) = (given, the_load body given (Some value, json, judged), serves)

pub body_served : {S : Type 0} (g : Ghosts S) (old new : Standing S) (post : Post) (body : List ℕ) (value : Data) (outcome : Outcome) → IsUtf8 body × (read body ≡ Some value) → ServesValue g old post value outcome new → ServesPost g old post body outcome new
body_served g old new post body value outcome json serves = record { served = inr (value_served g old new post body value outcome json serves) }

-- a body that is none
bad_served : {S : Type 0} (g : Ghosts S) (old : Standing S) (post : Post) (body : List ℕ) (outcome : Outcome) → (IsUtf8 body → read body ≡ None) → outcome ≡ refused_with BadText → ServesBody g old post body outcome old
unfolding JudgesActPost JudgesLoadPost
bad_served g old paths.Acts body outcome none so = (Err BadText, the_act body (Err BadText) (None, none, refl), (so, refl))
bad_served g old paths.Stacks body outcome none so = (Err BadText, the_load body (Err BadText) (None, none, refl), (so, refl))
bad_served g old paths.Procedures body outcome none so = (Err BadText, the_load body (Err BadText) (None, none, refl), (so, refl))

pub body_unread : {S : Type 0} (g : Ghosts S) (old : Standing S) (post : Post) (body : List ℕ) (refusal : Refusal) (outcome : Outcome)
    → (refusal ≡ Memory) ⊎ ((refusal ≡ BadText) × (IsUtf8 body → read body ≡ None)) → outcome ≡ refused_with refusal → ServesPost g old post body outcome old
body_unread g old post body refusal outcome (inl none) so = record { served = inl (so ∙ ap refused_with none, refl) }
body_unread g old post body refusal outcome (inr bad) so = record { served = inr (bad_served g old post body outcome bad.1 (so ∙ ap refused_with bad.0)) }

-- ---- what is asked

pub asks_nothing : {S : Type 0} (since : ℕ) (g : Ghosts S) (old : Standing S) (given : Decision) (why : Refused) (outcome : Outcome) → given ≡ decision.Refused why → outcome ≡ refused_front why → Serves since g old (asked_of given) outcome old
asks_nothing since g old given why outcome is so = rw is (so, refl)

pub asks_query : {S : Type 0} (since : ℕ) (g : Ghosts S) (old new : Standing S) (given : Decision) (query : Query) (outcome : Outcome) → given ≡ decision.Asks query → ServesQuery g old query outcome new → Serves since g old (asked_of given) outcome new
asks_query since g old new given query outcome is h = rw is h

pub asks_wall : {S : Type 0} {since : ℕ} (g : Ghosts S) (old new : Standing S) (given : Decision) (outcome : Outcome) → given ≡ decision.ShowsWall → ServesWall since old outcome new → Serves since g old (asked_of given) outcome new
asks_wall g old new given outcome is h = rw is h

pub asks_opening : {S : Type 0} {since : ℕ} (g : Ghosts S) (old new : Standing S) (given : Decision) (outcome : Outcome) → given ≡ decision.TellsOpening → TellsOpening since old outcome new → Serves since g old (asked_of given) outcome new
asks_opening g old new given outcome is h = rw is h

pub asks_post : {S : Type 0} (since : ℕ) (g : Ghosts S) (old new : Standing S) (given : Decision) (post : Post) (body : Bor (List ℕ)) (outcome : Outcome) → given ≡ decision.Posts post body → ServesPost g old post body.now outcome new → Serves since g old (asked_of given) outcome new
asks_post since g old new given post body outcome is h = rw is h
