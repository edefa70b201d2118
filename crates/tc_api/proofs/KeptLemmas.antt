-- What exchanges leave of a room.
use Rattle.std.proofs.Common.{◌≡◌, ◌∙◌, ◌⊎◌, inl, inr, ap, subst, refl, sym, ℕ, Bool, true, false, MatchBool, List, [], ◌∷◌, Option, Some, None, Result, Ok, Err}
use Rattle.std.proofs.lemmas.Bool.{false≢true}
use Rattle.sqlite_trees.specs.declared.store.Store.{Ghosts}
use Rattle.sqlite.specs.Held.{state}
use Rattle.sqlite.specs.State.{HasCleanDisk}
use Rattle.tc_types.specs.declared.acts.Act.{Act}
use Rattle.tc_types.specs.declared.acts.Act.TheVariants as act
use Rattle.tc_types.specs.declared.loads.LoadKind.{LoadKind}
use Rattle.tc_types.specs.declared.loads.LoadKind.TheVariants as load_kind
use Rattle.tc_types.specs.declared.refusals.Refusal.{Refusal}
use Rattle.tc_types.specs.declared.refusals.Refusal.TheVariants.{Store, Stopped}
use Rattle.tc_front.specs.declared.paths.Post.{Post}
use Rattle.tc_front.specs.declared.paths.Post.TheVariants as paths
use Rattle.tc_store.specs.Ledgers.{KeptAnswer}
use Rattle.tc_front.specs.Front.{Asked, asks, posts, refuses, shows, tells}
use Rattle.tc_book.specs.declared.stamps.Stamp.{Stamp}
use Rattle.tc_desk.specs.Acts.{is_question}
use Rattle.tc_desk.specs.Promise.{KeepsPromise}
use Rattle.tc_world.specs.EitherLink.{either}
use Rattle.tc_desk.specs.Machine.{stamp_of}
use Rattle.tc_desk.specs.Replies.{Reply, refusal_reply}
use Rattle.tc_room.specs.declared.callers.Caller.{Caller}
use Rattle.tc_room.specs.Calls.{ActsAnew, AnswersActCall, AnswersCall, AnswersLoadCall, FailsLook, KeepsAll, LoadsAnew, Makes, MakesOnce, Making, StaysSo, a_load, a_look, an_act, kept_after, kept_for}
use Rattle.tc_room.specs.Crash.{ledger_of}
use Rattle.tc_room.specs.Joined.{HasLedger, HoldsBook, Standing, desk_in}
use Rattle.tc_room.specs.Replies.{ended, is_refused}
use Rattle.tc_room.specs.Room.{FailsStore, RoomStep, StepsDesk}
use Rattle.tc_room.proofs.CallLemmas.{act_call_held, keeps_after, load_call_held, refuses as are_refused}
use Rattle.tc_api.specs.Acts.{ActCall}
use Rattle.tc_api.specs.Kept.{FailedAt, FailsTables, KeepsRoom, KeepsTables, ServesAll, ServesOne, ServesRead}
use Rattle.tc_api.specs.Loads.{LoadCall}
use Rattle.tc_api.specs.Serving.{Outcome, Serves, ServesActCall, ServesBody, ServesLoadCall, ServesPost, ServesText}

pub all_same : (replies : List KeptAnswer) → KeepsAll replies replies
all_same replies caller body kept = kept

pub all_more : (first mid last : List KeptAnswer) → KeepsAll first mid → KeepsAll mid last → KeepsAll first last
all_more first mid last then later caller body kept = later caller body (then caller body kept)

pub by_flag : (b : Bool) (A B P : Type 0) → MatchBool b A B → (b ≡ true → A → P) → (b ≡ false → B → P) → P
by_flag true A B P m on off = on refl m
by_flag false A B P m on off = off refl m

pub not_both : {P : Type 0} (b : Bool) → b ≡ true → b ≡ false → P
not_both b is off = absurd (false≢true (sym off ∙ is))

flag_same : {S : Type 0} (old new : Standing S) → new ≡ old → new.stopped ≡ old.stopped
flag_same {S} old new same = ap (λ (s : Standing S). s.stopped) same

-- a room that is as it was keeps its tables
same_keeps : {S : Type 0} (g : Ghosts S) (old new : Standing S) → new ≡ old → KeepsTables g old new
same_keeps {S} g old new same = record {
  held = λ replies held. (replies, all_same replies, subst (λ (s : Standing S). HoldsBook g s replies) (sym same) held);
  failed = λ replies held clean was now. not_both new.stopped now (flag_same old new same ∙ was);
  stays = λ clean was. same;
}

-- ---- a question

module _ {S : Type 0} (g : Ghosts S) (old new : Standing S) (stamp : Stamp) (given : Act) (reply : Reply) where
  abbrev Steps : List KeptAnswer → Type 0
  Steps replies = StepsDesk g replies old stamp given reply new ⊎ FailsStore g replies old stamp given reply new

  step_held : (replies : List KeptAnswer) → RoomStep g old stamp given reply new → HoldsBook g old replies → HoldsBook g new replies
  step_held replies step held going clean = by_flag old.stopped _ (Steps replies) _ (step replies held clean)
      (λ was told. not_both new.stopped (flag_same old new told.1 ∙ was) going)
      (λ was came. came_held came)
    where
      came_held : Steps replies → HasLedger g new.tables (ledger_of new.desk.book replies)
      came_held (inl steps) = steps.tables
      came_held (inr fails) = not_both new.stopped fails.stopped going

  step_failed : (replies : List KeptAnswer) → old.stopped ≡ false → new.stopped ≡ true → Steps replies → FailsTables g replies old new
  step_failed replies was now (inl steps) = not_both new.stopped now steps.going
  step_failed replies was now (inr fails) = inl (stamp, given, reply, fails)

  step_keeps : RoomStep g old stamp given reply new → KeepsTables g old new
  step_keeps step = record {
    held = λ replies held. (replies, all_same replies, step_held replies step held);
    failed = λ replies held clean was now. by_flag old.stopped _ (Steps replies) _ (step replies held clean) (λ is told. not_both old.stopped is was) (λ _ came. step_failed replies was now came);
    stays = λ clean was. by_flag old.stopped _ (Steps []) _ (step [] (λ going _. not_both old.stopped was going) clean) (λ _ told. told.1) (λ off came. not_both old.stopped was off);
  }

-- ---- a call

module _ {S : Type 0} (g : Ghosts S) (caller : Caller) (old new : Standing S) (asks_act : Bool) (reply : Reply) where
  -- where the database fails at what is asked anew
  abbrev Fails : List KeptAnswer → Type 0
  Fails replies = new.stopped ≡ true → FailsTables g replies old new

  stays_fails : (replies : List KeptAnswer) → StaysSo g replies old new → Fails replies
  stays_fails replies stays now = not_both new.stopped now stays.going

  makes_fails : (replies : List KeptAnswer) (making : Making) {Free : Type 0} → MakesOnce g replies caller (Makes old.desk making) Free old reply new → Fails replies
  makes_fails replies making (inl does) now = not_both new.stopped now does.going
  makes_fails replies making (inr (free, fails)) now = inr (caller, making, reply, fails)

  act_fails : (replies : List KeptAnswer) (moment : Option ℕ) (text : List ℕ) → ActsAnew g moment text replies caller old asks_act reply new → Fails replies
  act_fails replies moment text (inl (refusal, judged, is, stays)) now = stays_fails replies stays now
  act_fails replies moment text (inr (line, judged, (is, answers))) now = by_flag (is_question line.act) _ _ _ answers
      (λ _ came. step_fails came)
      (λ _ made. makes_fails replies (an_act (stamp_of line) line.act) made now)
    where
      step_fails : StepsDesk g replies old (stamp_of line) line.act reply new ⊎ FailsStore g replies old (stamp_of line) line.act reply new → FailsTables g replies old new
      step_fails (inl steps) = not_both new.stopped now steps.going
      step_fails (inr fails) = inl (stamp_of line, line.act, reply, fails)

  load_fails : (replies : List KeptAnswer) (kind : LoadKind) (moment : Option ℕ) (name csv : List ℕ) → LoadsAnew g kind moment name csv replies caller old asks_act reply new → Fails replies
  load_fails replies kind moment name csv (is, inl (refusal, why, which, told, stays)) = stays_fails replies stays
  load_fails replies kind moment name csv (is, inr (at, some, named, inl (refusal, unread, told, stays))) = stays_fails replies stays
  load_fails replies kind moment name csv (is, inr (at, some, named, inr (given, spells, makes))) = makes_fails replies (a_load (record { by = caller.by; moment = at }) given) makes

  -- what a call in a room that goes on is answered
  abbrev Answered : List KeptAnswer → Type 0 → Type 0
  Answered replies Anew = FailsLook g replies caller old reply new
      ⊎ ((kept_for replies caller ≡ Some (ended reply)) × (is_refused reply ≡ false) × (asks_act ≡ true) × StaysSo g replies old new)
      ⊎ ((kept_for replies caller ≡ None) × Anew)

  answered_fails : (replies : List KeptAnswer) (Anew : Type 0) → (Anew → Fails replies) → Answered replies Anew → Fails replies
  answered_fails replies Anew anew (inl fails) now = inr (caller, a_look, reply, fails.fails)
  answered_fails replies Anew anew (inr (inl (kept, granted, is, stays))) now = not_both new.stopped now stays.going
  answered_fails replies Anew anew (inr (inr (none, made))) now = anew made now

  call_keeps : (Anew : List KeptAnswer → Bool → Reply → Standing S → Type 0) → ((replies : List KeptAnswer) → Anew replies asks_act reply new → Fails replies)
      → ((replies : List KeptAnswer) → HoldsBook g old replies → HoldsBook g new (kept_after replies caller asks_act reply)) → AnswersCall g Anew caller old asks_act reply new → KeepsTables g old new
  call_keeps Anew fails held answers = record {
    held = λ replies was. (kept_after replies caller asks_act reply, keeps_after replies caller asks_act reply, held replies was);
    failed = λ replies held clean was now. by_flag old.stopped _ (Answered replies (Anew replies asks_act reply new)) _ (answers replies held clean)
        (λ is told. not_both old.stopped is was)
        (λ _ came. answered_fails replies (Anew replies asks_act reply new) (fails replies) came now);
    stays = λ clean was. by_flag old.stopped _ (Answered [] (Anew [] asks_act reply new)) _ (answers [] (λ going _. not_both old.stopped was going) clean) (λ _ told. told.1) (λ off came. not_both old.stopped was off);
  }

  act_call_keeps : (moment : Option ℕ) (text : List ℕ) → AnswersActCall g caller moment text old asks_act reply new → KeepsTables g old new
  act_call_keeps moment text answers = call_keeps (λ replies acts reply new. ActsAnew g moment text replies caller old acts reply new) (λ replies made. act_fails replies moment text made)
      (λ replies held. act_call_held g replies caller old asks_act reply new moment text answers held) answers

  load_call_keeps : (kind : LoadKind) (moment : Option ℕ) (name csv : List ℕ) → AnswersLoadCall g caller kind moment name csv old asks_act reply new → KeepsTables g old new
  load_call_keeps kind moment name csv answers = call_keeps (λ replies acts reply new. LoadsAnew g kind moment name csv replies caller old acts reply new) (λ replies made. load_fails replies kind moment name csv made)
      (λ replies held. load_call_held g replies caller old asks_act reply new kind moment name csv answers held) answers

-- ---- a call that is accepted

module _ {S : Type 0} (g : Ghosts S) (caller : Caller) (old new : Standing S) (asks_act : Bool) (reply : Reply) (granted : is_refused reply ≡ false) where
  -- it stops no room
  abbrev Goes : Type 0
  Goes = new.stopped ≡ false

  no_refusal : {P : Type 0} (refusal : Refusal) → reply ≡ refusal_reply refusal → P
  no_refusal refusal is = not_both (is_refused reply) (ap is_refused is ∙ are_refused refusal) granted

  makes_goes : (replies : List KeptAnswer) (making : Making) {Free : Type 0} → MakesOnce g replies caller (Makes old.desk making) Free old reply new → Goes
  makes_goes replies making (inl does) = does.going
  makes_goes replies making (inr (free, fails)) = no_refusal Store fails.reply

  act_goes : (replies : List KeptAnswer) (moment : Option ℕ) (text : List ℕ) → ActsAnew g moment text replies caller old asks_act reply new → Goes
  act_goes replies moment text (inl (refusal, judged, is, stays)) = stays.going
  act_goes replies moment text (inr (line, judged, (is, answers))) = by_flag (is_question line.act) _ _ _ answers
      (λ _ came. step_goes came)
      (λ _ made. makes_goes replies (an_act (stamp_of line) line.act) made)
    where
      step_goes : StepsDesk g replies old (stamp_of line) line.act reply new ⊎ FailsStore g replies old (stamp_of line) line.act reply new → Goes
      step_goes (inl steps) = steps.going
      step_goes (inr fails) = no_refusal Store fails.reply

  load_goes : (replies : List KeptAnswer) (kind : LoadKind) (moment : Option ℕ) (name csv : List ℕ) → LoadsAnew g kind moment name csv replies caller old asks_act reply new → Goes
  load_goes replies kind moment name csv (is, inl (refusal, why, which, told, stays)) = stays.going
  load_goes replies kind moment name csv (is, inr (at, some, named, inl (refusal, unread, told, stays))) = stays.going
  load_goes replies kind moment name csv (is, inr (at, some, named, inr (given, spells, makes))) = makes_goes replies (a_load (record { by = caller.by; moment = at }) given) makes

  answered_goes : (replies : List KeptAnswer) (Anew : Type 0) → (Anew → Goes) → Answered g caller old new asks_act reply replies Anew → Goes
  answered_goes replies Anew anew (inl fails) = no_refusal Store fails.fails.reply
  answered_goes replies Anew anew (inr (inl (kept, was, is, stays))) = stays.going
  answered_goes replies Anew anew (inr (inr (none, made))) = anew made

  call_goes : (Anew : List KeptAnswer → Bool → Reply → Standing S → Type 0) → ((replies : List KeptAnswer) → Anew replies asks_act reply new → Goes)
      → AnswersCall g Anew caller old asks_act reply new → (replies : List KeptAnswer) → HoldsBook g old replies → HasCleanDisk (state g new.tables) → Goes
  call_goes Anew goes answers replies held clean = by_flag old.stopped _ (Answered g caller old new asks_act reply replies (Anew replies asks_act reply new)) _ (answers replies held clean)
      (λ _ told. no_refusal Stopped told.0)
      (λ _ came. answered_goes replies (Anew replies asks_act reply new) (goes replies) came)

  pub act_call_goes : (moment : Option ℕ) (text : List ℕ) → AnswersActCall g caller moment text old asks_act reply new → (replies : List KeptAnswer) → HoldsBook g old replies → HasCleanDisk (state g new.tables) → Goes
  act_call_goes moment text answers = call_goes (λ replies acts reply new. ActsAnew g moment text replies caller old acts reply new) (λ replies made. act_goes replies moment text made) answers

  pub load_call_goes : (kind : LoadKind) (moment : Option ℕ) (name csv : List ℕ) → AnswersLoadCall g caller kind moment name csv old asks_act reply new → (replies : List KeptAnswer) → HoldsBook g old replies → HasCleanDisk (state g new.tables) → Goes
  load_call_goes kind moment name csv answers = call_goes (λ replies acts reply new. LoadsAnew g kind moment name csv replies caller old acts reply new) (λ replies made. load_goes replies kind moment name csv made) answers

-- ---- what is served

acts_keep : {S : Type 0} (g : Ghosts S) (old new : Standing S) (given : Result ActCall Refusal) (outcome : Outcome) → ServesActCall g old given outcome new → KeepsTables g old new
acts_keep g old new (Ok call) outcome (asks_act, answers, ends, _) = act_call_keeps g call.caller old new asks_act outcome.reply call.moment call.text answers
acts_keep g old new (Err refusal) outcome (_, same) = same_keeps g old new same

loads_keep : {S : Type 0} (g : Ghosts S) (old new : Standing S) (kind : LoadKind) (given : Result LoadCall Refusal) (outcome : Outcome) → ServesLoadCall g old kind given outcome new → KeepsTables g old new
loads_keep g old new kind (Ok call) outcome (asks_act, answers, ends, _) = load_call_keeps g call.caller old new asks_act outcome.reply kind call.moment call.name call.csv answers
loads_keep g old new kind (Err refusal) outcome (_, same) = same_keeps g old new same

text_keeps : {S : Type 0} (g : Ghosts S) (old new : Standing S) (kind : LoadKind) (body : List ℕ) (outcome : Outcome) → ServesText g old kind body outcome new → KeepsTables g old new
text_keeps g old new kind body outcome (given, judged, serves) = loads_keep g old new kind given outcome serves

body_keeps : {S : Type 0} (g : Ghosts S) (old new : Standing S) (post : Post) (body : List ℕ) (outcome : Outcome) → ServesBody g old post body outcome new → KeepsTables g old new
body_keeps g old new paths.Acts body outcome (given, judged, serves) = acts_keep g old new given outcome serves
body_keeps g old new paths.Stacks body outcome serves = text_keeps g old new load_kind.Stack body outcome serves
body_keeps g old new paths.Procedures body outcome serves = text_keeps g old new load_kind.Procedure body outcome serves

post_keeps : {S : Type 0} (g : Ghosts S) (old new : Standing S) (post : Post) (body : List ℕ) (outcome : Outcome) → ServesPost g old post body outcome new → KeepsTables g old new
post_keeps g old new post body outcome serves = elim serves.served [ inl none ↦ same_keeps g old new none.1 | inr given ↦ body_keeps g old new post body outcome given ]

abbrev nobody : Stamp
nobody = record { by = []; moment = 0 }

serves_keeps : {S : Type 0} (since : ℕ) (g : Ghosts S) (old new : Standing S) (asked : Asked) (outcome : Outcome) → Serves since g old asked outcome new → KeepsTables g old new
serves_keeps since g old new (refuses why) outcome (_, same) = same_keeps g old new same
serves_keeps since g old new (asks query) outcome (steps, _, _) = step_keeps g old new nobody (act.Ask query) outcome.reply (steps nobody)
serves_keeps since g old new shows outcome serves = same_keeps g old new serves.same
serves_keeps since g old new tells outcome serves = same_keeps g old new serves.same
serves_keeps since g old new (posts post body) outcome serves = post_keeps g old new post body outcome serves

-- what was read of a connection is served
pub read_keeps : {S : Type 0} (g : Ghosts S) (old new : Standing S) (read : Option Asked) → ServesRead g old read new → KeepsTables g old new
read_keeps g old new None same = same_keeps g old new same
read_keeps g old new (Some asked) (since, outcome, serves) = serves_keeps since g old new asked outcome serves

-- ---- exchanges, one after the other

all_opened : {S : Type 0} (g : Ghosts S) (start end : Standing S) (read : List (Option Asked)) → ServesAll g start read end → end.opened ≡ start.opened
all_opened {S} g start end [] same = ap (λ (s : Standing S). s.opened) same
all_opened g start end (read ∷ others) (next, one, later) = all_opened g next end others later ∙ one.opened

all_promised : {S : Type 0} (g : Ghosts S) (start end : Standing S) (read : List (Option Asked)) → KeepsPromise either (desk_in start) → ServesAll g start read end → KeepsPromise either (desk_in end)
all_promised {S} g start end [] promise same = subst (λ (s : Standing S). KeepsPromise either (desk_in s)) (sym same) promise
all_promised g start end (read ∷ others) promise (next, one, later) = all_promised g next end others one.promise later

pub all_held : {S : Type 0} (g : Ghosts S) (start end : Standing S) (read : List (Option Asked)) (replies : List KeptAnswer) → ServesAll g start read end → HoldsBook g start replies
    → (after : List KeptAnswer) × KeepsAll replies after × HoldsBook g end after
all_held {S} g start end [] replies same held = (replies, all_same replies, subst (λ (s : Standing S). HoldsBook g s replies) (sym same) held)
all_held g start end (read ∷ others) replies (next, one, later) held =
    let keeps : KeepsTables g start next = read_keeps g start next read one.served in
    let mid = keeps.held replies held in
    let last = all_held g next end others mid.0 later mid.2 in
    (last.0, all_more replies mid.0 last.0 mid.1 last.1, last.2)

-- the exchange at which the database failed is this one, or a later one
failed_at : {S : Type 0} (g : Ghosts S) (replies : List KeptAnswer) (start next end : Standing S) (read : Option Asked) (others : List (Option Asked)) → KeepsPromise either (desk_in start) → HoldsBook g start replies
    → start.stopped ≡ false → next.stopped ≡ true → ServesOne g start read next → ServesAll g next others end → FailedAt g replies start (read ∷ others) end
failed_at g replies start next end read others promise held going stopped one later = record {
  before = [];
  read = read;
  after = others;
  among = refl;
  last = start;
  next = next;
  to_last = refl;
  one = one;
  to_end = later;
  held = replies;
  keeps = all_same replies;
  promise = promise;
  going = going;
  stopped = stopped;
  failed = λ clean. let keeps : KeepsTables g start next = read_keeps g start next read one.served in keeps.failed replies held clean going stopped;
}

failed_later : {S : Type 0} (g : Ghosts S) (replies mid : List KeptAnswer) (start next end : Standing S) (read : Option Asked) (others : List (Option Asked)) → KeepsAll replies mid → ServesOne g start read next
    → FailedAt g mid next others end → FailedAt g replies start (read ∷ others) end
failed_later g replies mid start next end read others keeps one at = record {
  before = read ∷ at.before;
  read = at.read;
  after = at.after;
  among = ap (λ (reads : List (Option Asked)). read ∷ reads) at.among;
  last = at.last;
  next = at.next;
  to_last = (next, one, at.to_last);
  one = at.one;
  to_end = at.to_end;
  held = at.held;
  keeps = all_more replies mid at.held keeps at.keeps;
  promise = at.promise;
  going = at.going;
  stopped = at.stopped;
  failed = at.failed;
}

pub at_flag : (b : Bool) (P : Type 0) → (b ≡ true → P) → (b ≡ false → P) → P
at_flag true P on off = on refl
at_flag false P on off = off refl

all_failed : {S : Type 0} (g : Ghosts S) (start end : Standing S) (read : List (Option Asked)) (replies : List KeptAnswer) → KeepsPromise either (desk_in start) → ServesAll g start read end
    → HoldsBook g start replies → start.stopped ≡ false → end.stopped ≡ true → FailedAt g replies start read end
all_failed {S} g start end [] replies promise same held going stopped = absurd (false≢true (sym going ∙ (ap (λ (s : Standing S). s.stopped) (sym same) ∙ stopped)))
all_failed g start end (read ∷ others) replies promise (next, one, later) held going stopped =
    let keeps : KeepsTables g start next = read_keeps g start next read one.served in
    at_flag next.stopped (FailedAt g replies start (read ∷ others) end) (λ is. failed_at g replies start next end read others promise held going is one later)
    (λ is.
    let mid = keeps.held replies held in failed_later g replies mid.0 start next end read others mid.1 one (all_failed g next end others mid.0 one.promise later mid.2 is stopped))

-- The promise is kept after any exchanges.
pub all_keep : {S : Type 0} (g : Ghosts S) (start end : Standing S) (read : List (Option Asked)) → KeepsPromise either (desk_in start) → ServesAll g start read end → KeepsRoom g start read end
all_keep g start end read promise serves = record {
  opened = all_opened g start end read serves;
  promise = all_promised g start end read promise serves;
  held = λ replies. all_held g start end read replies serves;
  failed = λ replies held going stopped. all_failed g start end read replies promise serves held going stopped;
}
