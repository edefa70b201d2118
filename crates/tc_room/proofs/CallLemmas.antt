-- What is asked under a number: a kept text is that of lines, a reply that was kept is kept still, a new one is found, and what an answer says of the tables.
use Rattle.std.proofs.Common.{◌≡◌, ◌∙◌, ◌⊎◌, inl, inr, ℕ, ◌==◌, Bool, true, false, ◌&&◌, not, if◌then◌else◌, Option, Some, None, List, [], ◌∷◌, ◌++◌, find, option_map, codes, nat_eq, refl, sym, ap, ap₂, subst, eq-eqb, eqb-true, MatchBool}
use Rattle.std.specs.List.{starts_with}
use Rattle.std.specs.Option.{option_or}
use Rattle.std.specs.Str.{bytes_eq}
use Rattle.std.proofs.lemmas.List.Folds.{find-append}
use Rattle.std.proofs.lemmas.Slice.Eq.{bytes_eq-Decides}
use Rattle.sqlite_trees.specs.declared.store.Store.{Ghosts}
use Rattle.sqlite.specs.Held.{state}
use Rattle.sqlite.specs.State.{HasCleanDisk}
use Rattle.tc_types.specs.declared.acts.Line.{Line}
use Rattle.tc_types.specs.declared.loads.LoadKind.{LoadKind}
use Rattle.tc_types.specs.declared.refusals.Refusal.{Refusal}
use Rattle.tc_types.specs.declared.refusals.Refusal.TheVariants.{Store, Stopped}
use Rattle.tc_desk.specs.Acts.{is_question}
use Rattle.tc_desk.specs.Machine.{stamp_of}
use Rattle.tc_desk.specs.Replies.{Reply, refusal_reply}
use Rattle.tc_store.specs.Ledgers.{IsKeptText, KeptAnswer}
use Rattle.tc_room.specs.declared.callers.Caller.{Caller}
use Rattle.tc_room.specs.Calls.{ActsAnew, AnswersActCall, AnswersCall, AnswersLoadCall, FailsLook, KeepsAll, LoadsAnew, MakesOnce, StaysSo, kept_after, kept_for, kept_once, kept_with}
use Rattle.tc_room.specs.Crash.{ledger_of}
use Rattle.tc_room.specs.Joined.{HasLedger, HoldsBook, LinkState, Standing}
use Rattle.tc_room.specs.Replies.{AreLines, ended, is_refused}
use Rattle.tc_room.specs.Room.{FailsStore, StepsDesk}
use Rattle.tc_room.proofs.StopLemmas.{true_false}

-- ---- refusals

-- a refusal says so
pub refuses : (refusal : Refusal) → is_refused (refusal_reply refusal) ≡ true
refuses refusal = refl

-- ---- the text of lines

-- the lines of a text that ends with LF: at least one
abbrev IsCut : List ℕ → Type 0
IsCut text = (first : List ℕ) × (others : List (List ℕ)) × (text ≡ ended (first ∷ others)) × AreLines (first ∷ others)

-- a byte before such lines is one of the first, or ends one
cut_more : (byte : ℕ) (text : List ℕ) (is : Bool) → (byte == 10) ≡ is → IsCut text → IsCut (byte ∷ text)
cut_more byte text true is cut = ([], cut.0 ∷ cut.1, ap₂ (λ b l. b ∷ l) (eqb-true byte 10 is) cut.2, cut.3)
cut_more byte text false is cut = (byte ∷ cut.0, cut.1, ap (λ l. byte ∷ l) cut.2, rw is cut.3)

cut : (front : List ℕ) → IsCut (front ++ 10 ∷ [])
cut [] = ([], [], refl, refl)
cut (byte ∷ front) = cut_more byte (front ++ 10 ∷ []) (byte == 10) refl (cut front)

-- a text begins as its first line does
starts_on : (eq : Bool) (behind more : Bool) → (behind ≡ true → more ≡ true) → (eq && behind) ≡ true → (eq && more) ≡ true
starts_on true behind more go is = go is
starts_on false behind more go is = is

starts_more : (needle text more : List ℕ) → starts_with nat_eq text needle ≡ true → starts_with nat_eq (text ++ more) needle ≡ true
starts_more [] text more is = refl
starts_more (n ∷ needle) [] more is = absurd (true_false (sym is))
starts_more (n ∷ needle) (b ∷ text) more is = starts_on (nat_eq n b) (starts_with nat_eq text needle) (starts_with nat_eq (text ++ more) needle) (starts_more needle text more) is

unless : (a b : Bool) → (a ≡ true → b ≡ true) → b ≡ false → a ≡ false
unless true b on none = absurd (true_false (sym (on refl) ∙ none))
unless false b on none = refl

-- a kept text is the lines of a reply that refuses nothing
pub kept_lines : (text : List ℕ) → IsKeptText text → (reply : Reply) × (text ≡ ended reply) × AreLines reply × (is_refused reply ≡ false)
kept_lines text kept =
    let lines = cut kept.ended.0 in
    let same : text ≡ (lines.0 ++ 10 ∷ []) ++ ended lines.1 = kept.ended.1 ∙ lines.2 in (
      lines.0 ∷ lines.1,
      same,
      lines.3,
      unless (starts_with nat_eq lines.0 (codes "refused")) (starts_with nat_eq text (codes "refused"))
          (λ is. subst (λ (l : List ℕ). starts_with nat_eq l (codes "refused") ≡ true) (sym same)
          (starts_more (codes "refused") (lines.0 ++ 10 ∷ []) (ended lines.1) (starts_more (codes "refused") lines.0 (10 ∷ []) is))) kept.accepted,
    )

-- ---- what is found

-- whether a kept reply is of this caller
abbrev is_of : Caller → KeptAnswer → Bool
is_of caller k = bytes_eq k.person caller.by && (k.number == caller.number)

abbrev body_in : Option KeptAnswer → Option (List ℕ)
body_in found = option_map (λ (k : KeptAnswer). k.body) found

-- this reply, as it is kept
abbrev pub kept_as : Caller → Reply → KeptAnswer
kept_as caller reply = record { person = caller.by; number = caller.number; body = ended reply }

found_on : (first second : Option KeptAnswer) (body : List ℕ) → body_in first ≡ Some body → body_in (option_or first second) ≡ Some body
found_on None second body is = absurd (let none : Option (List ℕ) = None in let e : none ≡ Some body = is in cc)
found_on (Some k) second body is = is

found_new : (first second : Option KeptAnswer) → body_in first ≡ None → body_in (option_or first second) ≡ body_in second
found_new None second is = refl
found_new (Some k) second is = absurd (let none : Option (List ℕ) = None in let e : Some k.body ≡ none = is in cc)

-- what was found is found still, where a reply comes behind the others
keeps_more : (replies : List KeptAnswer) (k : KeptAnswer) → KeepsAll replies (replies ++ k ∷ [])
keeps_more replies k = λ caller body is. ap body_in (find-append (is_of caller) replies (k ∷ [])) ∙ found_on (find (is_of caller) replies) (find (is_of caller) (k ∷ [])) body is

-- each reply that was kept is kept still
pub keeps_with : (replies : List KeptAnswer) (caller : Caller) (reply : Reply) → KeepsAll replies (kept_with replies caller reply)
keeps_with replies caller reply = by (is_refused reply)
  where
    by : (refused : Bool) → KeepsAll replies (if refused then replies else replies ++ kept_as caller reply ∷ [])
    by true = λ caller body is. is
    by false = keeps_more replies (kept_as caller reply)

pub keeps_once : (found : Option (List ℕ)) (replies : List KeptAnswer) (caller : Caller) (acts : Bool) (reply : Reply) → KeepsAll replies (kept_once found replies caller acts reply)
keeps_once (Some body) replies caller acts reply = λ caller body is. is
keeps_once None replies caller true reply = keeps_with replies caller reply
keeps_once None replies caller false reply = λ caller body is. is

pub keeps_after : (replies : List KeptAnswer) (caller : Caller) (acts : Bool) (reply : Reply) → KeepsAll replies (kept_after replies caller acts reply)
keeps_after replies caller acts reply = keeps_once (kept_for replies caller) replies caller acts reply

-- a reply is of its caller
own : (caller : Caller) (reply : Reply) → is_of caller (kept_as caller reply) ≡ true
own caller reply = rw ((bytes_eq-Decides caller.by caller.by).1 refl, eq-eqb caller.number caller.number refl) refl

-- what is kept where none was is found
pub kept_new : (replies : List KeptAnswer) (caller : Caller) (reply : Reply) → kept_for replies caller ≡ None → is_refused reply ≡ false → kept_for (kept_with replies caller reply) caller ≡ Some (ended reply)
kept_new replies caller reply none granted = rw granted
    (ap body_in (find-append (is_of caller) replies (kept_as caller reply ∷ [])) ∙ found_new (find (is_of caller) replies) (find (is_of caller) (kept_as caller reply ∷ [])) none ∙ rw (own caller reply) refl)

-- so it is once an act or a load was answered by a reply that refuses nothing, and where that reply was kept before
pub after_new : (replies : List KeptAnswer) (caller : Caller) (acts : Bool) (reply : Reply) → acts ≡ true → kept_for replies caller ≡ None → is_refused reply ≡ false
    → kept_for (kept_after replies caller acts reply) caller ≡ Some (ended reply)
after_new replies caller acts reply is none granted = rw (none, is) (kept_new replies caller reply none granted)

pub after_kept : (replies : List KeptAnswer) (caller : Caller) (acts : Bool) (reply : Reply) (body : List ℕ) → kept_for replies caller ≡ Some body
    → kept_for (kept_after replies caller acts reply) caller ≡ Some body
after_kept replies caller acts reply body is = keeps_after replies caller acts reply caller body is

-- where one was kept, and where a question was asked, no other is
pub same_kept : (replies : List KeptAnswer) (caller : Caller) (acts : Bool) (reply : Reply) (body : List ℕ) → kept_for replies caller ≡ Some body → kept_after replies caller acts reply ≡ replies
same_kept replies caller acts reply body is = ap (λ (found : Option (List ℕ)). kept_once found replies caller acts reply) is

pub same_asked : (replies : List KeptAnswer) (caller : Caller) (acts : Bool) (reply : Reply) → acts ≡ false → kept_after replies caller acts reply ≡ replies
same_asked replies caller acts reply is = by (kept_for replies caller)
  where
    by : (found : Option (List ℕ)) → kept_once found replies caller acts reply ≡ replies
    by (Some body) = refl
    by None = rw is refl

-- a refusal is kept by none
pub same_refused : (replies : List KeptAnswer) (caller : Caller) (acts : Bool) (reply : Reply) → is_refused reply ≡ true → kept_after replies caller acts reply ≡ replies
same_refused replies caller acts reply is = by (kept_for replies caller) acts
  where
    by : (found : Option (List ℕ)) (acts : Bool) → kept_once found replies caller acts reply ≡ replies
    by (Some body) acts = refl
    by None true = rw is refl
    by None false = refl

-- the reply to an act or a load that was done is kept
pub more_kept : (replies : List KeptAnswer) (caller : Caller) (acts : Bool) (reply : Reply) → acts ≡ true → kept_for replies caller ≡ None → kept_after replies caller acts reply ≡ kept_with replies caller reply
more_kept replies caller acts reply is none = rw (none, is) refl

-- ---- what an answer says of the tables

by_stopped : (b : Bool) (A B P : Type 0) → MatchBool b A B → (b ≡ true → A → P) → (b ≡ false → B → P) → P
by_stopped true A B P is stopped going = stopped refl is
by_stopped false A B P is stopped going = going refl is

not_going : {P : Type 0} (b : Bool) → b ≡ true → b ≡ false → P
not_going b stopped going = absurd (true_false (sym stopped ∙ going))

module _ {S : Type 0} (g : Ghosts S) (replies : List KeptAnswer) (caller : Caller) (old : Standing S) (acts : Bool) (reply : Reply) (new : Standing S) where
  -- tables of the book of a room that went on, and of what is kept after the call
  abbrev HoldsAfter : Type 0
  HoldsAfter = new.stopped ≡ false → HasLedger g new.tables (ledger_of new.desk.book (kept_after replies caller acts reply))

  with_kept : (after : List KeptAnswer) → kept_after replies caller acts reply ≡ after → HasLedger g new.tables (ledger_of new.desk.book after) → HoldsAfter
  with_kept after is has = λ going. subst (λ (kept : List KeptAnswer). HasLedger g new.tables (ledger_of new.desk.book kept)) (sym is) has

  stays_held : kept_after replies caller acts reply ≡ replies → StaysSo g replies old new → HoldsAfter
  stays_held is stays = with_kept replies is (subst (λ (desk : LinkState). HasLedger g new.tables (ledger_of desk.book replies)) (sym stays.desk) stays.tables)

  refused_held : (refusal : Refusal) → reply ≡ refusal_reply refusal → StaysSo g replies old new → HoldsAfter
  refused_held refusal is stays = stays_held (same_refused replies caller acts reply (ap is_refused is ∙ refuses refusal)) stays

  made_held : {Makes : Reply → LinkState → Type 0} {Free : Type 0} → acts ≡ true → kept_for replies caller ≡ None → MakesOnce g replies caller Makes Free old reply new → HoldsAfter
  made_held is none (inl does) = with_kept (kept_with replies caller reply) (more_kept replies caller acts reply is none) does.tables
  made_held is none (inr (free, fails)) = λ going. not_going new.stopped fails.stopped going

  asked_held : (line : Line) → acts ≡ false → StepsDesk g replies old (stamp_of line) line.act reply new ⊎ FailsStore g replies old (stamp_of line) line.act reply new → HoldsAfter
  asked_held line is (inl steps) = with_kept replies (same_asked replies caller acts reply is) steps.tables
  asked_held line is (inr fails) = λ going. not_going new.stopped fails.stopped going

  -- what is asked anew
  act_held : (moment : Option ℕ) (text : List ℕ) → kept_for replies caller ≡ None → ActsAnew g moment text replies caller old acts reply new → HoldsAfter
  act_held moment text none (inl (refusal, judged, is, stays)) = refused_held refusal is stays
  act_held moment text none (inr (line, judged, (is, answers))) = by_stopped (is_question line.act) _ _ _ answers
      (λ asks. asked_held line (is ∙ ap not asks))
      (λ acts. made_held (is ∙ ap not acts) none)

  load_held : (kind : LoadKind) (moment : Option ℕ) (name csv : List ℕ) → kept_for replies caller ≡ None → LoadsAnew g kind moment name csv replies caller old acts reply new → HoldsAfter
  load_held kind moment name csv none (is, inl (refusal, why, which, told, stays)) = refused_held refusal told stays
  load_held kind moment name csv none (is, inr (at, some, named, inl (refusal, unread, told, stays))) = refused_held refusal told stays
  load_held kind moment name csv none (is, inr (at, some, named, inr (given, spells, makes))) = made_held is none makes

  -- what a call is answered
  abbrev IsAnswered : Type 0 → Type 0
  IsAnswered Anew = FailsLook g replies caller old reply new
      ⊎ ((kept_for replies caller ≡ Some (ended reply)) × (is_refused reply ≡ false) × (acts ≡ true) × StaysSo g replies old new)
      ⊎ ((kept_for replies caller ≡ None) × Anew)

  answered_held : (Anew : Type 0) → (kept_for replies caller ≡ None → Anew → HoldsAfter) → IsAnswered Anew → HoldsAfter
  answered_held Anew anew (inl fails) = λ going. not_going new.stopped fails.fails.stopped going
  answered_held Anew anew (inr (inl (kept, granted, is, stays))) = stays_held (same_kept replies caller acts reply (ended reply) kept) stays
  answered_held Anew anew (inr (inr (none, made))) = anew none made

  call_held : (Anew : List KeptAnswer → Bool → Reply → Standing S → Type 0) → (kept_for replies caller ≡ None → Anew replies acts reply new → HoldsAfter) → AnswersCall g Anew caller old acts reply new
      → HoldsBook g old replies → HoldsBook g new (kept_after replies caller acts reply)
  call_held Anew anew answers held = λ going clean. by_stopped old.stopped _ _ _ (answers replies held clean)
      (λ was stopped. not_going new.stopped (ap (λ (s : Standing S). s.stopped) stopped.1 ∙ was) going)
      (λ was answered. answered_held (Anew replies acts reply new) anew answered going)

  -- the tables of a room that goes on hold its book after a call, and the replies that are kept then
  pub act_call_held : (moment : Option ℕ) (text : List ℕ) → AnswersActCall g caller moment text old acts reply new → HoldsBook g old replies → HoldsBook g new (kept_after replies caller acts reply)
  act_call_held moment text answers held = call_held (λ replies acts reply new. ActsAnew g moment text replies caller old acts reply new) (act_held moment text) answers held

  pub load_call_held : (kind : LoadKind) (moment : Option ℕ) (name csv : List ℕ) → AnswersLoadCall g caller kind moment name csv old acts reply new → HoldsBook g old replies
      → HoldsBook g new (kept_after replies caller acts reply)
  load_call_held kind moment name csv answers held = call_held (λ replies acts reply new. LoadsAnew g kind moment name csv replies caller old acts reply new) (load_held kind moment name csv) answers held

  granted_kept : (Anew : Type 0) → acts ≡ true → is_refused reply ≡ false → IsAnswered Anew → kept_for (kept_after replies caller acts reply) caller ≡ Some (ended reply)
  granted_kept Anew is granted (inl fails) = not_going (is_refused reply) (ap is_refused fails.fails.reply ∙ refuses Store) granted
  granted_kept Anew is granted (inr (inl (kept, _, _, _))) = after_kept replies caller acts reply (ended reply) kept
  granted_kept Anew is granted (inr (inr (none, made))) = after_new replies caller acts reply is none granted

  -- the reply to an act or a load that was accepted is kept then, whether it was done now or before
  pub call_kept : (Anew : List KeptAnswer → Bool → Reply → Standing S → Type 0) → AnswersCall g Anew caller old acts reply new → HoldsBook g old replies → HasCleanDisk (state g new.tables)
      → acts ≡ true → is_refused reply ≡ false → kept_for (kept_after replies caller acts reply) caller ≡ Some (ended reply)
  call_kept Anew answers held clean is granted = by_stopped old.stopped _ _ _ (answers replies held clean)
      (λ was stopped. not_going (is_refused reply) (ap is_refused stopped.0 ∙ refuses Stopped) granted)
      (λ was answered. granted_kept (Anew replies acts reply new) is granted answered)

  -- a call whose reply is kept is answered by that, and nothing is done; or its answer is a refusal
  same_answered : (Anew : Type 0) (body : List ℕ) → kept_for replies caller ≡ Some body → is_refused reply ≡ false → IsAnswered Anew → (ended reply ≡ body) × (acts ≡ true) × StaysSo g replies old new
  same_answered Anew body kept granted (inl fails) = not_going (is_refused reply) (ap is_refused fails.fails.reply ∙ refuses Store) granted
  same_answered Anew body kept granted (inr (inl (is, _, asks, stays))) = ((let e : (let some : Option (List ℕ) = Some (ended reply) in some) ≡ Some body = sym is ∙ kept in cc), asks, stays)
  same_answered Anew body kept granted (inr (inr (none, made))) = absurd (let e : (let some : Option (List ℕ) = Some body in some) ≡ None = sym kept ∙ none in cc)

  pub call_repeats : (Anew : List KeptAnswer → Bool → Reply → Standing S → Type 0) → AnswersCall g Anew caller old acts reply new → HoldsBook g old replies → HasCleanDisk (state g new.tables)
      → (body : List ℕ) → kept_for replies caller ≡ Some body → is_refused reply ≡ false → (ended reply ≡ body) × (acts ≡ true) × StaysSo g replies old new
  call_repeats Anew answers held clean body kept granted = by_stopped old.stopped _ _ _ (answers replies held clean)
      (λ was stopped. not_going (is_refused reply) (ap is_refused stopped.0 ∙ refuses Stopped) granted)
      (λ was answered. same_answered (Anew replies acts reply new) body kept granted answered)
