-- The loop over the lines of a script.
use Rattle.std.proofs.Common.{◌≡◌, ◌∙◌, ℕ, Bool, true, false, Option, List, [], ◌∷◌, ◌++◌, refl, sym, ap, subst, append-nil}
use Rattle.std.specs.Prelude.{◌||◌, IsOkAnd, ◌↔◌, Result, Ok, Err, if◌then◌else◌}
use Rattle.std.specs.List.{list_any}
use Rattle.std.specs.Io.KnownBytes.{Appends}
use Rattle.std.proofs.KnownBytes.{Appends-trans, Appends-nil}
use Rattle.sqlite_trees.specs.declared.memory.MemStore.{MemStore}
use Rattle.sqlite_trees.specs.declared.store.Store.{Ghosts}
use Rattle.sqlite.specs.Steps.{over_memory}
use Rattle.sqlite.proofs.Callers.{memory_is_clean}
use Rattle.tc_types.specs.declared.acts.Act.TheVariants as act
use Rattle.tc_types.specs.declared.acts.Query.TheVariants as query
use Rattle.tc_types.specs.ActGrammar.{HasLongAct}
use Rattle.tc_types.specs.Loads.{LoadLine, SpellsLoad, line_of}
use Rattle.tc_types.specs.declared.loads.Load.{Load}
use Rattle.tc_types.specs.declared.refusals.Refusal.{Refusal}
use Rattle.tc_types.specs.declared.refusals.Refusal.TheVariants.{TooLong}
use Rattle.tc_world.specs.EitherLink.{either}
use Rattle.tc_desk.specs.Promise.{KeepsPromise}
use Rattle.tc_desk.specs.Replies.{Reply}
use Rattle.tc_world.specs.declared.configs.Config as configs
use Rattle.tc_room.specs.Answers.{RefusesWith}
use Rattle.tc_room.specs.Joined.{Standing, desk_in}
use Rattle.tc_room.specs.Replies.{is_refused}
use Rattle.tc_room.specs.Room.{IsJustOpened}
use Rattle.tc_closed.specs.Files.{FileAnswer, Gives}
use Rattle.tc_check.specs.Scripts.{IsLoadLine, is_skipped, script_lines}
use Rattle.tc_run.specs.Run.{Came, CameLast, IsAnswered, RepliesTo, RunsLines, TakesFront, TakesLine, TakesLines, answered, exchange, exchanges}
use Rattle.tc_run.proofs.EchoLemmas.{exchanges_more}
use Rattle.tc_run.proofs.HoldLemmas.{front_failed, lines_held, nobody, places_told, question_failed, step_held}
use Rattle.tc_run.proofs.TakeLemmas.{front_all, front_grown, front_none, gives_more, gives_none, takes_front-end, takes_front-start, takes_front-step}

or_assoc : (a b c : Bool) → ((a || b) || c) ≡ (a || (b || c))
or_assoc true b c = refl
or_assoc false b c = refl

pub list_any-append : {X : Type 0} (p : X → Bool) (xs ys : List X) → list_any p (xs ++ ys) ≡ (list_any p xs || list_any p ys)
list_any-append p [] ys = refl
list_any-append p (x ∷ xs) ys = ap (λ b. p x || b) (list_any-append p xs ys) ∙ sym (or_assoc (p x) (list_any p xs) (list_any p ys))

or_false : (b : Bool) → (b || false) ≡ b
or_false true = refl
or_false false = refl

-- a line that loads something has no long act
pub loads_short : (line : List ℕ) (read : Result Load Refusal) (load : Load) → read ≡ Ok load → ((read ≡ Err TooLong) ↔ HasLongAct line) → ¬ HasLongAct line
loads_short line read load was long has = let e : read ≡ Err TooLong = long.1 has in cc

-- a line that is not read as one loads nothing
pub loads_nothing : (line : List ℕ) (read : Result Load Refusal) (refusal : Refusal) → read ≡ Err refusal
    → ((load : LoadLine) → SpellsLoad line load → (¬ HasLongAct line) → IsOkAnd read (λ (l : Load). line_of l ≡ load)) → (load : LoadLine) → ¬ IsLoadLine line load
loads_nothing line read refusal was only load is = subst (λ (r : Result Load Refusal). IsOkAnd r (λ (l : Load). line_of l ≡ load)) was (only load is.0 is.1)

-- ---- in a room over any store

module _ {S : Type 0} (g : Ghosts S) (echo : Bool) where
  -- What was written so far are the replies to the lines that were taken, with the files that were given meanwhile.
  pub record HasRun (start : Standing S) (lines : List (List ℕ)) (gave : Option (List FileAnswer)) (old : Option (List ℕ)) (at : Standing S) (left : List (List ℕ)) (gives : Option (List FileAnswer)) (new : Option (List ℕ)) (refused : Bool) : Type 0 where
    pub files : List FileAnswer
    pub replies : List Reply
    pub taken : TakesFront g start lines files replies at left
    pub given : Gives gave gives files
    pub written : Appends old new (exchanges echo (answered taken.0) replies)
    pub refusals : refused ≡ list_any is_refused replies
    pub opened : at.opened ≡ start.opened

  pub has_run-start : (start : Standing S) (lines left : List (List ℕ)) (p : Option (List FileAnswer)) (w : Option (List ℕ)) → left ≡ lines → HasRun start lines p w start left p w false
  has_run-start start lines left p w all = record { files = []; replies = []; taken = takes_front-start g start lines left all; given = gives_none p; written = rw (front_none g start lines left all) (Appends-nil w); refusals = refl; opened = refl }

  -- a line that is skipped came to nothing
  pub came_skipped : (at : Standing S) (line : List ℕ) (p : Option (List FileAnswer)) (w : Option (List ℕ)) → is_skipped line ≡ true
      → Came g echo (line ∷ []) (TakesLine g at line) at p p w w at false
  came_skipped at line p w skipped = record { replies = []; files = []; taken = rw skipped (refl, refl, refl); given = gives_none p; written = rw skipped (Appends-nil w); refusals = refl; opened = refl }

  -- a line that is not skipped came to its answer
  pub came_answered : (at : Standing S) (line : List ℕ) (next : Standing S) (gave gives : Option (List FileAnswer)) (mid new : Option (List ℕ)) (why : Option Refusal) (refused : Bool) (text : List ℕ)
      → is_skipped line ≡ false → RepliesTo g at line gave gives text why next → ((reply : Reply) → RefusesWith reply why → refused ≡ is_refused reply)
      → Appends mid new (exchange echo line text) → Came g echo (line ∷ []) (TakesLine g at line) at gave gives mid new next refused
  came_answered at line next gave gives mid new why refused text goes_on h told appends = record {
    replies = h.reply ∷ [];
    files = h.files;
    taken = rw goes_on (h.reply, refl, h.answers);
    given = h.given;
    written = rw (goes_on, append-nil) (subst (λ (bytes : List ℕ). Appends mid new (exchange echo line bytes)) h.text_is appends);
    refusals = told h.reply h.refuses ∙ sym (or_false (is_refused h.reply));
    opened = h.opened;
  }

  pub has_run-step : (start : Standing S) (lines : List (List ℕ)) (gave : Option (List FileAnswer)) (old : Option (List ℕ)) (at : Standing S) (left : List (List ℕ)) (line : List ℕ) (others : List (List ℕ))
      (so_far gives : Option (List FileAnswer)) (mid new : Option (List ℕ)) (before now : Bool) (next : Standing S)
      → HasRun start lines gave old at left so_far mid before → left ≡ line ∷ others → Came g echo (line ∷ []) (TakesLine g at line) at so_far gives mid new next now
      → HasRun start lines gave old next others gives new (before || now)
  has_run-step start lines gave old at left line others so_far gives mid new before now next h is_line came = record {
    files = h.files ++ came.files;
    replies = h.replies ++ came.replies;
    taken = takes_front-step g start lines h.files h.replies at left line others came.files came.replies next h.taken is_line came.taken;
    given = gives_more gave so_far gives h.files came.files h.given came.given;
    written = rw (
      front_grown g start lines h.files h.replies at left line others came.files came.replies next h.taken is_line came.taken,
      exchanges_more g echo start h.taken.0 h.files h.replies at line came.replies h.taken.2,
    ) (Appends-trans _ _ _ _ _ h.written came.written);
    refusals = rw (h.refusals, came.refusals) (sym (list_any-append is_refused h.replies came.replies));
    opened = came.opened ∙ h.opened;
  }

  pub has_run-end : (start : Standing S) (lines : List (List ℕ)) (gave : Option (List FileAnswer)) (old : Option (List ℕ)) (at : Standing S) (left : List (List ℕ)) (gives : Option (List FileAnswer)) (new : Option (List ℕ)) (refused : Bool)
      → HasRun start lines gave old at left gives new refused → left ≡ [] → Came g echo lines (TakesLines g start lines) start gave gives old new at refused
  has_run-end start lines gave old at left gives new refused h none = record {
    replies = h.replies;
    files = h.files;
    taken = takes_front-end g start lines h.files h.replies at left h.taken none;
    given = h.given;
    written = rw (sym (front_all g start lines h.files h.replies at left h.taken none)) h.written;
    refusals = h.refusals;
    opened = h.opened;
  }

  -- the lines of a script, and the question at the end
  pub lines_run : (input : List ℕ) (start end after : Standing S) (refused last : Bool) (gave gives : Option (List FileAnswer)) (old mid new : Option (List ℕ))
      → Came g echo (script_lines input) (TakesLines g start (script_lines input)) start gave gives old mid end refused → CameLast g end mid new after last
      → KeepsPromise either (desk_in end) → RunsLines g echo start input (if refused || last then 1 else 0) gave gives old new after
  lines_run input start end after refused last gave gives old mid new ran asked promise =
      let replies = ran.replies in
      let reply = asked.reply in
      let any : list_any is_refused (replies ++ reply ∷ []) ≡ (refused || last) =
      list_any-append is_refused replies (reply ∷ []) ∙ rw (ran.refusals, asked.refusal) (ap (λ b. list_any is_refused replies || b) (or_false (is_refused reply))) in
      record {
        files = ran.files;
        replies = replies;
        end = end;
        last = reply;
        taken = ran.taken;
        asked = asked.asked;
        leaves = asked.leaves;
        given = ran.given;
        written = Appends-trans _ _ _ _ _ ran.written asked.written;
        status_is = ap (λ (b : Bool). if b then 1 else 0) (sym any);
        kept = asked.kept;
        opened = ran.opened;
        promise = promise;
        held = λ stored held. step_held g stored end after nobody (act.Ask query.Places) reply (asked.asked nobody) (lines_held g stored start end (script_lines input) ran.files replies ran.taken held);
        failed = λ stored held going. question_failed g stored start end after (script_lines input) ran.files replies reply (script_lines input, sym (append-nil (script_lines input)), ran.taken) asked.asked
            (lines_held g stored start end (script_lines input) ran.files replies ran.taken held)
            (front_failed g stored start end (script_lines input) ran.files replies [] (script_lines input, sym (append-nil (script_lines input)), ran.taken) held going);
        told = λ stored held clean. places_told g stored end after reply asked.asked (lines_held g stored start end (script_lines input) ran.files replies ran.taken held) clean;
      }

-- ---- in memory

-- a run in a room that was just opened in memory
pub run_answered : (echo : Bool) (config : configs.Config) (input : List ℕ) (start after : Standing MemStore) (status : ℕ) (gave gives : Option (List FileAnswer)) (old new : Option (List ℕ))
    → IsJustOpened over_memory config start → RunsLines over_memory echo start input status gave gives old new after → IsAnswered echo config input status gave gives old new
run_answered echo config input start after status gave gives old new opened run = (start, after, run, opened, run.told [] opened.tables (memory_is_clean after.tables))
