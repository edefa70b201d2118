-- What the tables hold while the lines of a script are run: the book, or what the failure of the database left.
use Rattle.std.proofs.Common.{◌≡◌, ◌∙◌, ℕ, Bool, true, false, List, [], ◌∷◌, ◌++◌, refl, sym, ap, subst, ◌⊎◌, inl, inr, append_assoc, length}
use Rattle.std.specs.Prelude.{MatchBool}
use Rattle.sqlite_trees.specs.declared.store.Store.{Ghosts}
use Rattle.sqlite.specs.Held.{state}
use Rattle.sqlite.specs.State.{HasCleanDisk}
use Rattle.tc_types.specs.declared.acts.Act.{Act}
use Rattle.tc_types.specs.declared.acts.Act.TheVariants as act
use Rattle.tc_types.specs.declared.acts.Query.TheVariants as query
use Rattle.tc_types.specs.declared.loads.LoadKind.{LoadKind}
use Rattle.tc_types.specs.declared.refusals.Refusal.TheVariants.{Stopped}
use Rattle.tc_types.specs.History.{counts_of, entered}
use Rattle.tc_types.specs.Lines.{places_line}
use Rattle.tc_book.specs.declared.stamps.Stamp.{Stamp}
use Rattle.tc_desk.specs.Loads.{Loading}
use Rattle.tc_desk.specs.Machine.{stamp_of}
use Rattle.tc_desk.specs.Replies.{Reply, refusal_reply}
use Rattle.tc_store.specs.Ledgers.{KeptAnswer}
use Rattle.tc_room.specs.Answers.{AsksPlaces}
use Rattle.tc_room.specs.Crash.{ledger_of}
use Rattle.tc_room.specs.Joined.{HasLedger, HoldsBook, Standing}
use Rattle.tc_room.specs.Loads.{FailsLoad, LoadsText, RoomLoad, SpellsLoading, loader_of}
use Rattle.tc_room.specs.Replies.{is_refused}
use Rattle.tc_room.specs.Room.{FailsStore, RoomStep, StepsDesk}
use Rattle.tc_closed.specs.Files.{FileAnswer}
use Rattle.tc_check.specs.Scripts.{is_skipped}
use Rattle.tc_run.specs.Run.{AnswersScriptLine, FailsLine, HasFailed, TakesFront, TakesLine, TakesLines, TellsBook}
use Rattle.tc_run.proofs.TakeLemmas.{takes_front-start, takes_front-step}

true_false : true ≡ false → ⊥
true_false e = cc

-- who asks the question at the end
abbrev pub nobody : Stamp
nobody = record { by = []; moment = 0 }

-- over tables that keep these replies
module _ {S : Type 0} (g : Ghosts S) (stored : List KeptAnswer) where
  -- ---- the question at the end

  -- what is answered to `places` in a room whose tables hold its book, where it is no refusal
  pub places_told : (at after : Standing S) (reply : Reply) → AsksPlaces g at reply after → HoldsBook g at stored → HasCleanDisk (state g after.tables) → TellsBook at.desk.book reply
  places_told at after reply asks held clean granted = by_flag at.stopped (asks nobody stored held clean)
    where
      Told : Type 0
      Told = reply ≡ places_line (length (entered at.desk.book.history)) (counts_of at.desk.book.history) ∷ []

      not_refused : is_refused reply ≡ true → Told
      not_refused refused = absurd (true_false (sym refused ∙ granted))

      by_flag : (stopped : Bool) → MatchBool stopped ((reply ≡ refusal_reply Stopped) × (after ≡ at))
          (StepsDesk g stored at nobody (act.Ask query.Places) reply after ⊎ FailsStore g stored at nobody (act.Ask query.Places) reply after) → Told
      by_flag true told = not_refused (rw told.0 refl)
      by_flag false (inl steps) = elim steps.desk [
        | inl (free, same, _) ↦ same
        | inr (refusal, _, is) ↦ not_refused (rw is refl)
      ]
      by_flag false (inr fails) = not_refused (rw fails.reply refl)

  -- ---- a room that goes on

  -- a room whose tables hold its book goes on so: through a step
  pub step_held : (old new : Standing S) (stamp : Stamp) (given : Act) (reply : Reply) → RoomStep g old stamp given reply new → HoldsBook g old stored → HoldsBook g new stored
  step_held old new stamp given reply step held going clean = by_flag old.stopped refl (step stored held clean)
    where
      by_flag : (stopped : Bool) → old.stopped ≡ stopped → MatchBool stopped ((reply ≡ refusal_reply Stopped) × (new ≡ old)) (StepsDesk g stored old stamp given reply new ⊎ FailsStore g stored old stamp given reply new)
          → HasLedger g new.tables (ledger_of new.desk.book stored)
      by_flag true was (_, same) = absurd (true_false (sym was ∙ ap (λ (s : Standing S). s.stopped) (sym same) ∙ going))
      by_flag false was (inl steps) = steps.tables
      by_flag false was (inr fails) = absurd (true_false (sym fails.stopped ∙ going))

  -- through a load
  load_held : (old new : Standing S) (stamp : Stamp) (kind : LoadKind) (name text : List ℕ) (reply : Reply) → RoomLoad g old stamp kind name text reply new → HoldsBook g old stored → HoldsBook g new stored
  load_held old new stamp kind name text reply load held going clean = by_flag old.stopped refl (load stored held clean)
    where
      by_flag : (stopped : Bool) → old.stopped ≡ stopped → MatchBool stopped ((reply ≡ refusal_reply Stopped) × (new ≡ old)) (LoadsText g stored old stamp kind name text reply new)
          → HasLedger g new.tables (ledger_of new.desk.book stored)
      by_flag true was (_, same) = absurd (true_false (sym was ∙ ap (λ (s : Standing S). s.stopped) (sym same) ∙ going))
      by_flag false was (inl (_, _, _, same)) = subst (λ (s : Standing S). HoldsBook g s stored) (sym same) held going clean
      by_flag false was (inr (_, _, inl steps)) = steps.tables
      by_flag false was (inr (_, _, inr fails)) = absurd (true_false (sym fails.stopped ∙ going))

  -- through a line
  pub line_held : (old new : Standing S) (line : List ℕ) (files : List FileAnswer) (replies : List Reply) → TakesLine g old line files replies new → HoldsBook g old stored → HoldsBook g new stored
  line_held old new line files replies takes held = by_flag (is_skipped line) takes
    where
      by_flag : (skipped : Bool) → MatchBool skipped ((files ≡ []) × (replies ≡ []) × (new ≡ old)) ((reply : Reply) × (replies ≡ reply ∷ []) × AnswersScriptLine g old line files reply new) → HoldsBook g new stored
      by_flag true (_, _, same) = subst (λ (s : Standing S). HoldsBook g s stored) (sym same) held
      by_flag false (reply, _, inl (load, text, _, _, loads, _)) = load_held old new (loader_of load) load.kind load.name text reply loads held
      by_flag false (reply, _, inr (_, _, inl (_, _, _, same))) = subst (λ (s : Standing S). HoldsBook g s stored) (sym same) held
      by_flag false (reply, _, inr (_, _, inr (read, _, _, step, _))) = step_held old new (stamp_of read) read.act reply step held

  -- and through all of them
  pub lines_held : (old new : Standing S) (lines : List (List ℕ)) (files : List FileAnswer) (replies : List Reply) → TakesLines g old lines files replies new → HoldsBook g old stored → HoldsBook g new stored
  lines_held old new [] files replies (_, _, same) held = subst (λ (s : Standing S). HoldsBook g s stored) (sym same) held
  lines_held old new (line ∷ lines) files replies (now, mid, later, first, others, takes, goes, _, _) held = lines_held mid new lines others later goes (line_held old mid line first now takes held)

  -- ---- a room that has stopped

  -- the database failed at one of the lines so far, where the room has stopped
  abbrev pub Failed : Standing S → List (List ℕ) → List Reply → Standing S → Type 0
  Failed start lines replies at = at.stopped ≡ true → HasCleanDisk (state g at.tables) → HasFailed g stored start lines replies at

  -- a room that goes on has not failed
  failed_none : (start at : Standing S) (lines : List (List ℕ)) (replies : List Reply) → at.stopped ≡ false → Failed start lines replies at
  failed_none start at lines replies going stopped clean = absurd (true_false (sym stopped ∙ going))

  -- one that has stopped stays as it was, with what is answered later
  failed_more : (start old new : Standing S) (lines : List (List ℕ)) (replies more : List Reply) → Failed start lines replies old → new ≡ old → Failed start lines (replies ++ more) new
  failed_more start old new lines replies more failed same = subst (Failed start lines (replies ++ more)) (sym same) (λ stopped clean.
      let h = failed stopped clean in record {
        files = h.files;
        before = h.before;
        last = h.last;
        left = h.left;
        told = h.told;
        later = h.later ++ more;
        taken = h.taken;
        fails = h.fails;
        among = ap (λ (l : List Reply). l ++ more) h.among ∙ append_assoc h.before (h.told ∷ h.later) more;
      })

  -- through a step, of which a failure is told
  step_failed : (start old new : Standing S) (lines : List (List ℕ)) (replies more : List Reply) (stamp : Stamp) (given : Act) (reply : Reply)
      → RoomStep g old stamp given reply new → HoldsBook g old stored → Failed start lines replies old
      → (FailsStore g stored old stamp given reply new → HasFailed g stored start lines (replies ++ more) new) → Failed start lines (replies ++ more) new
  step_failed start old new lines replies more stamp given reply step held failed fails stopped clean = by_flag old.stopped (step stored held clean)
    where
      by_flag : (flag : Bool) → MatchBool flag ((reply ≡ refusal_reply Stopped) × (new ≡ old)) (StepsDesk g stored old stamp given reply new ⊎ FailsStore g stored old stamp given reply new)
          → HasFailed g stored start lines (replies ++ more) new
      by_flag true (_, same) = failed_more start old new lines replies more failed same stopped clean
      by_flag false (inl steps) = absurd (true_false (sym stopped ∙ steps.going))
      by_flag false (inr fail) = fails fail

  -- through a load, likewise
  load_failed : (start old new : Standing S) (lines : List (List ℕ)) (replies more : List Reply) (stamp : Stamp) (kind : LoadKind) (name text : List ℕ) (reply : Reply)
      → RoomLoad g old stamp kind name text reply new → HoldsBook g old stored → Failed start lines replies old
      → ((given : Loading) → SpellsLoading kind name text given → FailsLoad g stored old stamp given reply new → HasFailed g stored start lines (replies ++ more) new) → Failed start lines (replies ++ more) new
  load_failed start old new lines replies more stamp kind name text reply load held failed fails stopped clean = by_flag old.stopped (load stored held clean)
    where
      by_flag : (flag : Bool) → MatchBool flag ((reply ≡ refusal_reply Stopped) × (new ≡ old)) (LoadsText g stored old stamp kind name text reply new)
          → HasFailed g stored start lines (replies ++ more) new
      by_flag true (_, same) = failed_more start old new lines replies more failed same stopped clean
      by_flag false (inl (_, _, _, same)) = failed_more start old new lines replies more failed same stopped clean
      by_flag false (inr (_, _, inl steps)) = absurd (true_false (sym stopped ∙ steps.going))
      by_flag false (inr (given, spells, inr fail)) = fails given spells fail

  -- through a line
  pub line_failed : (start old new : Standing S) (lines : List (List ℕ)) (files : List FileAnswer) (replies : List Reply) (line : List ℕ) (others : List (List ℕ)) (given : List FileAnswer) (now : List Reply)
      → TakesFront g start lines files replies old (line ∷ others) → TakesLine g old line given now new → HoldsBook g old stored → Failed start lines replies old → Failed start lines (replies ++ now) new
  line_failed start old new lines files replies line others given now front takes held failed = by_flag (is_skipped line) takes
    where
      here : (reply : Reply) → now ≡ reply ∷ [] → FailsLine g stored old line reply new → HasFailed g stored start lines (replies ++ now) new
      here reply is fail = record { files = files; before = replies; last = old; left = line ∷ others; told = reply; later = []; taken = front; fails = fail; among = ap (λ (l : List Reply). replies ++ l) is }

      by_flag : (skipped : Bool) → MatchBool skipped ((given ≡ []) × (now ≡ []) × (new ≡ old)) ((reply : Reply) × (now ≡ reply ∷ []) × AnswersScriptLine g old line given reply new)
          → Failed start lines (replies ++ now) new
      by_flag true (_, _, same) = failed_more start old new lines replies now failed same
      by_flag false (reply, is, inl (load, text, is_load, _, loads, _)) =
          load_failed start old new lines replies now (loader_of load) load.kind load.name text reply loads held failed
          (λ loading spells fail. here reply is (inl (load, text, loading, is_load, spells, fail)))
      by_flag false (reply, is, inr (_, _, inl (_, _, _, same))) = failed_more start old new lines replies now failed same
      by_flag false (reply, is, inr (_, _, inr (read, spells, _, step, _))) =
          step_failed start old new lines replies now (stamp_of read) read.act reply step held failed
          (λ fail. here reply is (inr (read, spells, fail)))

  -- through some of the lines that are left
  lines_failed : (start old new : Standing S) (all : List (List ℕ)) (files : List FileAnswer) (replies : List Reply) (lines left : List (List ℕ)) (more : List FileAnswer) (later : List Reply)
      → TakesFront g start all files replies old (lines ++ left) → TakesLines g old lines more later new → HoldsBook g old stored → Failed start all replies old → Failed start all (replies ++ later) new
  lines_failed start old new all files replies [] left more later front (_, _, same) held failed = failed_more start old new all replies later failed same
  lines_failed start old new all files replies (line ∷ lines) left more later front (now, mid, rest, first, others, takes, goes, are, _) held failed =
      let mid_front = takes_front-step g start all files replies old (line ∷ (lines ++ left)) line (lines ++ left) first now mid front refl takes in
      subst (λ (l : List Reply). Failed start all l new) (append_assoc replies now rest ∙ ap (λ (l : List Reply). replies ++ l) (sym are))
      (lines_failed start mid new all (files ++ first) (replies ++ now) lines left others rest mid_front goes
      (line_held old mid line first now takes held)
      (line_failed start old mid all files replies line (lines ++ left) first now front takes held failed))

  -- the lines that were taken, from a room that goes on
  pub front_failed : (start at : Standing S) (lines : List (List ℕ)) (files : List FileAnswer) (replies : List Reply) (left : List (List ℕ))
      → TakesFront g start lines files replies at left → HoldsBook g start stored → start.stopped ≡ false → Failed start lines replies at
  front_failed start at lines files replies left (front, whole, takes) held going =
      lines_failed start start at lines [] [] front left files replies (takes_front-start g start lines (front ++ left) (sym whole)) takes held (failed_none start start lines [] going)

  -- and the question at the end
  pub question_failed : (start old new : Standing S) (lines : List (List ℕ)) (files : List FileAnswer) (replies : List Reply) (reply : Reply) → TakesFront g start lines files replies old []
      → AsksPlaces g old reply new → HoldsBook g old stored → Failed start lines replies old → Failed start lines (replies ++ reply ∷ []) new
  question_failed start old new lines files replies reply front asks held failed =
      step_failed start old new lines replies (reply ∷ []) nobody (act.Ask query.Places) reply (asks nobody) held failed
      (λ fail. record { files = files; before = replies; last = old; left = []; told = reply; later = []; taken = front; fails = (nobody, fail); among = refl })
