-- A run that stops: which fault comes of what, and what is left.
use Rattle.std.proofs.Common.{◌≡◌, ◌∙◌, ℕ, Bool, false, Option, Some, None, List, [], ◌∷◌, ◌++◌, refl, sym, ap, subst, ◌⊎◌, inl, inr, append-nil}
use Rattle.std.specs.Prelude.{◌≢◌, ◌↔◌, IfErr, IsErrAnd, Result, Ok, Err}
use Rattle.std.specs.Io.KnownBytes.{Appends}
use Rattle.std.proofs.KnownBytes.{Appends-trans, Appends-nil}
use Rattle.sqlite_trees.specs.declared.memory.MemStore.{MemStore}
use Rattle.sqlite_trees.specs.declared.store.Store.{Ghosts}
use Rattle.sqlite.specs.Steps.{over_memory}
use Rattle.tc_types.specs.declared.counted.Counts.{Counts}
use Rattle.tc_types.specs.Counts.{no_counts}
use Rattle.tc_types.specs.declared.acts.Act.TheVariants as act
use Rattle.tc_types.specs.declared.acts.Query.TheVariants as query
use Rattle.tc_types.specs.Loads.{LoadLine}
use Rattle.tc_types.specs.declared.refusals.Refusal.{Refusal}
use Rattle.tc_types.specs.declared.refusals.Refusal.TheVariants as refusal
use Rattle.tc_desk.specs.Promise.{KeepsPromise}
use Rattle.tc_desk.specs.Replies.{Reply}
use Rattle.tc_world.specs.Config.{IsConfig}
use Rattle.tc_world.specs.EitherLink.{either}
use Rattle.tc_world.specs.declared.configs.Config as configs
use Rattle.tc_store.specs.Ledgers.{KeptAnswer}
use Rattle.tc_room.specs.Answers.{AsksPlaces, RefusesWith}
use Rattle.tc_room.specs.Joined.{HoldsBook, Standing, desk_in}
use Rattle.tc_room.specs.Loads.{RoomLoad, loader_of}
use Rattle.tc_room.specs.Replies.{AreLines, ended}
use Rattle.tc_room.specs.Room.{IsJustOpened}
use Rattle.tc_room.specs.Truth.{LeavesLink}
use Rattle.tc_closed.specs.declared.paths.PathFault.TheVariants as path_fault
use Rattle.tc_closed.specs.declared.scripts.ScriptFault.{ScriptFault}
use Rattle.tc_closed.specs.declared.scripts.ScriptFault.TheVariants.{Script, Output, Memory, Tables, Config, Path}
use Rattle.tc_closed.specs.Files.{FileAnswer, Gives, file_at, none_at}
use Rattle.tc_closed.specs.Scripts.{Ends, fault_of, written_counts}
use Rattle.tc_check.specs.Scripts.{IsLoadLine, is_skipped, script_lines}
use Rattle.tc_run.specs.Run.{AnswersScriptLine, Came, RepliesTo, TakesFront, TakesLine, TakesLines, answered, exchange, exchanges}
use Rattle.tc_run.specs.Stops.{AnswersNext, IsCutShort, IsUnopened, IsUntouched, LeavesPart, Stops, StopsAfter, StopsNext, Unanswered, UnansweredNext}
use Rattle.tc_closed.proofs.EndsLemmas.{ends_by}
use Rattle.tc_run.proofs.HoldLemmas.{Failed, front_failed, line_failed, line_held, lines_held, nobody, question_failed, step_held}
use Rattle.tc_run.proofs.RunLemmas.{HasRun}
use Rattle.tc_run.proofs.TakeLemmas.{gives_more, gives_none}

-- ---- a line that loads a file

-- the two faults with which it may end
by_fault : {X : Type 0} (result : Result X ScriptFault) (Why : ScriptFault → Type 0) → IfErr result (λ fault. (fault ≡ Memory) ⊎ (fault ≡ Path))
    → (result ≡ Err Memory → Why Memory) → (result ≡ Err Path → Why Path) → IfErr result Why
by_fault (Ok x) Why is memory path = tt
by_fault (Err fault) Why (inl is) memory path = subst Why (sym is) (memory (ap Err is))
by_fault (Err fault) Why (inr is) memory path = subst Why (sym is) (path (ap Err is))

-- in a room over any store
module _ {S : Type 0} (g : Ghosts S) (echo : Bool) where
  -- the line that loads a file came to none
  pub file_unanswered : {X : Type 0} (old new : Standing S) (line : List ℕ) (load : LoadLine) (gave gives : Option (List FileAnswer)) (result : Result X ScriptFault) → IsLoadLine line load → LeavesLink old new
      → IfErr result (λ fault. (fault ≡ Memory) ⊎ (fault ≡ Path))
      → (result ≡ Err Path → Gives gave gives (none_at load.path path_fault.Unreadable ∷ []) × (new ≡ old))
      → (result ≡ Err Memory → ((reply : Reply) × (text : List ℕ) × RoomLoad g old (loader_of load) load.kind load.name text reply new × Gives gave gives (file_at load.path text ∷ []))
      ⊎ (Gives gave gives (none_at load.path path_fault.Memory ∷ []) × (new ≡ old)))
      → IfErr result (Unanswered g old line gave gives new)
  file_unanswered old new line load gave gives result is link fault path memory =
      by_fault result (Unanswered g old line gave gives new) fault (λ was. of_memory (memory was)) (λ was. of_path (path was))
    where
      of_path : Gives gave gives (none_at load.path path_fault.Unreadable ∷ []) × (new ≡ old) → Unanswered g old line gave gives new Path
      of_path (given, same) = (none_at load.path path_fault.Unreadable ∷ [], ((load, is, refl), same), given)

      of_memory : ((reply : Reply) × (text : List ℕ) × RoomLoad g old (loader_of load) load.kind load.name text reply new × Gives gave gives (file_at load.path text ∷ []))
          ⊎ (Gives gave gives (none_at load.path path_fault.Memory ∷ []) × (new ≡ old)) → Unanswered g old line gave gives new Memory
      of_memory (inl (reply, text, loads, given)) = (file_at load.path text ∷ [], inl (reply, inl (load, text, is, refl, loads, link)), given)
      of_memory (inr (given, same)) = (none_at load.path path_fault.Memory ∷ [], inr ((load, is, refl), same), given)

  -- ---- a line that is not answered

  pub not_script : (fault : ScriptFault) (old new : Standing S) (line : List ℕ) (gave gives : Option (List FileAnswer)) → Unanswered g old line gave gives new fault → fault ≢ Script
  not_script Script old new line gave gives why is = why.1
  not_script Output old new line gave gives why is = why.1
  not_script Memory old new line gave gives why is = cc
  not_script Tables old new line gave gives why is = why.1
  not_script Config old new line gave gives why is = why.1
  not_script Path old new line gave gives why is = cc

  pub not_written : (X : Type 0) (fault : ScriptFault) (old new : Standing S) (line : List ℕ) (gave gives : Option (List FileAnswer)) → Unanswered g old line gave gives new fault → no_counts ≡ written_counts {X = X} (Err fault)
  not_written X Script old new line gave gives why = refl
  not_written X Output old new line gave gives why = absurd why.1
  not_written X Memory old new line gave gives why = refl
  not_written X Tables old new line gave gives why = refl
  not_written X Config old new line gave gives why = refl
  not_written X Path old new line gave gives why = refl

  -- a line has no reply that could be written
  pub stopped_unanswered : (fault : ScriptFault) (old after : Standing S) (line : List ℕ) (gave gives : Option (List FileAnswer)) (w : Option (List ℕ))
      → is_skipped line ≡ false → Unanswered g old line gave gives after fault → StopsNext g echo fault old (line ∷ []) gave gives w w after
  stopped_unanswered Script old after line gave gives w goes_on why = absurd why.1
  stopped_unanswered Output old after line gave gives w goes_on why = absurd why.1
  stopped_unanswered Memory old after line gave gives w goes_on (files, why, given) = (files, [], (refl, (goes_on, why)), given, Appends-nil w)
  stopped_unanswered Tables old after line gave gives w goes_on why = absurd why.1
  stopped_unanswered Config old after line gave gives w goes_on why = absurd why.1
  stopped_unanswered Path old after line gave gives w goes_on (files, why, given) = (files, [], (refl, (goes_on, why)), given, Appends-nil w)

  -- there was no memory for what is written where a line is answered so
  pub stopped_unshown : (old after : Standing S) (line : List ℕ) (gave gives : Option (List FileAnswer)) (text : List ℕ) (why : Option Refusal) (w : Option (List ℕ))
      → is_skipped line ≡ false → RepliesTo g old line gave gives text why after → StopsNext g echo Memory old (line ∷ []) gave gives w w after
  stopped_unshown old after line gave gives text why w goes_on h = (h.files, [], (refl, (goes_on, inl (h.reply, h.answers))), h.given, Appends-nil w)

  -- the reply to a line was cut short
  pub stopped_at_line : (old after : Standing S) (line : List ℕ) (gave gives : Option (List FileAnswer)) (bytes text : List ℕ) (why : Option Refusal) (mid new : Option (List ℕ)) (fault : ScriptFault)
      → is_skipped line ≡ false → RepliesTo g old line gave gives text why after
      → bytes ≡ exchange echo line text → fault ≡ Output → (part : List ℕ) × IsCutShort bytes part × Appends mid new part
      → StopsNext g echo fault old (line ∷ []) gave gives mid new after
  stopped_at_line old after line gave gives bytes text why mid new fault goes_on h are is_output (part, cut, written) =
      (h.files, part, rw is_output (h.reply, (goes_on, h.answers), subst (λ (shown : List ℕ). IsCutShort shown part) (are ∙ ap (exchange echo line) h.text_is) cut), h.given, written)

  -- ---- the question at the end

  -- its reply found no memory
  pub question_unanswered : (old after : Standing S) (reply : Reply) (w : Option (List ℕ)) → AsksPlaces g old reply after
      → (part : List ℕ) × LeavesPart g false Memory old [] [] part after × Appends w w part
  question_unanswered old after reply w asks = ([], (refl, (refl, reply, (refl, asks))), Appends-nil w)

  -- its reply was cut short
  pub stopped_in_question : (end after : Standing S) (bytes text : List ℕ) (why : Option Refusal) (mid new : Option (List ℕ)) (fault : ScriptFault)
      → (reply : Reply) × AsksPlaces g end reply after × ((text ≡ ended reply) × AreLines reply × RefusesWith reply why)
      → bytes ≡ text → fault ≡ Output → (part : List ℕ) × IsCutShort bytes part × Appends mid new part
      → (part : List ℕ) × LeavesPart g false fault end [] [] part after × Appends mid new part
  stopped_in_question end after bytes text why mid new fault (reply, asks, (is_text, lines, refuses)) are is_output (part, cut, written) =
      (part, rw is_output (reply, (refl, asks), subst (λ (given : List ℕ). IsCutShort given part) (are ∙ is_text) cut), written)

  -- ---- the room behind it

  -- either nothing happened, or what comes next was answered
  abbrev Moves : Standing S → List (List ℕ) → List FileAnswer → Standing S → Type 0
  Moves old left files after = (after ≡ old) ⊎ ((reply : Reply) × AnswersNext g old left files reply after)

  unanswered_moves : (fault : ScriptFault) (old after : Standing S) (left : List (List ℕ)) (files : List FileAnswer) → UnansweredNext g fault old left files after → Moves old left files after
  unanswered_moves fault old after [] files (is, reply, asks) = inr (reply, asks)
  unanswered_moves Script old after (line ∷ lines) files (goes_on, why) = absurd why
  unanswered_moves Output old after (line ∷ lines) files (goes_on, why) = absurd why
  unanswered_moves Memory old after (line ∷ lines) files (goes_on, inl (reply, answers)) = inr (reply, (goes_on, answers))
  unanswered_moves Memory old after (line ∷ lines) files (goes_on, inr (misses, same)) = inl same
  unanswered_moves Tables old after (line ∷ lines) files (goes_on, why) = absurd why
  unanswered_moves Config old after (line ∷ lines) files (goes_on, why) = absurd why
  unanswered_moves Path old after (line ∷ lines) files (goes_on, (misses, same)) = inl same

  part_moves : (fault : ScriptFault) (old after : Standing S) (left : List (List ℕ)) (files : List FileAnswer) (part : List ℕ) → LeavesPart g echo fault old left files part after → Moves old left files after
  part_moves Script old after left files part (none, why) = unanswered_moves Script old after left files why
  part_moves Output old after left files part (next, answers, cut) = inr (next, answers)
  part_moves Memory old after left files part (none, why) = unanswered_moves Memory old after left files why
  part_moves Tables old after left files part (none, why) = unanswered_moves Tables old after left files why
  part_moves Config old after left files part (none, why) = unanswered_moves Config old after left files why
  part_moves Path old after left files part (none, why) = unanswered_moves Path old after left files why

  -- a line that was answered was taken
  next_taken : (old after : Standing S) (line : List ℕ) (files : List FileAnswer) (reply : Reply) → is_skipped line ≡ false → AnswersScriptLine g old line files reply after → TakesLine g old line files (reply ∷ []) after
  next_taken old after line files reply goes_on answers = rw goes_on (reply, refl, answers)

  moves_held : (stored : List KeptAnswer) (old after : Standing S) (left : List (List ℕ)) (files : List FileAnswer) → Moves old left files after → HoldsBook g old stored → HoldsBook g after stored
  moves_held stored old after left files (inl same) held = subst (λ (s : Standing S). HoldsBook g s stored) (sym same) held
  moves_held stored old after [] files (inr (reply, (none, asks))) held = step_held g stored old after nobody (act.Ask query.Places) reply (asks nobody) held
  moves_held stored old after (line ∷ lines) files (inr (reply, (goes_on, answers))) held = line_held g stored old after line files (reply ∷ []) (next_taken old after line files reply goes_on answers) held

  moves_failed : (stored : List KeptAnswer) (start old after : Standing S) (lines left : List (List ℕ)) (files more : List FileAnswer) (replies : List Reply) → TakesFront g start lines files replies old left
      → Moves old left more after → HoldsBook g old stored → Failed g stored start lines replies old → (told : List Reply) × Failed g stored start lines (replies ++ told) after
  moves_failed stored start old after lines left files more replies front (inl same) held failed =
      ([], subst (Failed g stored start lines (replies ++ [])) (sym same) (subst (λ (l : List Reply). Failed g stored start lines l old) (sym (append-nil replies)) failed))
  moves_failed stored start old after lines [] files more replies front (inr (reply, (none, asks))) held failed =
      (reply ∷ [], question_failed g stored start old after lines files replies reply front asks held failed)
  moves_failed stored start old after lines (line ∷ others) files more replies front (inr (reply, (goes_on, answers))) held failed =
      (reply ∷ [], line_failed g stored start old after lines files replies line others more (reply ∷ []) front (next_taken old after line more reply goes_on answers) held failed)

  -- ---- all of it

  -- lines that were taken, and what the fault leaves of the next
  stops_after : (fault : ScriptFault) (start reached after : Standing S) (lines left : List (List ℕ)) (files more : List FileAnswer) (replies : List Reply) (part : List ℕ) (gave so_far gives : Option (List FileAnswer)) (old mid new : Option (List ℕ))
      → (taken : TakesFront g start lines files replies reached left) → Gives gave so_far files → Appends old mid (exchanges echo (answered taken.0) replies)
      → LeavesPart g echo fault reached left more part after → Gives so_far gives more → Appends mid new part
      → StopsAfter g echo fault start lines gave gives old new after
  stops_after fault start reached after lines left files more replies part gave so_far gives old mid new taken given written leaves gives_next appends = record {
    files = files;
    replies = replies;
    reached = reached;
    left = left;
    more = more;
    part = part;
    taken = taken;
    leaves = leaves;
    given = gives_more gave so_far gives files more given gives_next;
    written = Appends-trans _ _ _ _ _ written appends;
    held = λ stored held. moves_held stored reached after left more moves (lines_held g stored start reached taken.0 files replies taken.2 held);
    failed = λ stored held going stopped clean.
        let h = moves_failed stored start reached after lines left files more replies taken moves (lines_held g stored start reached taken.0 files replies taken.2 held) (front_failed g stored start reached lines files replies left taken held going) in
        (h.0, h.1 stopped clean);
  }
    where
      moves : Moves reached left more after
      moves = part_moves fault reached after left more part leaves

  -- what a fault leaves of the reply to a line, whatever stands behind that line
  leaves_more : (fault : ScriptFault) (old after : Standing S) (line : List ℕ) (left others : List (List ℕ)) (files : List FileAnswer) (part : List ℕ) → left ≡ line ∷ others
      → LeavesPart g echo fault old (line ∷ []) files part after → LeavesPart g echo fault old left files part after
  leaves_more Script old after line left others files part is leaves = rw is leaves
  leaves_more Output old after line left others files part is leaves = rw is leaves
  leaves_more Memory old after line left others files part is leaves = rw is leaves
  leaves_more Tables old after line left others files part is leaves = rw is leaves
  leaves_more Config old after line left others files part is leaves = rw is leaves
  leaves_more Path old after line left others files part is leaves = rw is leaves

  -- a run that stopped at one of its lines
  pub stopped_in_line : (start at after : Standing S) (lines left : List (List ℕ)) (line : List ℕ) (others : List (List ℕ)) (gave so_far gives : Option (List FileAnswer)) (old mid new : Option (List ℕ)) (before : Bool) (fault : ScriptFault)
      → HasRun g echo start lines gave old at left so_far mid before → left ≡ line ∷ others
      → StopsNext g echo fault at (line ∷ []) so_far gives mid new after → StopsAfter g echo fault start lines gave gives old new after
  stopped_in_line start at after lines left line others gave so_far gives old mid new before fault h is (more, part, leaves, given, appends) =
      stops_after fault start at after lines left h.files more h.replies part gave so_far gives old mid new h.taken h.given h.written
      (leaves_more fault at after line left others more part is leaves) given appends

  -- what a fault leaves of the reply to the question has no line before it
  leaves_question : (fault : ScriptFault) (end after : Standing S) (part : List ℕ) → LeavesPart g false fault end [] [] part after → LeavesPart g echo fault end [] [] part after
  leaves_question Script end after part leaves = leaves
  leaves_question Output end after part leaves = leaves
  leaves_question Memory end after part leaves = leaves
  leaves_question Tables end after part leaves = leaves
  leaves_question Config end after part leaves = leaves
  leaves_question Path end after part leaves = leaves

  -- a run that stopped at the question at the end
  pub lines_stopped : (lines : List (List ℕ)) (start end after : Standing S) (refused : Bool) (gave gives : Option (List FileAnswer)) (old mid new : Option (List ℕ)) (fault : ScriptFault)
      → Came g echo lines (TakesLines g start lines) start gave gives old mid end refused
      → (part : List ℕ) × LeavesPart g false fault end [] [] part after × Appends mid new part
      → StopsAfter g echo fault start lines gave gives old new after
  lines_stopped lines start end after refused gave gives old mid new fault ran (part, leaves, appends) =
      stops_after fault start end after lines [] ran.files [] ran.replies part gave gives gives old mid new (lines, sym (append-nil lines), ran.taken) ran.given ran.written (leaves_question fault end after part leaves) (gives_none gives) appends

-- ---- before the first line

-- nothing was written, and no file was asked for
pub untouched : (p : Option (List FileAnswer)) (w : Option (List ℕ)) → IsUntouched p p w w
untouched p w = (gives_none p, Appends-nil w)

-- the refusal of an opening is such a fault
pub unopened : (config : configs.Config) (why : Refusal) → ((why ≡ refusal.BadDirective) ↔ (¬ IsConfig config)) → (why ≡ refusal.BadDirective) ⊎ (why ≡ refusal.Memory) ⊎ (why ≡ refusal.Store)
    → IsUnopened config (fault_of why)
unopened config why unfit (inl is) = record { unfit = rw is ((λ _. unfit.0 is), (λ _. refl)); kind = rw is (inl refl) }
unopened config why unfit (inr (inl is)) = record { unfit = rw is ((λ e. absurd (memory_config e)), (λ no. absurd (memory_bad (sym is ∙ unfit.1 no)))); kind = rw is (inr (inl refl)) }
  where
    memory_config : Memory ≡ Config → ⊥
    memory_config e = cc

    memory_bad : refusal.Memory ≡ refusal.BadDirective → ⊥
    memory_bad e = cc
unopened config why unfit (inr (inr is)) = record { unfit = rw is ((λ e. absurd (tables_config e)), (λ no. absurd (store_bad (sym is ∙ unfit.1 no)))); kind = rw is (inr (inr refl)) }
  where
    tables_config : Tables ≡ Config → ⊥
    tables_config e = cc

    store_bad : refusal.Store ≡ refusal.BadDirective → ⊥
    store_bad e = cc

-- such a fault does not say that a script was not read
pub unopened_other : (config : configs.Config) (fault : ScriptFault) → IsUnopened config fault → fault ≢ Script
unopened_other config fault h is = elim h.kind [
  | inl e ↦ let no : Script ≡ Config = sym is ∙ e in cc
  | inr (inl e) ↦ let no : Script ≡ Memory = sym is ∙ e in cc
  | inr (inr e) ↦ let no : Script ≡ Tables = sym is ∙ e in cc
]

-- nor that a write failed
pub unopened_unwritten : (X : Type 0) (config : configs.Config) (fault : ScriptFault) → IsUnopened config fault → no_counts ≡ written_counts {X = X} (Err fault)
unopened_unwritten X config fault h = elim h.kind [
  | inl e ↦ rw e refl
  | inr (inl e) ↦ rw e refl
  | inr (inr e) ↦ rw e refl
]

-- a run whose room could not be opened
pub run_unopened : {X : Type 0} (Done : X → Type 0) (echo : Bool) (config : configs.Config) (lines : List (List ℕ)) (p : Option (List FileAnswer)) (w : Option (List ℕ)) (counts : Counts) (why : Refusal) (result : Result X ScriptFault)
    → ((why ≡ refusal.BadDirective) ↔ (¬ IsConfig config)) → (why ≡ refusal.BadDirective) ⊎ (why ≡ refusal.Memory) ⊎ (why ≡ refusal.Store)
    → IsErrAnd result (λ fault. fault ≡ fault_of why) → Ends {X = X} Done (λ fault. Stops echo config fault lines p p w w) counts counts result
run_unopened Done echo config lines p w counts why (Ok x) unfit kind is = absurd is
run_unopened {X = X} Done echo config lines p w counts why (Err fault) unfit kind is =
    let un : IsUnopened config fault = rw is (unopened config why unfit kind) in
    ends_by Done (λ fault. Stops echo config fault lines p p w w) counts counts fault (inl (un, untouched p w)) (unopened_other config fault un) (λ none. none ∙ unopened_unwritten X config fault un)

-- a run that stopped after some of its lines
pub run_stopped : (echo : Bool) (config : configs.Config) (lines : List (List ℕ)) (start after : Standing MemStore) (gave gives : Option (List FileAnswer)) (old new : Option (List ℕ)) (fault : ScriptFault)
    → IsJustOpened over_memory config start → StopsAfter over_memory echo fault start lines gave gives old new after → KeepsPromise either (desk_in after) → Stops echo config fault lines gave gives old new
run_stopped echo config lines start after gave gives old new fault opened stops promise = inr (start, after, opened, stops, promise)

-- ---- faults
