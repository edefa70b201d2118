-- No line of these has an LF in it.
use Rattle.std.proofs.Common.{◌≡◌, ℕ, ◌<◌, ◌^◌, Bool, true, false, if◌then◌else◌, eqb, Option, Some, None, List, [], ◌∷◌, ◌++◌, refl, arith}
use Rattle.std.specs.Prelude.{codes, IfSome, IsTrue, is_some, ◌&&◌, length, nat_le, nat_lt}
use Rattle.std.specs.List.{list_all}
use Rattle.std.specs.Fmt.{decimal}
use Rattle.std.proofs.lemmas.Bool.{and_parts}
use Rattle.std.proofs.lemmas.Grind.{common_steps}
use Rattle.tc_types.specs.declared.history.places.Place.{Place}
use Rattle.tc_types.specs.declared.requests.Identity.{Identity}
use Rattle.tc_types.specs.declared.tables.rows.LoadedProcedure.{LoadedProcedure}
use Rattle.tc_types.specs.declared.tables.rows.ProcedureStep.{ProcedureStep}
use Rattle.tc_types.specs.Grammar.{yes_no}
use Rattle.tc_types.specs.Lines.{place_name, identity_word}
use Rattle.tc_types.specs.Names.{IsName}
use Rattle.tc_types.specs.StepGrammar.{second_word}
use Rattle.tc_types.specs.StepTexts.{is_printable, is_step_text}
use Rattle.tc_types.specs.Words.{is_one_line}
use Rattle.tc_types.proofs.OneLine.{spaced_one, both, number_one, name_one, yes_no_one, place_one, identity_one}
use Rattle.tc_types.proofs.WordLaws.{lacks}
use Rattle.tc_types.specs.declared.waits.Lock.{Lock}
use Rattle.tc_types.specs.declared.waits.Wanting.{Wanting}
use Rattle.tc_types.specs.declared.waits.Waiting.TheVariants.{Request, Stack, Free, Locked, Doubtful, Step}
use Rattle.tc_types.specs.WaitingLines.{given, wanted, wanting_phrase, lock_phrase, waiting_words, waiting_line, waiting_count_line}
use Rattle.tc_types.specs.ListLines.{shown_words, moves_line, standing_line, named_line}
use Rattle.tc_types.specs.StepLines.{procedure_head_line, released_word, step_line}

given_one : (w : Wanting) → lacks 10 (decimal (given w)) ≡ true
given_one w = by_author w.by
  where
    by_author : (by : Option (List ℕ)) → lacks 10 (decimal (if is_some by then 1 else 0)) ≡ true
    by_author None = number_one 0 (omega arith)
    by_author (Some person) = number_one 1 (omega arith)

wanted_one : (w : Wanting) → lacks 10 (decimal (wanted w)) ≡ true
wanted_one w = by_mark w.critical
  where
    by_mark : (critical : Bool) → lacks 10 (decimal (if critical then 2 else 1)) ≡ true
    by_mark true = number_one 2 (omega arith)
    by_mark false = number_one 1 (omega arith)

pub wanting_one : (w : Wanting) → IsName w.author → IsTrue (is_one_line (second_word w.by)) → IsTrue (is_one_line (wanting_phrase w))
unfolding wanting_phrase
wanting_one w author by =
    spaced_one (codes "author" ∷ w.author ∷ codes "critical" ∷ yes_no w.critical ∷ codes "approvals" ∷ decimal (given w) ∷ codes "of" ∷ decimal (wanted w) ∷ codes "by" ∷ second_word w.by ∷ [])
    (rw (name_one w.author author, yes_no_one w.critical, given_one w, wanted_one w, by) refl)

pub lock_one : (lock : Lock) → IsName lock.stack → lock.line < 2 ^ 32 → IsTrue (is_one_line (lock_phrase lock))
unfolding lock_phrase
lock_one lock named less =
    spaced_one (codes "locked" ∷ codes "by" ∷ codes "line" ∷ decimal lock.line ∷ codes "of" ∷ lock.stack ∷ []) (rw (number_one lock.line (omega arith), name_one lock.stack named) refl)

pub request_one : (n : ℕ) (w : Wanting) → n < 2 ^ 32 → IsTrue (is_one_line (wanting_phrase w)) → IsTrue (is_one_line (waiting_line (Request n w)))
request_one n w small wanting = spaced_one (waiting_words (Request n w)) (rw (number_one n (omega arith), wanting) refl)

pub stack_one : (name : List ℕ) (w : Wanting) (rows first : ℕ) → IsName name → IsTrue (is_one_line (wanting_phrase w)) → rows < 2 ^ 32 → first < 2 ^ 32 → IsTrue (is_one_line (waiting_line (Stack name w rows first)))
stack_one name w rows first named wanting few small =
    spaced_one (waiting_words (Stack name w rows first)) (rw (name_one name named, wanting, number_one rows (omega arith), number_one first (omega arith)) refl)

pub free_one : (n : ℕ) → n < 2 ^ 32 → IsTrue (is_one_line (waiting_line (Free n)))
free_one n small = spaced_one (waiting_words (Free n)) (rw (number_one n (omega arith)) refl)

pub locked_one : (n : ℕ) (lock : Lock) → n < 2 ^ 32 → IsTrue (is_one_line (lock_phrase lock)) → IsTrue (is_one_line (waiting_line (Locked n lock)))
locked_one n lock small held = spaced_one (waiting_words (Locked n lock)) (rw (number_one n (omega arith), held) refl)

pub doubtful_one : (n : ℕ) → n < 2 ^ 32 → IsTrue (is_one_line (waiting_line (Doubtful n)))
doubtful_one n small = spaced_one (waiting_words (Doubtful n)) (rw (number_one n (omega arith)) refl)

pub next_one : (execution : ℕ) (procedure : List ℕ) (step : ℕ) (second : Bool) → execution < 2 ^ 32 → IsName procedure → step < 2 ^ 32 → IsTrue (is_one_line (waiting_line (Step execution procedure step second)))
next_one execution procedure step second small named less =
    spaced_one (waiting_words (Step execution procedure step second)) (rw (number_one execution (omega arith), name_one procedure named, number_one step (omega arith), yes_no_one second) refl)

pub count_one : (count : ℕ) → count < 2 ^ 64 → IsTrue (is_one_line (waiting_count_line count))
count_one count small = spaced_one (codes "waiting" ∷ decimal count ∷ []) (rw (number_one count small) refl)

-- ` more`, or nothing
end_one : (more : Bool) → lacks 10 (if more then codes " more" else []) ≡ true
end_one true = refl
end_one false = refl

pub moves_one : (shown : ℕ) (more : Bool) → shown < 2 ^ 32 → IsTrue (is_one_line (moves_line shown more))
moves_one shown more small =
    both (codes "moves " ++ decimal shown) (if more then codes " more" else []) (both (codes "moves ") (decimal shown) refl (number_one shown (omega arith))) (end_one more)

pub standing_one : (place : Place) (shown : ℕ) (more : Bool) → shown < 2 ^ 32 → IsTrue (is_one_line (standing_line place shown more))
standing_one place shown more small =
    let counted : lacks 10 (shown_words shown more) ≡ true = both (decimal shown) (if more then codes " more" else []) (number_one shown (omega arith)) (end_one more) in
    let placed : lacks 10 (codes "standing " ++ place_name place) ≡ true = both (codes "standing ") (place_name place) refl (place_one place) in
    both (codes "standing " ++ place_name place ++ codes ": ") (shown_words shown more) (both (codes "standing " ++ place_name place) (codes ": ") placed refl) counted

pub named_one : (n : ℕ) (identity : Identity) → n < 2 ^ 32 → identity.apid < 2048 → identity.count < 16384 → IsTrue (is_one_line (named_line n identity))
named_one n identity small apid count = spaced_one (codes "request" ∷ decimal n ∷ identity_word identity ∷ []) (rw (number_one n (omega arith), identity_one identity apid count) refl)

pub procedure_one : (loaded : LoadedProcedure) (steps : ℕ) → IsName loaded.name → IsName loaded.author → steps < 2 ^ 64 → IsTrue (is_one_line (procedure_head_line loaded steps))
procedure_one loaded steps named author small =
    spaced_one (codes "procedure" ∷ loaded.name ∷ codes "author" ∷ loaded.author ∷ codes "steps" ∷ decimal steps ∷ [])
    (rw (name_one loaded.name named, name_one loaded.author author, number_one steps small) refl)

-- what is printable is no LF
printable_one : (byte : ℕ) → is_printable byte ≡ true → eqb byte 10 ≡ false
printable_one byte h = grind (arith, common_steps)

text_one : (text : List ℕ) → list_all is_printable text ≡ true → lacks 10 text ≡ true
text_one [] h = refl
text_one (byte ∷ others) h =
    let parts = and_parts (is_printable byte) (list_all is_printable others) h in
    rw (printable_one byte parts.0, text_one others parts.1) refl

pub released_one : (request : Option ℕ) → IfSome request (λ n. n < 2 ^ 32) → IsTrue (is_one_line (released_word request))
released_one None h = refl
released_one (Some n) h = number_one n (omega (arith, h))

pub step_one : (s : ProcedureStep) → s.step < 2 ^ 32 → IsTrue (is_one_line (released_word s.request)) → is_step_text s.text ≡ true → IsTrue (is_one_line (step_line s))
step_one s small released text =
    let short = and_parts (nat_lt 0 (length s.text) && nat_le (length s.text) 80) (list_all is_printable s.text) text in
    spaced_one (codes "step" ∷ decimal s.step ∷ codes "second" ∷ yes_no s.is_countersigned ∷ codes "request" ∷ released_word s.request ∷ s.text ∷ [])
    (rw (number_one s.step (omega arith), yes_no_one s.is_countersigned, released, text_one s.text short.1) refl)
