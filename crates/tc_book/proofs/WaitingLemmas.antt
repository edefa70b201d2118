-- What waits, one after the other; and what is told of interlocks is so.
use Rattle.std.proofs.Common.{◌≡◌, ℕ, suc, ◌+◌, ◌-◌, ◌<◌, ◌==◌, Bool, true, false, ◌||◌, if◌then◌else◌, is_some, is_none, min, Option, Some, None, List, [], ◌∷◌, ◌++◌, length, take, drop, get_or, inl, inr, refl, sym, ◌∙◌, ap, subst, arith}
use Rattle.std.specs.Prelude.{IfSome, IsSomeAnd, nat_lt}
use Rattle.std.specs.List.{AllByRecursion, cons_option, filter_map, list_any, slice_get}
use Rattle.std.specs.Option.{option_and_then, option_map, option_map_or, option_or}
use Rattle.std.proofs.lemmas.Bool.Decides.{nat_tests}
use Rattle.std.proofs.Common.{take-append-drop}
use Rattle.std.proofs.lemmas.Bool.{cases_lt}
use Rattle.std.proofs.lemmas.List.{append_assoc, drop_all, drop_more, take_more}
use Rattle.std.proofs.lemmas.List.Elements.{filter_map-append}
use Rattle.std.proofs.lemmas.Option.{slice_get_cases}
use Rattle.tc_types.specs.declared.history.places.Place.{Place}
use Rattle.tc_types.specs.declared.history.places.Place.TheVariants.{Entered, Approved, Doubtful}
use Rattle.tc_types.specs.declared.requests.Request.{Request}
use Rattle.tc_types.specs.declared.requests.Origin.{Origin}
use Rattle.tc_types.specs.declared.tables.rows.BegunExecution.{BegunExecution}
use Rattle.tc_types.specs.History.{AllAfter}
use Rattle.tc_types.specs.Lawful.{is_among}
use Rattle.tc_types.specs.Schedule.{inserted}
use Rattle.tc_stack.specs.Approvals.{ApprovalState}
use Rattle.tc_stack.specs.Stacks.{is_completed}
use Rattle.tc_proc.specs.Executions.{next_step, is_next_countersigned}
use Rattle.tc_proc.specs.Logs.{LogState, state_of}
use Rattle.tc_types.specs.declared.waits.Lock.{Lock}
use Rattle.tc_types.specs.declared.waits.Waiting.{Waiting}
use Rattle.tc_types.specs.declared.waits.Waiting.TheVariants as waiting
use Rattle.tc_book.specs.Book.{Book, approval_of, place_in, request_in, request_at, stands}
use Rattle.tc_book.specs.Good.{IsGoodBook, IsGoodRequest}
use Rattle.tc_book.specs.Stacks.{is_held_back, is_interlocked, stack_approval_at, waits_for}
use Rattle.tc_book.specs.Waiting.{begun_waits, entered_rows, execution_waits, first_lock, first_lock_of, is_locked, lock_in, lock_of, released_when, request_waits, stack_waiting, IsApprovedAnd, TellsLocks, waiting_of, waits_at, wanting_of}
use Rattle.tc_book.proofs.RequestLemmas.{request_in-front, request_in-next}

-- ---- one number more

numbered : {X : Type 0} → List X → ℕ → Option X
numbered xs n = if n == 0 then None else slice_get xs (n - 1)

numbered_next : {X : Type 0} (xs : List X) (i : ℕ) → numbered xs (i + 1) ≡ slice_get xs i
unfolding numbered
numbered_next xs i =
    let some : (i + 1 == 0) ≡ false = grind (arith, nat_tests) in
    let place : i + 1 - 1 ≡ i = omega arith in
    rw (some, place) refl

-- what the item with the next number gives goes behind what those before it gave
pub given_more : {X Y : Type 0} (h : X → Option Y) (xs : List X) (i : ℕ) (old now new : List Y) → i < length xs
    → now ≡ old ++ filter_map h (take i xs) → new ≡ now ++ cons_option (option_and_then h (if i + 1 == 0 then None else slice_get xs (i + 1 - 1))) [] → new ≡ old ++ filter_map h (take (i + 1) xs)
unfolding numbered
given_more {X} {Y} h xs i old now new low before after =
    elim (slice_get_cases xs i).1 [
      | inl (x, _, is, same) ↦
          after
          ∙ ap (λ (o : Option X). now ++ cons_option (option_and_then h o) []) (numbered_next xs i ∙ is)
          ∙ ap (λ l. l ++ cons_option (h x) []) before
          ∙ append_assoc old (filter_map h (take i xs)) (cons_option (h x) [])
          ∙ ap (λ l. old ++ l)
          (sym (filter_map-append h (take i xs) (x ∷ []))
          ∙ ap (λ y. filter_map h (take i xs ++ y ∷ [])) (sym same)
          ∙ ap (filter_map h) (sym (take_more xs i x low)))
      | inr (past, _) ↦ absurd (omega (arith, past, low))
    ]

-- ---- interlocks

-- what holds a request back is told exactly where it is held back
lock_tells : (book : Book) (n : ℕ) → is_some (lock_of book n) ≡ is_interlocked book n
lock_tells book n = by_found (request_at book n)
  where
    by_test : (lock : Lock) (t : Bool) → is_some (if t then Some lock else None) ≡ t
    by_test lock true = refl
    by_test lock false = refl

    by_after : (o : Origin) (after : Option ℕ) → is_some (if waits_for book n o after then option_map (λ line. (let lock : Lock = record { stack = o.stack; line = line } in lock)) after else None) ≡ waits_for book n o after
    by_after o None = refl
    by_after o (Some line) = by_test (record { stack = o.stack; line = line }) (waits_for book n o (Some line))

    by_origin : (origin : Option Origin) → is_some (if is_held_back book n origin then option_and_then lock_in origin else None) ≡ is_held_back book n origin
    by_origin None = refl
    by_origin (Some o) = by_after o o.after

    by_found : (found : Option Request)
        → is_some (if option_map_or (λ (r : Request). is_held_back book n r.origin) found false then option_and_then (λ (r : Request). option_and_then lock_in r.origin) found else None)
        ≡ option_map_or (λ (r : Request). is_held_back book n r.origin) found false
    by_found None = refl
    by_found (Some r) = by_origin r.origin

first_tells : (book : Book) (numbers : List ℕ) → is_some (first_lock_of book numbers) ≡ list_any (is_interlocked book) numbers
first_tells book [] = refl
first_tells book (n ∷ numbers) = by_lock (lock_of book n) (lock_tells book n) (first_tells book numbers)
  where
    by_lock : (lock : Option Lock) → is_some lock ≡ is_interlocked book n → is_some (first_lock_of book numbers) ≡ list_any (is_interlocked book) numbers
        → is_some (slice_get (cons_option lock (filter_map (lock_of book) numbers)) 0) ≡ (is_interlocked book n || list_any (is_interlocked book) numbers)
    by_lock None here rest = rw (← here) rest
    by_lock (Some lock) here rest = rw (← here) refl

-- one that is found, or none, as a loop comes to it
pub locks_none : (book : Book) (numbers : List ℕ) (i d : ℕ) → i < length numbers → filter_map (lock_of book) (take i numbers) ≡ [] → lock_of book (get_or numbers i d) ≡ None → filter_map (lock_of book) (take (i + 1) numbers) ≡ []
locks_none book numbers i d low before none =
    ap (filter_map (lock_of book)) (take_more numbers i d low)
    ∙ filter_map-append (lock_of book) (take i numbers) (get_or numbers i d ∷ [])
    ∙ ap (λ l. l ++ cons_option (lock_of book (get_or numbers i d)) []) before
    ∙ ap (λ lock. cons_option lock []) none

pub locks_found : (book : Book) (numbers : List ℕ) (i d : ℕ) (lock : Lock) → i < length numbers → filter_map (lock_of book) (take i numbers) ≡ [] → lock_of book (get_or numbers i d) ≡ Some lock → Some lock ≡ first_lock_of book numbers
locks_found book numbers i d lock low before found =
    let n = get_or numbers i d in
    let parts : numbers ≡ take i numbers ++ n ∷ drop (i + 1) numbers = sym (take-append-drop i numbers) ∙ ap (λ l. take i numbers ++ l) (drop_more numbers i d low) in
    let given : filter_map (lock_of book) numbers ≡ lock ∷ filter_map (lock_of book) (drop (i + 1) numbers) =
    ap (filter_map (lock_of book)) parts
    ∙ filter_map-append (lock_of book) (take i numbers) (n ∷ drop (i + 1) numbers)
    ∙ ap (λ l. l ++ cons_option (lock_of book n) (filter_map (lock_of book) (drop (i + 1) numbers))) before
    ∙ ap (λ o. cons_option o (filter_map (lock_of book) (drop (i + 1) numbers))) found in
    sym (ap (λ l. slice_get l 0) given)

-- ---- the requests behind a number

-- past the last there is none
pub behind_all : {X : Type 0} (xs : List X) (n : ℕ) → drop (min (length xs) n) xs ≡ drop n xs
behind_all xs n =
    elim (cases_lt (length xs) n) [
      | inl past ↦
          let all : min (length xs) n ≡ length xs = omega (arith, past) in
          ap (λ m. drop m xs) all ∙ drop_all (length xs) xs (omega arith) ∙ sym (drop_all n xs (omega (arith, past)))
      | inr low ↦ let some : min (length xs) n ≡ n = omega (arith, low) in ap (λ m. drop m xs) some
    ]

-- ---- what is told

each_there : (before xs : List Request) → AllAfter IsGoodRequest before xs → AllByRecursion (λ (r : Request). request_in (before ++ xs) r.number ≡ Some r) xs
each_there before [] all = tt
each_there before (x ∷ xs) all = (
  subst (λ l. request_in l x.number ≡ Some x) (append_assoc before (x ∷ []) xs)
      (request_in-front (before ++ x ∷ []) xs x x.number (ap (request_in (before ++ x ∷ [])) all.0.number ∙ request_in-next before x)),
  subst (λ l. AllByRecursion (λ (r : Request). request_in l r.number ≡ Some r) xs) (append_assoc before (x ∷ []) xs) (each_there (before ++ x ∷ []) xs all.1),
)

all_given : {X Y : Type 0} (h : X → Option Y) (Is : X → Type 0) (Told : Y → Type 0) (xs : List X) → AllByRecursion Is xs → ((x : X) → Is x → IfSome (h x) Told) → AllByRecursion Told (filter_map h xs)
all_given h Is Told [] all told = tt
all_given h Is Told (x ∷ xs) all told = by_given (h x) (told x all.0) (all_given h Is Told xs all.1 told)
  where
    by_given : (given : Option _) → IfSome given Told → AllByRecursion Told (filter_map h xs) → AllByRecursion Told (cons_option given (filter_map h xs))
    by_given None first rest = rest
    by_given (Some y) first rest = (first, rest)

all_joined : {X : Type 0} (P : X → Type 0) (xs ys : List X) → AllByRecursion P xs → AllByRecursion P ys → AllByRecursion P (xs ++ ys)
all_joined P [] ys first second = second
all_joined P (x ∷ xs) ys first second = (first.0, all_joined P xs ys first.1 second)

any_so : {X : Type 0} (xs : List X) → AllByRecursion (λ x. Unit {0}) xs
any_so [] = tt
any_so (x ∷ xs) = (tt, any_so xs)

-- of a stack nothing is told of interlocks
begun_told : (book : Book) (n : ℕ) (origin : Option Origin) → IfSome (option_and_then (begun_waits book n) origin) (TellsLocks book)
begun_told book n None = tt
begun_told book n (Some o) = by_line (o.line == 1)
  where
    by_rows : (t : Bool) (s : ApprovalState) → IfSome (if t then Some (waiting.Stack o.stack (wanting_of s) (entered_rows book o.stack) n) else None) (TellsLocks book)
    by_rows true s = tt
    by_rows false s = tt

    by_state : (state : Option ApprovalState) → IfSome (option_and_then (stack_waiting n o.stack (entered_rows book o.stack)) state) (TellsLocks book)
    by_state None = tt
    by_state (Some s) = by_rows (nat_lt 0 (entered_rows book o.stack)) s

    by_line : (t : Bool) → IfSome (if t then option_and_then (stack_waiting n o.stack (entered_rows book o.stack)) (stack_approval_at book o.stack) else None) (TellsLocks book)
    by_line true = by_state (stack_approval_at book o.stack)
    by_line false = tt

-- of a request that stands somewhere
place_told : (book : Book) (r : Request) (at : Option Place) → request_at book r.number ≡ Some r → place_in book r.number ≡ at → IfSome (waits_at book r at) (TellsLocks book)
place_told book r (Some Entered) there at = by_origin (is_none r.origin)
  where
    by_origin : (t : Bool) → IfSome (if t then Some (waiting.Request r.number (wanting_of (approval_of book.approvals r))) else None) (TellsLocks book)
    by_origin true = tt
    by_origin false = tt
place_told book r (Some Approved) there at = by_lock (first_lock book r) (first_tells book (r.number ∷ inserted r.body.command))
  where
    stood : is_among (Approved ∷ []) (place_in book r.number) ≡ true
    stood = ap (is_among (Approved ∷ [])) at

    there_and : (locked : Bool) → is_locked book r ≡ locked → IsApprovedAnd book r.number locked
    there_and locked is = subst (λ f. IsSomeAnd f (λ (x : Request). (stands book r.number (Approved ∷ []) ≡ true) × (is_locked book x ≡ locked))) (sym there) (stood, is)

    by_lock : (lock : Option Lock) → is_some lock ≡ is_locked book r → TellsLocks book (released_when r.number lock)
    by_lock None tells = there_and false (sym tells)
    by_lock (Some lock) tells = there_and true (sym tells)
place_told book r (Some Doubtful) there at = tt
place_told book r other there at = tt

request_told : (book : Book) (r : Request) → request_at book r.number ≡ Some r → IfSome (request_waits book r) (TellsLocks book)
request_told book r there = by_begun (option_and_then (begun_waits book r.number) r.origin) (begun_told book r.number r.origin)
  where
    by_begun : (begun : Option Waiting) → IfSome begun (TellsLocks book) → IfSome (option_or begun (waits_at book r (place_in book r.number))) (TellsLocks book)
    by_begun None told = place_told book r (place_in book r.number) there refl
    by_begun (Some w) told = told

execution_told : (book : Book) (log : LogState) (x : BegunExecution) → IfSome (execution_waits log x) (TellsLocks book)
execution_told book log x = by_step (next_step (state_of log x))
  where
    by_step : (step : Option ℕ) → IfSome (option_map (λ n. waiting.Step x.execution x.procedure n (is_next_countersigned (state_of log x))) step) (TellsLocks book)
    by_step None = tt
    by_step (Some n) = tt

pub locks_told : (book : Book) → IsGoodBook book → AllByRecursion (TellsLocks book) (waiting_of book)
locks_told book good =
    all_joined (TellsLocks book) _ _
    (all_given (request_waits book) (λ (r : Request). request_at book r.number ≡ Some r) (TellsLocks book) book.requests (each_there [] book.requests good.requests) (request_told book))
    (all_given (execution_waits book.log) (λ x. Unit {0}) (TellsLocks book) book.log.executions (any_so book.log.executions) (λ x any. execution_told book book.log x))
