-- What the text shows that reads the reply to one call.
use Rattle.std.proofs.Common.{◌≡◌, ℕ, pos, ◌==◌, ◌&&◌, Bool, List, [], ◌∷◌, map, filter, find, get_or, true, false, cond, Option, None, Some, IfSome, option_map, slice_get, Result, Ok, Err, is_eq, refl, sym, ap, ap₂, subst, ◌∙◌}
use Rattle.std.specs.List.{AllByRecursion}
use Rattle.std.specs.Str.{bytes_eq}
use Rattle.tc_store.specs.declared.faults.ReadFault.{ReadFault}
use Rattle.tc_store.specs.ReadsBack.{is_of_row, OnlyMemory, ReadsBack}
use Rattle.tc_store.specs.Ledgers.{IsKeptAnswer}
use Rattle.std.specs.Cmp.Lexicographic.{texts_ties}
use Rattle.sqlite_value.specs.declared.value.Value.TheVariants.{Null, Int, Text}
use Rattle.sqlite_value.specs.declared.keys.Collation.TheVariants.{Binary}
use Rattle.sqlite_value.specs.Order.{Row, column}
use Rattle.sqlite_value.proofs.OrderLemmas.{value_cmp-Text}
use Rattle.sqlite_trees.specs.Tree.{IsTable}
use Rattle.sqlite_sql.specs.declared.ops.BinaryOp.TheVariants.{Compare}
use Rattle.sqlite_sql.specs.declared.ops.CompareOp.TheVariants.{Eq}
use Rattle.sqlite_sql.specs.Ops.{binary, is_true, from_truth}
use Rattle.sqlite_tied.specs.Compute.{everything}
use Rattle.sqlite.specs.Listing.{understood, listing_schema}
use Rattle.sqlite.specs.State.{State, Shown}
use Rattle.tc_store.specs.Ledgers.{newest}
use Rattle.tc_store.specs.declared.versions.Layout.TheVariants.{Made, Copied}
use Rattle.tc_store.specs.declared.versions.Layout.{Layout}
use Rattle.tc_store.specs.Ledgers.{KeptAnswer, Ledger, reply_at}
use Rattle.tc_store.specs.declared.versions.Version.{Version}
use Rattle.tc_store.specs.declared.versions.Version.TheVariants.{First, Second, Third}
use Rattle.tc_sql.specs.Lists.{ListsFrom, passes, no_limit}
use Rattle.tc_sql.proofs.Appends.{shown_numbered}
use Rattle.tc_sql.proofs.Changes.{matches_at}
use Rattle.tc_sql.proofs.Selects.{equal_numbers, listed}
use Rattle.tc_store.specs.Replies.{reply_tree, reply_values, find_text, find_tests, find_columns, body_values}
use Rattle.tc_store.specs.Schema.{schema_of, contents, Holds, layout_in}
use Rattle.tc_store.specs.Reads.{IsQuiet}
use Rattle.tc_store.specs.Shows.{shown_of}
use Rattle.tc_store.proofs.ReplyLemmas.{reply_rows}

pub find_is : (layout : Layout) → ListsFrom (schema_of layout newest) (reply_tree layout) find_text find_tests find_columns no_limit
unfolding understood everything
find_is Made = record { names = _; command = refl; plain = (refl, refl); unlisted = refl }
find_is (Copied First) = record { names = _; command = refl; plain = (refl, refl); unlisted = refl }
find_is (Copied Second) = record { names = _; command = refl; plain = (refl, refl); unlisted = refl }
find_is (Copied Third) = record { names = _; command = refl; plain = (refl, refl); unlisted = refl }

-- a version without the table does not understand it
pub find_quiet : (layout : Layout) (version : Version) → IsQuiet (understood (schema_of layout version) find_text)
unfolding understood listing_schema everything
find_quiet Made First = tt
find_quiet Made Second = (refl, refl)
find_quiet Made Third = (refl, refl)
find_quiet (Copied First) First = tt
find_quiet (Copied First) Second = (refl, refl)
find_quiet (Copied First) Third = (refl, refl)
find_quiet (Copied Second) First = tt
find_quiet (Copied Second) Second = (refl, refl)
find_quiet (Copied Second) Third = (refl, refl)
find_quiet (Copied Third) First = tt
find_quiet (Copied Third) Second = (refl, refl)
find_quiet (Copied Third) Third = (refl, refl)

truth_of : (b : Bool) → is_true (from_truth (Some b)) ≡ b
truth_of true = refl
truth_of false = refl

-- column = ?
equal_texts : (s t : List ℕ) → is_true (binary (Compare Eq Binary) (Text s) (Text t)) ≡ bytes_eq s t
unfolding binary
equal_texts s t = truth_of _ ∙ ap is_eq (value_cmp-Text s t) ∙ sym (texts_ties s t)

both_true : (a b : Bool) → (a && (b && true)) ≡ (a && b)
both_true true true = refl
both_true true false = refl
both_true false b = refl

-- of this call
abbrev is_of : List ℕ → ℕ → KeptAnswer → Bool
is_of person number k = bytes_eq k.person person && (k.number == number)

rows_found : (person : List ℕ) (number : ℕ) (ledger : Ledger) (old new : State) (rows : List Row) → Holds old.now ledger → Shown find_text (Text person ∷ Int (pos number) ∷ []) old new rows
    → rows ≡ map body_values (filter (is_of person number) ledger.replies)
rows_found person number ledger old new rows held h =
    let params = Text person ∷ Int (pos number) ∷ [] in
    let tree = reply_tree (layout_in old.now) in
    let there = reply_rows Third ledger tt (layout_in old.now) in
    let at = matches_at old.now.trees tree (contents (layout_in old.now) ledger) held.rows there.0 in
    listed tree find_tests find_columns no_limit params (schema_of (layout_in old.now) newest) find_text old new held.schema (find_is (layout_in old.now)) rows (subst IsTable (sym at.0) at.1) h
    ∙ ap (λ all. map (shown_of find_columns) (filter (passes find_tests params) all)) (at.0 ∙ there.1)
    ∙ shown_numbered reply_values body_values (passes find_tests params) (is_of person number) (shown_of find_columns)
    (λ n k. ap₂ (λ a b. a && (b && true)) (equal_texts k.person person) (equal_numbers k.number number) ∙ both_true (bytes_eq k.person person) (k.number == number)) (λ n k. refl) 1 ledger.replies

-- the first of those that are found
first_found : {X : Type 0} (p : X → Bool) (xs : List X) → find p xs ≡ None → filter p xs ≡ []
first_found p [] none = refl
first_found {X} p (x ∷ xs) none = go (p x) none (first_found p xs)
  where
    go : (b : Bool) → cond b (Some x) (find p xs) ≡ None → (find p xs ≡ None → filter p xs ≡ []) → cond b (x ∷ filter p xs) (filter p xs) ≡ []
    go true none more = absurd (let e = none in cc)
    go false none more = more none

head_found : {X : Type 0} (p : X → Bool) (xs : List X) (x : X) → find p xs ≡ Some x → (more : List X) × (filter p xs ≡ x ∷ more)
head_found p [] x found = absurd (let e = found in cc)
head_found {X} p (y ∷ xs) x found = go (p y) found (head_found p xs x)
  where
    go : (b : Bool) → cond b (Some y) (find p xs) ≡ Some x → (find p xs ≡ Some x → (more : List X) × (filter p xs ≡ x ∷ more)) → (more : List X) × (cond b (y ∷ filter p xs) (filter p xs) ≡ x ∷ more)
    go true found more = let same : y ≡ x = cc in (filter p xs, ap (λ z. z ∷ filter p xs) same)
    go false found more = more found

-- what is read of the first row is the reply
first_read : {T : Type 0} (bytes : T → List ℕ) (p : KeptAnswer → Bool) (replies : List KeptAnswer) (rows : List Row) (read : Option T) (found : Option KeptAnswer) → rows ≡ map body_values (filter p replies)
    → find p replies ≡ found → (read ≡ None → rows ≡ []) → IfSome read (λ text. column (get_or rows 0 []) 0 ≡ Text (bytes text)) → option_map bytes read ≡ option_map (λ (k : KeptAnswer). k.body) found
first_read bytes p replies rows None None are is none some = refl
first_read bytes p replies rows None (Some k) are is none some =
    let head = head_found p replies k is in
    let e : [] ≡ map body_values (k ∷ head.0) = sym (none refl) ∙ are ∙ ap (map body_values) head.1 in
    absurd (cc)
first_read bytes p replies rows (Some text) None are is none some =
    let e : rows ≡ [] = are ∙ ap (map body_values) (first_found p replies is) in
    let f : Null ≡ Text (bytes text) = sym (ap (λ (l : List Row). column (get_or l 0 []) 0) e) ∙ some in
    absurd (cc)
first_read bytes p replies rows (Some text) (Some k) are is none some =
    let head = head_found p replies k is in
    let e : rows ≡ map body_values (k ∷ head.0) = are ∙ ap (map body_values) head.1 in
    let f : Text (bytes text) ≡ Text k.body = sym some ∙ ap (λ (l : List Row). column (get_or l 0 []) 0) e in
    let g : bytes text ≡ k.body = cc in
    ap Some g

pub reply_found : {T : Type 0} (bytes : T → List ℕ) (person : List ℕ) (number : ℕ) (ledger : Ledger) (old new : State) (rows seen : List Row) (read : Option T) → seen ≡ rows
    → Shown find_text (Text person ∷ Int (pos number) ∷ []) old new rows → (read ≡ None → seen ≡ []) → IfSome read (λ text. column (get_or seen 0 []) 0 ≡ Text (bytes text)) → Holds old.now ledger
    → option_map bytes read ≡ reply_at ledger.replies person number
reply_found bytes person number ledger old new rows seen read same h none some held =
    first_read bytes (is_of person number) ledger.replies seen read (find (is_of person number) ledger.replies) (same ∙ rows_found person number ledger old new rows held h) refl none some

-- ---- why it is not read

all_filtered : (p : KeptAnswer → Bool) (xs : List KeptAnswer) → AllByRecursion IsKeptAnswer xs → AllByRecursion IsKeptAnswer (filter p xs)
all_filtered p [] all = tt
all_filtered p (x ∷ xs) all = go (p x) (all_filtered p xs all.1)
  where
    go : (b : Bool) → AllByRecursion IsKeptAnswer (filter p xs) → AllByRecursion IsKeptAnswer (cond b (x ∷ filter p xs) (filter p xs))
    go true more = (all.0, more)
    go false more = more

-- want of memory is no fault of a row
pub memory_back : {T : Type 0} (r : Result T ReadFault) → OnlyMemory r → ReadsBack r
memory_back (Ok x) only = tt
memory_back (Err e) only = ap is_of_row only

-- what is found among replies that a desk could have kept is read
pub found_back : {T : Type 0} (person : List ℕ) (number : ℕ) (ledger : Ledger) (old new : State) (rows seen : List Row) (read : Result T ReadFault) → seen ≡ rows → Shown find_text (Text person ∷ Int (pos number) ∷ []) old new rows
    → ((kept : List KeptAnswer) → AllByRecursion IsKeptAnswer kept → seen ≡ map body_values kept → OnlyMemory read) → Holds old.now ledger → AllByRecursion IsKeptAnswer ledger.replies → ReadsBack read
found_back person number ledger old new rows seen read same h back held all =
    memory_back read (back (filter (is_of person number) ledger.replies) (all_filtered (is_of person number) ledger.replies all) (same ∙ rows_found person number ledger old new rows held h))

-- the first row that is found shows the text of a reply that a desk could have kept
pub first_kept : (rows : List Row) (kept : List KeptAnswer) (row : Row) → AllByRecursion IsKeptAnswer kept → rows ≡ map body_values kept → slice_get rows 0 ≡ Some row → (k : KeptAnswer) × IsKeptAnswer k × (column row 0 ≡ Text k.body)
first_kept rows [] row all are first = absurd (let e = sym (ap (λ l. slice_get l 0) are) ∙ first in cc)
first_kept rows (k ∷ kept) row all are first =
    let e : Some (body_values k) ≡ Some row = sym (ap (λ l. slice_get l 0) are) ∙ first in
    let same : body_values k ≡ row = cc in
    (k, all.0, sym (ap (λ (l : Row). column l 0) same))
