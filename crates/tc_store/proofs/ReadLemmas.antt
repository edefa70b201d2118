-- What a text that only reads leaves, and how a table lies before it.
use Rattle.std.proofs.Common.{◌≡◌, inl, inr, ℕ, List, Option, map, true, false, refl, sym, ap, subst, ◌∙◌, Result, Ok, Err, IfOk, IfErr, OnOk, IsTrue}
use Rattle.sqlite_value.specs.Order.{Row}
use Rattle.sqlite_trees.specs.Tree.{IsTable}
use Rattle.sqlite.specs.Given.{IsPlain}
use Rattle.sqlite.specs.Listing.{understood}
use Rattle.sqlite_trees.specs.Tree.{Trees}
use Rattle.sqlite_schema.specs.declared.schema.Schema.{Schema}
use Rattle.sqlite_resolve.specs.declared.compiled.Compiled.{Compiled}
use Rattle.sqlite_resolve.specs.declared.error.CompileError.{CompileError}
use Rattle.sqlite_trees.specs.declared.error.StoreError.{StoreError}
use Rattle.sqlite_trees.specs.declared.error.StoreError.TheVariants.{OutOfMemory, Io, Corrupt, Full, Broken, Unstorable}
use Rattle.sqlite_schema.specs.declared.command.Command.{Command}
use Rattle.sqlite_schema.specs.declared.command.Command.TheVariants.{Select, Rows}
use Rattle.sqlite.specs.Effect.{Database, RefusesToRead}
use Rattle.tc_store.specs.declared.faults.ReadFault.TheVariants.{Sqlite}
use Rattle.tc_store.specs.ReadsBack.{is_of_row, ReadsBack}
use Rattle.sqlite.specs.State.{State, store_error, Shown, FailsToQuery, IsNotRun, CommitsShowing}
use Rattle.sqlite.proofs.Callers.{never_commits}
use Rattle.sqlite.specs.declared.error.Error.{Error}
use Rattle.tc_store.specs.declared.versions.Layout.{Layout}
use Rattle.tc_store.specs.declared.versions.Version.{Version}
use Rattle.tc_store.specs.Ledgers.{Ledger}
use Rattle.tc_sql.specs.Contents.{has_tree, rows_in}
use Rattle.tc_sql.proofs.Changes.{matches_at}
use Rattle.tc_sql.proofs.Selects.{unchanged, fails_unchanged}
use Rattle.tc_store.specs.Schema.{schema_of, contents_of, HoldsAs, layout_in}
use Rattle.tc_store.specs.Reads.{IsQuiet}

-- a table has the rows of the ledger, and their rowids rise
pub rising : {X : Type 0} (tree : ℕ) (row : X → Row) (xs : List X) (version : Version) (ledger : Ledger) (s : State) → (held : HoldsAs version s.now ledger) → has_tree tree (contents_of (layout_in s.now) version ledger.image ledger.replies) ≡ true → rows_in tree (contents_of (layout_in s.now) version ledger.image ledger.replies) ≡ map row xs
    → (s.now.trees tree ≡ map row xs) × IsTable (s.now.trees tree)
rising tree row xs version ledger s held named is =
    let at = matches_at s.now.trees tree (contents_of (layout_in s.now) version ledger.image ledger.replies) held.rows named in
    (at.0 ∙ is, subst IsTable (sym at.0) at.1)

-- ---- a text that only reads

-- one that is understood, and is quiet, is plain
plain_of : (schema : Schema) (text : List ℕ) (c : Compiled) → understood schema text ≡ Ok c → IsQuiet (understood schema text) → IsPlain (understood schema text)
plain_of schema text c is quiet = subst IsPlain (sym is) (subst IsQuiet is quiet)

-- and a plain one is quiet
pub quiet_of : (r : Result Compiled CompileError) → IsPlain r → IsQuiet r
quiet_of (Ok c) plain = plain
quiet_of (Err e) plain = tt

-- no fault of the store is one of a row, and none of a query either
no_row_of_store : (cause : StoreError) → is_of_row (Sqlite (store_error cause)) ≡ false
no_row_of_store OutOfMemory = refl
no_row_of_store Io = refl
no_row_of_store Corrupt = refl
no_row_of_store Full = refl
no_row_of_store Broken = refl
no_row_of_store Unstorable = refl

no_row_read : (limit : Option ℕ) (command : Command) (db : Database) (params : Row) (e : Error) → RefusesToRead limit command db params e → is_of_row (Sqlite e) ≡ false
no_row_read limit (Select q names) db params e (inl h) = ap (λ e. is_of_row (Sqlite e)) h.0
no_row_read limit (Select q names) db params e (inr (inl h)) = ap (λ e. is_of_row (Sqlite e)) h.0
no_row_read limit (Select q names) db params e (inr (inr h)) = ap (λ e. is_of_row (Sqlite e)) h.0
no_row_read limit (Rows values width names) db params e h = ap (λ e. is_of_row (Sqlite e)) h.0
no_row_read limit _ db params e h = ap (λ e. is_of_row (Sqlite e)) h

-- so a quiet text changes nothing, whether it is understood or not
module _ (text : List ℕ) (params : Row) (schema : Schema) (quiet : IsQuiet (understood schema text)) (old new : State) (has : old.now.schema ≡ schema) where
  same_after : (rows : List Row) → Shown text params old new rows → new.now ≡ old.now
  unfolding Shown
  same_after rows h = unchanged text params old new schema has (plain_of schema text h.0 (subst (λ s. understood s text ≡ Ok h.0) has h.1.is) quiet) rows h

  same_failing : (e : Error) → (IsTrue old.is_open → old.now ≡ old.committed) → FailsToQuery text params old new e → IsTrue new.is_open → new.now ≡ old.now
  unfolding FailsToQuery IsNotRun
  same_failing e settled (inl (inl none)) stays = none.1.0.now_is
  same_failing e settled (inl (inr fails)) stays = (fails.3.undone stays).0 ∙ sym (settled (fails.3.was_open stays))
  same_failing e settled (inr h) stays = fails_unchanged text params old new schema has (plain_of schema text h.0 (subst (λ s. understood s text ≡ Ok h.0) has h.1.is) quiet) e settled (inr h) stays

  -- one that fails does so for no row
  no_row : (e : Error) → FailsToQuery text params old new e → is_of_row (Sqlite e) ≡ false
  unfolding FailsToQuery IsNotRun
  no_row e (inl (inl (inl none, _))) = ap (λ e. is_of_row (Sqlite e)) none.2
  no_row e (inl (inl (inr (c, is, inl many), _))) = ap (λ e. is_of_row (Sqlite e)) many.1
  no_row e (inl (inl (inr (c, is, inr (inl given)), _))) = ap (λ e. is_of_row (Sqlite e)) given.1
  no_row e (inl (inl (inr (c, is, inr (inr clock)), _))) = ap (λ e. is_of_row (Sqlite e)) clock.1
  no_row e (inl (inr fails)) = ap (λ e. is_of_row (Sqlite e)) fails.1 ∙ no_row_of_store fails.0
  no_row e (inr h) =
      let known = sym h.1.is ∙ ap (λ s. understood s text) has in
      let bare = subst IsPlain (sym known) (plain_of schema text h.0 (sym known) quiet) in
      no_row_read old.step_limit h.0.command _ _ e (rw (bare.0) at h.2).2

  none_committed : (db : Trees) → ¬ CommitsShowing text params old db
  unfolding CommitsShowing
  none_committed db h = never_commits text params old db (subst (λ s. IsPlain (understood s text)) (sym has) (plain_of schema text h.0 (subst (λ s. understood s text ≡ Ok h.0) has h.1.is) quiet)) h

-- tables of each version stay
module _ (text : List ℕ) (quiet : (layout : Layout) (version : Version) → IsQuiet (understood (schema_of layout version) text)) (params : Row) (old new : State) where
  pub still_same : (layout : Layout) (version : Version) → old.now.schema ≡ schema_of layout version → (rows : List Row) → Shown text params old new rows → new.now ≡ old.now
  still_same layout version has rows h = same_after text params (schema_of layout version) (quiet layout version) old new has rows h

  pub still_holds : (version : Version) (ledger : Ledger) → HoldsAs version old.now ledger → (rows : List Row) → Shown text params old new rows → HoldsAs version new.now ledger
  still_holds version ledger held rows h = subst (λ d. HoldsAs version d ledger) (sym (still_same (layout_in old.now) version held.schema rows h)) held

  -- a read that fails leaves the tables too, where the connection is open and no transaction was
  pub fails_holding : (version : Version) (ledger : Ledger) → HoldsAs version old.now ledger → (e : Error) → (IsTrue old.is_open → old.now ≡ old.committed) → FailsToQuery text params old new e → IsTrue new.is_open
      → HoldsAs version new.now ledger
  fails_holding version ledger held e settled h stays = subst (λ d. HoldsAs version d ledger) (sym (same_failing text params (schema_of (layout_in old.now) version) (quiet (layout_in old.now) version) old new held.schema e settled h stays)) held

  -- nor does a read that fails call a row damaged
  pub fails_back : (layout : Layout) (version : Version) → old.now.schema ≡ schema_of layout version → (e : Error) → FailsToQuery text params old new e → is_of_row (Sqlite e) ≡ false
  fails_back layout version has e h = no_row text params (schema_of layout version) (quiet layout version) old new has e h

  pub commits_none : (version : Version) (ledger : Ledger) → HoldsAs version old.now ledger → (db : Trees) → ¬ CommitsShowing text params old db
  commits_none version ledger held db = none_committed text params (schema_of (layout_in old.now) version) (quiet (layout_in old.now) version) old new held.schema db

pub if_ok : {T E : Type 0} (r : Result T E) (P Q : T → Type 0) → IfOk r P → ((x : T) → P x → Q x) → IfOk r Q
if_ok (Ok x) P Q h f = f x h
if_ok (Err e) P Q h f = tt

pub ok_if : {T E : Type 0} (r : Result T E) (P : T → Type 0) (Q : Type 0) → IfOk r P → ((x : T) → P x → Q) → OnOk r Q
ok_if (Ok x) P Q h f = f x h
ok_if (Err e) P Q h f = tt

pub both_ok : {T E : Type 0} (r : Result T E) (P Q R : T → Type 0) → IfOk r P → IfOk r Q → ((x : T) → P x → Q x → R x) → IfOk r R
both_ok (Ok x) P Q R a b f = f x a b
both_ok (Err e) P Q R a b f = tt
