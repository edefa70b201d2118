-- From one run to the next: what a crash leaves of a desk's files is found.
use Rattle.std.proofs.Common.{◌≡◌, ◌⊎◌, ℕ, List, [], inl, inr, refl, subst, sym}
use Rattle.std.specs.Prelude.{⊤}
use Rattle.std.proofs.Math.Logic.{∥∥₁_map}
use Rattle.sqlite_disk.specs.declared.Disk as disk
use Rattle.sqlite_trees.specs.Tree.{Trees}
use Rattle.sqlite_trees.specs.declared.store.Store.{Ghosts}
use Rattle.sqlite_schema.specs.declared.schema.Schema.{Schema}
use Rattle.sqlite_catalog.specs.Listing.{IsSound as IsListed}
use Rattle.sqlite_store.specs.declared.store.FileStore.{FileStore}
use Rattle.sqlite_catalog.proofs.ReadLemmas.{lists_once}
use Rattle.sqlite.specs.Effect.{Database, IsDatabase}
use Rattle.sqlite.specs.Held.{Held, state}
use Rattle.sqlite.specs.Files.{file_state, over_files}
use Rattle.sqlite.specs.State.{HasCleanDisk}
use Rattle.sqlite.proofs.Theorems.{next_run}
use Rattle.tc_types.specs.declared.history.moves.Move.{Move}
use Rattle.tc_book.specs.Book.{Book}
use Rattle.tc_book.specs.Tables.{image_of}
use Rattle.tc_world.specs.declared.configs.Config.{Config}
use Rattle.tc_store.specs.declared.versions.Version.{Version}
use Rattle.tc_sql.specs.Builds.{no_schema}
use Rattle.tc_store.specs.Ledgers.{KeptAnswer, Ledger, empty_ledger, newest}
use Rattle.tc_store.specs.Schema.{schema_of, HoldsAs}
use Rattle.tc_store.specs.Steps.{HasRows}
use Rattle.tc_store.specs.Told.{IsTold}
use Rattle.tc_store.proofs.LayoutLemmas.{holds_in}
use Rattle.tc_desk.specs.Replies.{Reply}
use Rattle.tc_room.specs.declared.callers.Caller.{Caller}
use Rattle.tc_room.specs.Calls.{IsMadeOnce, KeepsAll, Makes}
use Rattle.tc_room.specs.Crash.{Leaves, LeavesActs, ledger_of}
use Rattle.tc_room.specs.Joined.{IsKept, LinkState, Standing}
use Rattle.tc_room.specs.Loads.{LoadsBook}
use Rattle.tc_room.specs.Opening.{LeavesOpening, OpensAs, OpensLeft}
use Rattle.tc_room.specs.Room.{IsJustOpened, MakesBook}
use Rattle.tc_room.proofs.CallLemmas.{keeps_with}
use Rattle.tc_run.specs.Crash.{FindsAgain, HasLedgerAs, HasRowsAs, HoldsSome, IsEither, IsReopened, LeavesNone, LeavesSome, OfNewest, OpensAgain, OpensBook, OpensEither, OpensFiles, OpensKeeping, OpensNew}

-- a sound database whose trees are the tables of a version has the schema of that version
desk_rows : (version : Version) (db : Database) (ledger : Ledger) → IsDatabase db → HasRowsAs version db.trees ledger → HoldsAs version db ledger
desk_rows version db ledger sound rows =
    holds_in rows.layout version db ledger rows.fits (lists_once _ db.schema (schema_of rows.layout version) sound.lists rows.listed.lists) rows.rows rows.lacks sound

-- what the files hold as tables of the newest version
rows_as : (trees : Trees) (ledger : Ledger) → HasRows trees ledger → HasRowsAs newest trees ledger
rows_as trees ledger has = record { layout = has.layout; fits = has.fits; rows = has.rows; listed = has.listed; lacks = tt }

-- what tables of the newest version leave
pub of_newest : {D : Type 0} {g : disk.Ghosts D} (last : Held (FileStore D g)) (May : Ledger → Type 0) → Leaves over_files last May → LeavesSome over_files last (OfNewest May)
of_newest last May leaves trees may = let left = leaves trees may in (newest, left.0, (refl, left.1), rows_as trees left.0 left.2)

-- one of the tables that a crash leaves is found
pub found_again : {D E : Type 0} {g : disk.Ghosts D} {h : disk.Ghosts E} (last : Held (FileStore D g)) (found : Held (FileStore E h)) (May : Version → Ledger → Type 0)
    → IsReopened last found → LeavesSome over_files last May → HoldsSome May (file_state found).now
found_again last found May again leaves =
    ∥∥₁_map (next_run last.store again.numbered (λ db may. let left = leaves db may in (schema_of left.3.layout left.0, left.3.listed)) again.bytes again.left (file_state found) again.finds)
    (λ recovered.
    let now = (file_state found).now in
    let same : now ≡ (file_state found).committed = again.opened.0.clean in
    let has = leaves (file_state found).committed.trees recovered in
    let rows : HasRowsAs has.0 now.trees has.1 = subst (λ (db : Database). HasRowsAs has.0 db.trees has.1) (sym same) has.3 in
    let r : (version : Version) × (ledger : Ledger) × May version ledger × HoldsAs version now ledger = (has.0, has.1, has.2, desk_rows has.0 now has.1 ((again.opened.1 again.opened.0.is_open).0) rows) in r)

-- and opened, if it is told by its columns
pub opened_again : {D E : Type 0} {g : disk.Ghosts D} {h : disk.Ghosts E} (last : Held (FileStore D g)) (found : Held (FileStore E h)) (May : Version → Ledger → Type 0) (config : Config) (moment : ℕ) (moves : List Move) (room : Standing (FileStore E h))
    → IsReopened last found → LeavesSome over_files last May → ((version : Version) (ledger : Ledger) → May version ledger → IsTold ledger.image)
    → OpensAs over_files config moment found moves room → HasCleanDisk (file_state room.tables) → ∥ ((version : Version) × (ledger : Ledger) × May version ledger × OpensLeft over_files config moment ledger moves room) ∥₁
opened_again last found May config moment moves room again leaves told opens clean =
    ∥∥₁_map (found_again last found May again leaves)
    (λ some.
    let r : (version : Version) × (ledger : Ledger) × May version ledger × OpensLeft over_files config moment ledger moves room =
    (some.0, some.1, some.2, opens.left clean some.0 some.1 (told some.0 some.1 some.2) some.3) in r)

-- and opened, as the tables of a book or of what was made of it, where these are books that a room keeps
pub opened_either : {D E : Type 0} {g : disk.Ghosts D} {h : disk.Ghosts E} (last : Held (FileStore D g)) (found : Held (FileStore E h)) (May : Version → Ledger → Type 0) (old : Book) (Makes : Book → Type 0) (replies : List KeptAnswer)
    (config : Config) (moment : ℕ) (moves : List Move) (room : Standing (FileStore E h)) → ((version : Version) (ledger : Ledger) → May version ledger → IsEither old Makes replies ledger)
    → IsReopened last found → IsKept old → ((after : Book) → Makes after → IsKept after) → LeavesSome over_files last May
    → OpensAs over_files config moment found moves room → HasCleanDisk (file_state room.tables) → OpensEither over_files old Makes replies config moment moves room
opened_either last found May old Makes replies config moment moves room is again kept keeps leaves opens clean =
    ∥∥₁_map (opened_again last found May config moment moves room again leaves
    (λ version ledger may. elim (is version ledger may) [
      | inl before ↦ subst (λ (l : Ledger). IsTold l.image) (sym before) kept.told
      | inr made ↦ subst (λ (l : Ledger). IsTold l.image) (sym made.2) (keeps made.0 made.1).told
    ]) opens clean)
    (λ some. elim (is some.0 some.1 some.2) [
      | inl before ↦ (old, inl refl, subst (λ (l : Ledger). OpensLeft over_files config moment l moves room) before some.3)
      | inr made ↦ (made.0, inr made.1, subst (λ (l : Ledger). OpensLeft over_files config moment l moves room) made.2 some.3)
    ])

-- what a crash in an act or a load leaves is opened so
pub act_opened : {D E : Type 0} {g : disk.Ghosts D} {h : disk.Ghosts E} (last : Held (FileStore D g)) (found : Held (FileStore E h)) (old : Book) (Makes : Book → Type 0) (replies : List KeptAnswer)
    (config : Config) (moment : ℕ) (moves : List Move) (room : Standing (FileStore E h)) → IsReopened last found → IsKept old → ((after : Book) → Makes after → IsKept after)
    → LeavesActs over_files last old replies Makes → OpensAs over_files config moment found moves room → HasCleanDisk (file_state room.tables) → OpensEither over_files old Makes replies config moment moves room
act_opened last found old Makes replies config moment moves room again kept keeps leaves =
    opened_either last found (OfNewest (IsEither old Makes replies)) old Makes replies config moment moves room (λ version ledger may. may.1) again kept keeps (of_newest last (IsEither old Makes replies) leaves)

-- an opening that was refused leaves the tables of the book that they held, of the version that they were of, or those of what the opening makes of it
opening_leaves : {D : Type 0} {g : disk.Ghosts D} (version : Version) (store last : Held (FileStore D g)) (chosen : Config) (moment : ℕ) (old : Book) (replies : List KeptAnswer)
    → IsTold (image_of old) → HasLedgerAs over_files version store (ledger_of old replies) → LeavesOpening over_files chosen moment store last
    → LeavesSome over_files last (λ _ ledger. IsEither old (OpensBook chosen moment old) replies ledger)
opening_leaves version store last chosen moment old replies told has leaves trees may =
    elim (leaves.held version (ledger_of old replies) has.holds trees may) [
      | inl before ↦ (version, ledger_of old replies, inl refl, has.leaves trees before)
      | inr made ↦
          let opened = made told in
          (newest, ledger_of opened.2.book replies, inr (opened.2.book, (opened.2, opened.3, refl, opened.4), refl), rows_as trees (ledger_of opened.2.book replies) opened.5)
    ]

-- and that is opened again
pub opening_opened : {D E : Type 0} {g : disk.Ghosts D} {h : disk.Ghosts E} (last store : Held (FileStore D g)) (found : Held (FileStore E h)) (version : Version) (chosen : Config) (at : ℕ) (old : Book) (replies : List KeptAnswer)
    (config : Config) (moment : ℕ) (moves : List Move) (room : Standing (FileStore E h)) → IsReopened last found → IsKept old
    → HasLedgerAs over_files version store (ledger_of old replies) → LeavesOpening over_files chosen at store last
    → OpensAs over_files config moment found moves room → HasCleanDisk (file_state room.tables) → OpensEither over_files old (OpensBook chosen at old) replies config moment moves room
opening_opened last store found version chosen at old replies config moment moves room again kept has leaves =
    opened_either last found (λ _ ledger. IsEither old (OpensBook chosen at old) replies ledger) old (OpensBook chosen at old) replies config moment moves room (λ _ ledger may. may) again kept (λ after made. made.3)
    (opening_leaves version store last chosen at old replies kept.told has leaves)

-- what a crash leaves of the making of a desk, in a database with no table: that, or the tables of an empty desk
made_listed : (trees : Trees) → IsListed no_schema trees ⊎ HasRows trees empty_ledger → (schema : Schema) × IsListed schema trees
made_listed trees (inl none) = (no_schema, none)
made_listed trees (inr made) = (schema_of made.layout newest, made.listed)

-- and which of the two is found
found_new : (db : Database) → IsDatabase db → IsListed no_schema db.trees ⊎ HasRows db.trees empty_ledger → (db.schema ≡ no_schema) ⊎ HoldsAs newest db empty_ledger
found_new db sound (inl none) = inl (lists_once _ db.schema no_schema sound.lists none.lists)
found_new db sound (inr made) = inr (desk_rows newest db empty_ledger sound (rows_as db.trees empty_ledger made))

opened_new : {S : Type 0} (g : Ghosts S) (found : Held S) (config : Config) (moment : ℕ) (moves : List Move) (room : Standing S) → OpensAs g config moment found moves room → HasCleanDisk (state g room.tables)
    → ((state g found).now.schema ≡ no_schema) ⊎ HoldsAs newest (state g found).now empty_ledger → (IsJustOpened g config room × (moves ≡ [])) ⊎ OpensLeft g config moment empty_ledger moves room
opened_new g found config moment moves room opens clean (inl none) = inl (opens.anew none)
opened_new g found config moment moves room opens clean (inr held) = inr (opens.left clean newest empty_ledger (record { requests = tt; steps = tt; records = tt }) held)

pub making_opened : {D E : Type 0} {g : disk.Ghosts D} {h : disk.Ghosts E} (last store : Held (FileStore D g)) (found : Held (FileStore E h)) (chosen : Config) (at : ℕ)
    (config : Config) (moment : ℕ) (moves : List Move) (room : Standing (FileStore E h)) → IsReopened last found → (file_state store).now.schema ≡ no_schema → LeavesNone over_files store
    → LeavesOpening over_files chosen at store last → OpensAs over_files config moment found moves room → HasCleanDisk (file_state room.tables) → OpensNew over_files config moment moves room
making_opened last store found chosen at config moment moves room again none blank leaves opens clean =
    ∥∥₁_map (next_run last.store again.numbered (λ trees may. made_listed trees (left trees may)) again.bytes again.left (file_state found) again.finds)
    (λ recovered.
    let now = (file_state found).now in
    let same : now ≡ (file_state found).committed = again.opened.0.clean in
    let either : IsListed no_schema now.trees ⊎ HasRows now.trees empty_ledger = subst (λ (db : Database). IsListed no_schema db.trees ⊎ HasRows db.trees empty_ledger) (sym same) (left (file_state found).committed.trees recovered) in
    opened_new over_files found config moment moves room opens clean (found_new now ((again.opened.1 again.opened.0.is_open).0) either))
  where
    left : (trees : Trees) → (file_state last).may_leave trees → IsListed no_schema trees ⊎ HasRows trees empty_ledger
    left trees may = elim (leaves.anew none trees may) [
      | inl before ↦ inl (blank trees before)
      | inr made ↦ inr made
    ]

-- each reply that was kept is kept still, whether what was called was made or not
call_keeps : (before : Book) (replies : List KeptAnswer) (caller : Caller) (Makes : Reply → LinkState → Type 0) (ledger : Ledger) → IsMadeOnce before replies caller Makes ledger → KeepsAll replies ledger.replies
call_keeps before replies caller Makes ledger (inl same) = subst (λ (l : Ledger). KeepsAll replies l.replies) (sym same) (λ caller body is. is)
call_keeps before replies caller Makes ledger (inr made) = subst (λ (l : Ledger). KeepsAll replies l.replies) (sym made.4) (keeps_with replies caller made.0)

call_told : (before : Book) (replies : List KeptAnswer) (caller : Caller) (Makes : Reply → LinkState → Type 0) → IsKept before
    → (ledger : Ledger) → IsMadeOnce before replies caller Makes ledger → IsTold ledger.image
call_told before replies caller Makes kept ledger (inl same) = subst (λ (l : Ledger). IsTold l.image) (sym same) kept.told
call_told before replies caller Makes kept ledger (inr made) = subst (λ (l : Ledger). IsTold l.image) (sym made.4) made.3.told

-- what a crash in a call leaves is opened so
pub call_opened : {D E : Type 0} {g : disk.Ghosts D} {h : disk.Ghosts E} (last : Held (FileStore D g)) (found : Held (FileStore E h)) (before : Book) (replies : List KeptAnswer) (caller : Caller) (Makes : Reply → LinkState → Type 0)
    (config : Config) (moment : ℕ) (moves : List Move) (room : Standing (FileStore E h)) → IsReopened last found → IsKept before
    → Leaves over_files last (IsMadeOnce before replies caller Makes) → OpensAs over_files config moment found moves room → HasCleanDisk (file_state room.tables)
    → OpensKeeping over_files (IsMadeOnce before replies caller Makes) replies config moment moves room
call_opened last found before replies caller Makes config moment moves room again kept leaves opens clean =
    ∥∥₁_map (opened_again last found (OfNewest (IsMadeOnce before replies caller Makes)) config moment moves room again (of_newest last (IsMadeOnce before replies caller Makes) leaves)
    (λ version ledger may. call_told before replies caller Makes kept ledger may.1) opens clean)
    (λ some.
    let r : (ledger : Ledger) × IsMadeOnce before replies caller Makes ledger × KeepsAll replies ledger.replies × OpensLeft over_files config moment ledger moves room =
    (some.1, some.2.1, call_keeps before replies caller Makes some.1 some.2.1, some.3) in r)

-- ---- all of it, over the same kind of files

module _ {D : Type 0} {g : disk.Ghosts D} (last found : Held (FileStore D g)) (again : IsReopened last found) where
  -- what is found
  pub finds_again : FindsAgain last found
  finds_again = record {
    kept = λ book replies leaves. found_again last found (OfNewest (λ ledger. ledger ≡ ledger_of book replies)) again (of_newest last (λ ledger. ledger ≡ ledger_of book replies) leaves);
    act = λ old stamp given replies leaves.
        found_again last found (OfNewest (IsEither old.book (MakesBook old stamp given) replies)) again (of_newest last (IsEither old.book (MakesBook old stamp given) replies) leaves);
    load = λ old stamp given replies leaves.
        found_again last found (OfNewest (IsEither old.book (LoadsBook old stamp given) replies)) again (of_newest last (IsEither old.book (LoadsBook old stamp given) replies) leaves);
  }

  module _ (config : Config) (moment : ℕ) (moves : List Move) (room : Standing (FileStore D g)) (opens : OpensAs over_files config moment found moves room) (clean : HasCleanDisk (file_state room.tables)) where
    -- the tables of a kept book are told by their columns, so that they are opened
    kept_opened : (book : Book) (replies : List KeptAnswer) → IsKept book → Leaves over_files last (λ ledger. ledger ≡ ledger_of book replies)
        → ∥ OpensLeft over_files config moment (ledger_of book replies) moves room ∥₁
    kept_opened book replies kept leaves =
        ∥∥₁_map (opened_again last found (OfNewest (λ ledger. ledger ≡ ledger_of book replies)) config moment moves room again (of_newest last (λ ledger. ledger ≡ ledger_of book replies) leaves)
        (λ version ledger is. subst (λ (l : Ledger). IsTold l.image) (sym is.1) kept.told) opens clean)
        (λ some. subst (λ (l : Ledger). OpensLeft over_files config moment l moves room) some.2.1 some.3)

    next_opened : Leaves over_files last (λ ledger. ⊤)
        → (trees : Trees) × ∥ (file_state last).may_leave trees ∥₁ × ((ledger : Ledger) → IsTold ledger.image → HasRows trees ledger → OpensLeft over_files config moment ledger moves room)
    next_opened leaves =
        let now = (file_state found).now in
        let same : now ≡ (file_state found).committed = again.opened.0.clean in
        let recovered : ∥ (file_state last).may_leave (file_state found).committed.trees ∥₁ =
        next_run last.store again.numbered (λ trees may. let left = leaves trees may in (schema_of left.2.layout newest, left.2.listed)) again.bytes again.left (file_state found) again.finds in (
          now.trees,
          subst (λ (db : Database). ∥ (file_state last).may_leave db.trees ∥₁) (sym same) recovered,
          λ ledger told rows. opens.left clean newest ledger told (desk_rows newest now ledger ((again.opened.1 again.opened.0.is_open).0) (rows_as now.trees ledger rows)),
        )

    pub opens_again : OpensAgain config moment last moves room
    opens_again = record {
      kept = kept_opened;
      act = λ old stamp given replies kept leaves. act_opened last found old.book (MakesBook old stamp given) replies config moment moves room again kept (λ after made. made.4) leaves opens clean;
      load = λ old stamp given replies kept leaves. act_opened last found old.book (LoadsBook old stamp given) replies config moment moves room again kept (λ after made. made.4) leaves opens clean;
      call = λ old caller making replies kept leaves. call_opened last found old.book replies caller (Makes old making) config moment moves room again kept leaves opens clean;
      opening = λ store version chosen at old replies kept has leaves. opening_opened last store found version chosen at old replies config moment moves room again kept has leaves opens clean;
      anew = λ store chosen at none blank leaves. making_opened last store found chosen at config moment moves room again none blank leaves opens clean;
      next = next_opened;
    }

-- a room that was opened over files
pub opens_files : {D : Type 0} {g : disk.Ghosts D} (config : Config) (moment : ℕ) (found : Held (FileStore D g)) (moves : List Move) (room : Standing (FileStore D g)) → OpensAs over_files config moment found moves room
    → OpensFiles config moment found moves room
opens_files config moment found moves room opens = record { opens = opens; again = λ clean last again. opens_again last found again config moment moves room opens clean }
