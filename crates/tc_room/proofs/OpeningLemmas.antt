-- What is opened over tables.
use Rattle.std.proofs.Common.{◌≡◌, ◌∙◌, ◌⊎◌, inl, inr, ℕ, Bool, true, false, List, [], ◌∷◌, drop, refl, ap, subst, sym}
use Rattle.sqlite_schema.specs.declared.schema.Schema.{Schema}
use Rattle.sqlite_trees.specs.declared.store.Store.{Ghosts}
use Rattle.sqlite.specs.Effect.{Database}
use Rattle.sqlite.specs.Held.{Held, state}
use Rattle.tc_sql.specs.Builds.{no_schema}
use Rattle.tc_types.specs.Tables.{Image}
use Rattle.tc_types.specs.declared.history.moves.Move.{Move}
use Rattle.tc_types.specs.declared.refusals.Refusal.{Refusal}
use Rattle.tc_types.specs.declared.refusals.Refusal.TheVariants.{BadDirective, Memory, Store}
use Rattle.tc_types.specs.declared.tables.rows.Row.{Row}
use Rattle.tc_world.specs.declared.configs.Config.{Config}
use Rattle.tc_store.specs.declared.versions.Version.{Version}
use Rattle.tc_store.specs.declared.versions.Version.TheVariants.{First, Second, Third}
use Rattle.tc_store.specs.Ledgers.{Ledger}
use Rattle.tc_store.specs.declared.versions.Layout.{Layout}
use Rattle.tc_store.specs.Schema.{schema_of, layout_of, layout_in, IsSchemaOf, HoldsAs}
use Rattle.tc_store.specs.Shows.{ShowsAll}
use Rattle.tc_store.specs.Told.{IsTold}
use Rattle.tc_room.specs.Joined.{LinkState}
use Rattle.tc_room.specs.Opening.{KeepsTables, ReadsLeft, ShowsDesk}

-- what a desk is refused for that is opened over links that were chosen well
pub why_unopened : (Fit Sound : Type 0) (why : Refusal) → ((why ≡ BadDirective) × (Fit → ⊥)) ⊎ ((why ≡ Memory) × Fit) ⊎ ((why ≡ Store) × Fit × (Sound → ⊥)) → Fit → (why ≡ Memory) ⊎ (why ≡ Store)
why_unopened Fit Sound why (inl (_, unfit)) fit = absurd (unfit fit)
why_unopened Fit Sound why (inr (inl (is, _))) fit = inl is
why_unopened Fit Sound why (inr (inr (is, _, unsound))) fit = inr is

-- what is opened over an image that was read
pub left_read : (config : Config) (moment : ℕ) (read image : Image) (desk : LinkState) (moves : List Move) (batch : List Row) → read ≡ image
    → ReadsLeft config moment read desk moves batch → ReadsLeft config moment image desk moves batch
left_read config moment read image desk moves batch same reads = subst (λ (at : Image). ReadsLeft config moment at desk moves batch) same reads

true_false : true ≡ false → ⊥
true_false e = cc

has_any : {X : Type 0} → List X → Bool
has_any [] = false
has_any (x ∷ xs) = true

-- a desk's schema has tables
pub not_empty : (version : Version) (schema : Schema) → IsSchemaOf version schema → schema ≡ no_schema → ⊥
unfolding has_any
not_empty version schema ours none = true_false (ap (λ (s : Schema). has_any s.tables) (sym ours.is ∙ none))

-- a database that is as it was has the tables that it had
pub keeps_same : (old new : Database) → new ≡ old → KeepsTables old new
keeps_same old new same = record { empty = λ none. same; held = λ version ledger held. subst (λ now. HoldsAs version now ledger) (sym same) held }

-- which version has so many tables behind the eleven of the first
abbrev version_behind : {X : Type 0} → List X → Version
version_behind [] = First
version_behind (a ∷ []) = Second
version_behind (a ∷ b ∷ xs) = Third

told_back : (layout : Layout) (version : Version) → version_behind (drop 11 (schema_of layout version).tables) ≡ version
told_back layout First = refl
told_back layout Second = refl
told_back layout Third = refl

-- a schema is of one version
same_version : (a b : Version) (schema : Schema) → IsSchemaOf a schema → IsSchemaOf b schema → a ≡ b
same_version a b schema one two = sym (told_back (layout_of schema) a) ∙ ap (λ (s : Schema). version_behind (drop 11 s.tables)) (sym one.is ∙ two.is) ∙ told_back (layout_of schema) b

-- tables that hold a ledger have the schema of their version
pub schema_held : (version : Version) (db : Database) (ledger : Ledger) → HoldsAs version db ledger → IsSchemaOf version db.schema
schema_held version db ledger held = record { fits = held.fits; is = held.schema }

-- and show what is read of them
pub shows_desk : (version : Version) (db : Database) (rows : Image) → IsTold rows → IsSchemaOf version db.schema → ((layout : Layout) → db.schema ≡ schema_of layout version → ShowsAll layout version db rows) → ShowsDesk version db
shows_desk version db rows told ours shows = (ours, rows, told, shows (layout_in db) ours.is)

-- tables of a version that were found in a database
module _ {S : Type 0} (g : Ghosts S) (tables store : Held S) (at : Version) (same : tables ≡ store) (ours : IsSchemaOf at (state g store).now.schema) where
  -- they hold as of theirs what the database holds as of any
  pub found_held : (version : Version) (ledger : Ledger) → HoldsAs version (state g store).now ledger → HoldsAs at (state g tables).now ledger
  found_held version ledger held =
      let now = (state g store).now in
      subst (λ (t : Held S). HoldsAs at (state g t).now ledger) (sym same)
      (subst (λ (v : Version). HoldsAs v now ledger) (same_version version at now.schema (schema_held version now ledger held) ours) held)

  -- and what they show the database shows
  pub found_shown : (version : Version) → IsSchemaOf version (state g store).now.schema → (IsSchemaOf at (state g tables).now.schema → ShowsDesk at (state g tables).now) → ShowsDesk version (state g store).now
  found_shown version is shows =
      subst (λ (v : Version). ShowsDesk v (state g store).now) (same_version at version (state g store).now.schema ours is)
      (subst (λ (t : Held S). ShowsDesk at (state g t).now) same (shows (subst (λ (t : Held S). IsSchemaOf at (state g t).now.schema) (sym same) ours)))
