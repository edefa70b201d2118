-- What is so of tables in each of their orders is so in whatever order they stand.
use Rattle.std.proofs.Common.{◌≡◌, ◌≢◌, refl, sym, ap, subst, ◌∙◌}
use Rattle.sqlite_schema.specs.declared.schema.Schema.{Schema}
use Rattle.sqlite.specs.Effect.{Database, IsDatabase}
use Rattle.tc_sql.specs.Contents.{Matches}
use Rattle.tc_store.specs.declared.versions.Version.{Version}
use Rattle.tc_store.specs.declared.versions.Version.TheVariants.{First, Second, Third}
use Rattle.tc_store.specs.declared.versions.Layout.{Layout}
use Rattle.tc_store.specs.declared.versions.Layout.TheVariants.{Made, Copied}
use Rattle.tc_store.specs.Layouts.{IsLayoutOf}
use Rattle.tc_store.specs.Ledgers.{Ledger, newest}
use Rattle.tc_store.specs.Schema.{schema_of, layout_of, contents_of, IsSchemaOf, Lacks, HoldsAs}

pub in_each : (P : Layout → Type 0) → P Made → P (Copied First) → P (Copied Second) → P (Copied Third) → (layout : Layout) → P layout
in_each P made first second third Made = made
in_each P made first second third (Copied First) = first
in_each P made first second third (Copied Second) = second
in_each P made first second third (Copied Third) = third

-- tables that become the newest's stand in their order still
pub still_fits : (layout : Layout) (version : Version) → IsLayoutOf layout version → IsLayoutOf layout newest
still_fits Made version fits = tt
still_fits (Copied First) version fits = tt
still_fits (Copied Second) version fits = tt
still_fits (Copied Third) version fits = tt

-- a schema tells its order
layout_back : (layout : Layout) (version : Version) → IsLayoutOf layout version → layout_of (schema_of layout version) ≡ layout
layout_back Made First fits = refl
layout_back Made Second fits = refl
layout_back Made Third fits = refl
layout_back (Copied First) First fits = refl
layout_back (Copied First) Second fits = refl
layout_back (Copied First) Third fits = refl
layout_back (Copied Second) First fits = absurd fits
layout_back (Copied Second) Second fits = refl
layout_back (Copied Second) Third fits = refl
layout_back (Copied Third) First fits = absurd fits
layout_back (Copied Third) Second fits = absurd fits
layout_back (Copied Third) Third fits = refl

pub told_layout : (layout : Layout) (version : Version) (schema : Schema) → IsLayoutOf layout version → schema ≡ schema_of layout version → layout_of schema ≡ layout
told_layout layout version schema fits is = ap layout_of is ∙ layout_back layout version fits

-- so tables that stand in an order are of their version
pub schema_in : (layout : Layout) (version : Version) (schema : Schema) → IsLayoutOf layout version → schema ≡ schema_of layout version → IsSchemaOf version schema
schema_in layout version schema fits is =
    let at = told_layout layout version schema fits is in
    record { fits = subst (λ (l : Layout). IsLayoutOf l version) (sym at) fits; is = is ∙ ap (λ (l : Layout). schema_of l version) (sym at) }

-- and hold what they hold
pub holds_in : (layout : Layout) (version : Version) (db : Database) (ledger : Ledger) → IsLayoutOf layout version → db.schema ≡ schema_of layout version
    → Matches db.trees (contents_of layout version ledger.image ledger.replies) → Lacks version ledger.image ledger.replies → IsDatabase db → HoldsAs version db ledger
holds_in layout version db ledger fits is rows lacks sound =
    let at = told_layout layout version db.schema fits is in
    record {
      fits = subst (λ (l : Layout). IsLayoutOf l version) (sym at) fits;
      schema = is ∙ ap (λ (l : Layout). schema_of l version) (sym at);
      rows = subst (λ (l : Layout). Matches db.trees (contents_of l version ledger.image ledger.replies)) (sym at) rows;
      lacks = lacks;
      sound = sound;
    }

-- a schema in none of the orders of a version is not of it
pub none_of : (version : Version) (schema : Schema) → ((layout : Layout) → IsLayoutOf layout version → schema ≢ schema_of layout version) → ¬ IsSchemaOf version schema
none_of version schema none it = none (layout_of schema) it.fits it.is

pub none_first : (schema : Schema) → schema ≢ schema_of Made First → schema ≢ schema_of (Copied First) First → ¬ IsSchemaOf First schema
none_first schema made first = none_of First schema by_layout
  where
    by_layout : (layout : Layout) → IsLayoutOf layout First → schema ≢ schema_of layout First
    by_layout Made fits = made
    by_layout (Copied First) fits = first
    by_layout (Copied Second) fits = absurd fits
    by_layout (Copied Third) fits = absurd fits

pub none_second : (schema : Schema) → schema ≢ schema_of Made Second → schema ≢ schema_of (Copied First) Second → schema ≢ schema_of (Copied Second) Second → ¬ IsSchemaOf Second schema
none_second schema made first second = none_of Second schema by_layout
  where
    by_layout : (layout : Layout) → IsLayoutOf layout Second → schema ≢ schema_of layout Second
    by_layout Made fits = made
    by_layout (Copied First) fits = first
    by_layout (Copied Second) fits = second
    by_layout (Copied Third) fits = absurd fits

pub none_third : (schema : Schema) → schema ≢ schema_of Made Third → schema ≢ schema_of (Copied First) Third → schema ≢ schema_of (Copied Second) Third → schema ≢ schema_of (Copied Third) Third → ¬ IsSchemaOf Third schema
none_third schema made first second third = none_of Third schema by_layout
  where
    by_layout : (layout : Layout) → IsLayoutOf layout Third → schema ≢ schema_of layout Third
    by_layout Made fits = made
    by_layout (Copied First) fits = first
    by_layout (Copied Second) fits = second
    by_layout (Copied Third) fits = third
