-- A SELECT over one table, in the order of its rowid.
use Rattle.std.specs.Prelude.{◌≡◌, ℕ, pos, negsuc, false, Bool, List, [], ◌∷◌, None}
use Rattle.std.specs.List.{list_all}
use Rattle.sqlite_value.specs.declared.value.Value.TheVariants.{Int}
use Rattle.sqlite_value.specs.declared.keys.Collation.TheVariants.{Binary}
use Rattle.sqlite_value.specs.Order.{Row}
use Rattle.sqlite_value.specs.Keys.{ascending}
use Rattle.sqlite_schema.specs.declared.schema.Schema.{Schema}
use Rattle.sqlite_schema.specs.declared.command.Command.TheVariants.{Select}
use Rattle.sqlite.specs.Given.{IsPlain}
use Rattle.sqlite.specs.Listing.{understood, reads_listing}
use Rattle.sqlite.proofs.Callers.{command_of}
use Rattle.sqlite_sql.specs.Term.{Term, lit, col, holds}
use Rattle.sqlite_sql.specs.Query.{Query, inner, end}

-- SELECT columns FROM tree WHERE tests ORDER BY rowid LIMIT most
abbrev pub listing : ℕ → List Term → List Term → Term → Query
listing tree tests columns most = record {
  from = inner tree end;
  filter = tests;
  group = None;
  project = columns;
  distinct = false;
  collations = [];
  order = (col 1 0, ascending Binary) ∷ [];
  limit = most;
  offset = lit (Int (pos 0));
}

-- with no LIMIT
abbrev pub no_limit : Term
no_limit = lit (Int (negsuc 0))

-- the row passes each test of WHERE
abbrev pub passes : List Term → Row → Row → Bool
passes tests params row = list_all (holds (params ∷ row ∷ [])) tests

-- under the schema the text is that SELECT. Each field is `refl` where all is written out.
pub record ListsFrom (schema : Schema) (tree : ℕ) (text : List ℕ) (tests columns : List Term) (most : Term) : Type 0 where
  pub names : List (List ℕ)
  pub command : command_of (understood schema text) ≡ Select (record { lets = []; body = listing tree tests columns most }) names
  pub plain : IsPlain (understood schema text)
  pub unlisted : reads_listing schema text ≡ false
