-- Schemas that have no more than forms have: no CHECK, no REFERENCES, no default and no view.
use Rattle.std.specs.Prelude.{◌≡◌, []}
use Rattle.std.specs.List.{AllByRecursion}
use Rattle.sqlite_value.specs.declared.value.Value.TheVariants.{Null}
use Rattle.sqlite_schema.specs.declared.schema.Column.{Column}
use Rattle.sqlite_schema.specs.declared.schema.Schema.{Schema}
use Rattle.sqlite_schema.specs.declared.schema.Stamps.{Stamps}
use Rattle.sqlite_schema.specs.declared.schema.Table.{Table}

abbrev pub IsPlainColumn : Column → Type 0
IsPlainColumn column = column.default ≡ Null

-- no default reads the time
abbrev pub no_stamps : Stamps
no_stamps = record { places = []; terms = []; formats = [] }

pub record IsPlainTable (table : Table) : Type 0 where
  pub columns : AllByRecursion IsPlainColumn table.columns
  pub checks : table.checks ≡ []
  pub references : table.references ≡ []
  pub stamps : table.stamps ≡ no_stamps

pub record IsPlainSchema (schema : Schema) : Type 0 where
  pub tables : AllByRecursion IsPlainTable schema.tables
  pub views : schema.views ≡ []
