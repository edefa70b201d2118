-- The schema of each version has no more than forms have.
use Rattle.std.proofs.Common.{refl}
use Rattle.std.specs.List.{AllByRecursion}
use Rattle.sqlite_keyed.proofs.ListLemmas.{all-append}
use Rattle.sqlite_tied.specs.Compute.{everything}
use Rattle.sqlite.specs.Listing.{understood}
use Rattle.tc_sql.specs.Schemas.{IsPlainTable, IsPlainSchema}
use Rattle.tc_store.specs.declared.versions.Layout.{Layout}
use Rattle.tc_store.specs.declared.versions.Version.{Version}
use Rattle.tc_store.specs.declared.versions.Version.TheVariants.{First, Second, Third}
use Rattle.tc_store.specs.Schema.{tables_behind, first_tables, schema_of}

-- those of the first
plain_first : (layout : Layout) → AllByRecursion IsPlainTable (first_tables layout)
unfolding understood everything
plain_first layout = (
  record { columns = (refl, (refl, tt)); checks = refl; references = refl; stamps = refl },
  (
    record { columns = (refl, (refl, (refl, (refl, (refl, (refl, (refl, (refl, (refl, (refl, (refl, (refl, (refl, (refl, (refl, tt))))))))))))))); checks = refl; references = refl; stamps = refl },
    (
      record { columns = (refl, (refl, (refl, (refl, (refl, (refl, (refl, tt))))))); checks = refl; references = refl; stamps = refl },
      (
        record { columns = (refl, (refl, tt)); checks = refl; references = refl; stamps = refl },
        (
          record { columns = (refl, (refl, tt)); checks = refl; references = refl; stamps = refl },
          (
            record { columns = (refl, (refl, (refl, tt))); checks = refl; references = refl; stamps = refl },
            (
              record { columns = (refl, (refl, tt)); checks = refl; references = refl; stamps = refl },
              (
                record { columns = (refl, (refl, tt)); checks = refl; references = refl; stamps = refl },
                (
                  record { columns = (refl, (refl, (refl, (refl, (refl, tt))))); checks = refl; references = refl; stamps = refl },
                  (
                    record { columns = (refl, (refl, (refl, (refl, tt)))); checks = refl; references = refl; stamps = refl },
                    (
                      record { columns = (refl, (refl, (refl, (refl, (refl, (refl, tt)))))); checks = refl; references = refl; stamps = refl },
                      tt,
                    ),
                  ),
                ),
              ),
            ),
          ),
        ),
      ),
    ),
  ),
)

-- and those behind them
plain_behind : (layout : Layout) (version : Version) → AllByRecursion IsPlainTable (tables_behind layout version)
unfolding understood everything
plain_behind layout First = tt
plain_behind layout Second = (record { columns = (refl, (refl, (refl, tt))); checks = refl; references = refl; stamps = refl }, tt)
plain_behind layout Third = (
  record { columns = (refl, (refl, (refl, tt))); checks = refl; references = refl; stamps = refl },
  (record { columns = (refl, (refl, (refl, (refl, tt)))); checks = refl; references = refl; stamps = refl }, tt),
)

pub is_plain : (layout : Layout) (version : Version) → IsPlainSchema (schema_of layout version)
is_plain layout version = record { tables = all-append IsPlainTable (first_tables layout) (tables_behind layout version) (plain_first layout) (plain_behind layout version); views = refl }
