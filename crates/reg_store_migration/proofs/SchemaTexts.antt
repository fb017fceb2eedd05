-- What each text defines, beside the tables that are made before it.
use Rattle.std.proofs.Common.{refl}
use Rattle.sqlite_resolve.specs.Compile.{table_defined_by, index_defined_by}
use Rattle.sqlite_catalog.specs.Change.{created, indexed}
use Rattle.sqlite.specs.Listing.{understood}
use Rattle.sqlite_tied.specs.Compute.{everything}
use Rattle.reg_store_tables.specs.Schema.{record_tables, all_tables, crl, standing, kept, listed, longest, crl_at, standing_due}
use Rattle.reg_store_tables.specs.declared.schema.TheConstants.{STANDING, KEPT, LISTED, LONGEST, CRL_AT, STANDING_DUE}
use Rattle.reg_store_migration.specs.Makes.{DefinesTable, DefinesIndex}
use Rattle.reg_store_migration.specs.Older.{with_derived_tables}

pub standing_defined : DefinesTable record_tables STANDING.now (record standing { tree = 0 })
unfolding understood everything table_defined_by
standing_defined = record { plain = (refl, refl); is = refl; whole = refl; defined = refl; uncounted = refl }

pub kept_defined : DefinesTable (created record_tables standing) KEPT.now (record kept { tree = 0 })
unfolding understood everything table_defined_by
kept_defined = record { plain = (refl, refl); is = refl; whole = refl; defined = refl; uncounted = refl }

pub listed_defined : DefinesTable (created (created record_tables standing) kept) LISTED.now (record listed { tree = 0 })
unfolding understood everything table_defined_by
listed_defined = record { plain = (refl, refl); is = refl; whole = refl; defined = refl; uncounted = refl }

pub longest_defined : DefinesTable with_derived_tables LONGEST.now (record longest { tree = 0 })
unfolding understood everything table_defined_by
longest_defined = record { plain = (refl, refl); is = refl; whole = refl; defined = refl; uncounted = refl }

pub crl_at_defined : DefinesIndex all_tables CRL_AT.now 6 crl crl_at
unfolding understood everything index_defined_by
crl_at_defined = record { plain = (refl, refl); is = refl; whole = refl; there = refl; defined = refl }

pub standing_due_defined : DefinesIndex (indexed all_tables crl crl_at) STANDING_DUE.now 7 standing standing_due
unfolding understood everything index_defined_by
standing_due_defined = record { plain = (refl, refl); is = refl; whole = refl; there = refl; defined = refl }
