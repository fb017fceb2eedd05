-- The schema of a register of each version.
use Rattle.sqlite_schema.specs.declared.schema.Schema.{Schema}
use Rattle.reg_store_tables.specs.Schema.{record_tables, with_derived_tables, register_schema}
use Rattle.reg_store_opening.specs.declared.versions.Version.{Version}
use Rattle.reg_store_opening.specs.declared.versions.Version.TheVariants.{First, Second, Third}

abbrev pub version_schema : Version → Schema
version_schema First = record_tables
version_schema Second = with_derived_tables
version_schema Third = register_schema
