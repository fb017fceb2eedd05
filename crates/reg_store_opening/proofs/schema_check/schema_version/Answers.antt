use Rattle.std.proofs.Common.{◌≡◌, ◌↔◌, Option, None, Some, subst}
use Rattle.sqlite_schema.specs.declared.schema.Schema.{Schema}
use Rattle.reg_store_tables.proofs.PublicLaws.{params-ok_then as ok_then}
use Rattle.reg_store_opening.specs.Versions.{version_schema}
use Rattle.reg_store_opening.specs.declared.versions.Version.{Version}
use Rattle.reg_store_migration.specs.declared.version.OlderVersion.TheVariants.{First, Second}
use Rattle.reg_store_opening.specs.VersionAndOffice.{SchemaHasVersion, version_or_current}
use Rattle.reg_store_opening.proofs.schema_check.schema_version.Goals as goal

each_version : (schema : Schema) (tables : Option Version) → ((version : Version) → (tables ≡ Some version) ↔ (schema ≡ version_schema version)) → SchemaHasVersion tables schema
each_version schema tables is None = is (version_or_current None)
each_version schema tables is (Some First) = is (version_or_current (Some First))
each_version schema tables is (Some Second) = is (version_or_current (Some Second))

pub returns-clause-tables : goal.returns-clause-tables
returns-clause-tables g c =
    ok_then _ _ c.version_of.result (λ tables decided. subst (SchemaHasVersion tables) c.schema.ensures.value (each_version c.schema.result.now tables decided))
    c.version_of.ensures
