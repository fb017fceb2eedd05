-- What is known of tables once their schema was compared with that of each version.
use Rattle.std.proofs.Common.{◌≡◌, ◌≢◌, ◌⊎◌, Option, None, Some, IsTrue, inl, inr, sym, ap, subst, ◌∙◌}
use Rattle.sqlite_schema.specs.declared.schema.Schema.{Schema}
use Rattle.sqlite.specs.Effect.{Database}
use Rattle.sqlite.specs.State.{State, HasCleanDisk}
use Rattle.reg_core.specs.Records.{Records}
use Rattle.reg_store_tables.specs.Schema.{register_schema}
use Rattle.reg_store_tables.specs.Stays.{IsRegister, Stays}
use Rattle.reg_store_opening.specs.declared.versions.Version.{Version}
use Rattle.reg_store_migration.specs.Older.{older_schema}
use Rattle.reg_store_migration.specs.declared.version.OlderVersion.{OlderVersion}
use Rattle.reg_store_opening.specs.Examined.{HasVersionAndOffice, IsFoundOf, found_version}
use Rattle.reg_store_opening.specs.VersionAndOffice.{version_of, schema_of, HasVersion, HasOtherSchema, IsOlder, IsShownAs, SchemaHasVersion, version_or_current}
use Rattle.reg_store_opening.specs.declared.version_check.OlderOffice.{OlderOffice}

has_found : (db : Database) (found : Option OlderOffice) → HasVersionAndOffice db found → HasVersion db (version_of (found_version found))
has_found db None it = it.0
has_found db (Some older) it = it.0

version_found : (version : Option OlderVersion) (records : Records) (found : Option OlderOffice) → IsFoundOf version records found → found_version found ≡ version
version_found None records found is = ap found_version is
version_found (Some version) records None is = absurd is
version_found (Some version) records (Some older) is = ap Some is.0

schema_as : (version : Option OlderVersion) (db : Database) (records : Records) → IsShownAs version db records → db.schema ≡ schema_of version
schema_as None db records shown = shown.schema
schema_as (Some version) db records shown = shown.schema

-- the tables of a database, by what was compared
module _ (db : Database) (tables : Option Version) (is : SchemaHasVersion tables db.schema) (found : Option OlderOffice) where
  pub current_there : tables ≡ Some (version_or_current (found_version found)) → found ≡ None → db.schema ≡ register_schema
  current_there same none = (is (found_version found)).0 same ∙ ap (λ f. schema_of (found_version f)) none

  pub older_there : tables ≡ Some (version_or_current (found_version found)) → (older : OlderOffice) → found ≡ Some older → db.schema ≡ older_schema older.version
  older_there same older some = (is (found_version found)).0 same ∙ ap (λ f. schema_of (found_version f)) some

  pub older_said : tables ≡ Some (version_or_current (found_version found)) → (older : OlderOffice) → found ≡ Some older → HasVersionAndOffice db found → IsOlder db
  older_said same older some says =
      let it = subst (HasVersionAndOffice db) some says in
      (older.version, older_there same older some, it.0, (older.days, older.last, it.1))

  module _ (other : tables ≢ Some (version_or_current (found_version found))) where
    differs : db.schema ≢ schema_of (found_version found)
    differs same = other ((is (found_version found)).1 same)

    pub others_there : HasVersionAndOffice db found → HasOtherSchema db
    others_there it = (found_version found, has_found db found it, differs)

    pub never_shown : (version : Option OlderVersion) (records : Records) → IsFoundOf version records found → IsShownAs version db records → ⊥
    never_shown version records of shown = differs (schema_as version db records shown ∙ ap schema_of (sym (version_found version records found of)))

-- ---- the same schema stands after what changes nothing

either_schema : (old new : State) (schema : Schema) → old.now ≡ old.committed → (new.now ≡ old.now) ⊎ (new.now ≡ old.committed) → old.now.schema ≡ schema → new.now.schema ≡ schema
either_schema old new schema settled (inl same) is = ap (λ (db : Database). db.schema) same ∙ is
either_schema old new schema settled (inr back) is = ap (λ (db : Database). db.schema) (back ∙ sym settled) ∙ is

module _ (old new : State) (stays : Stays old new) (settled : IsTrue old.is_open → old.now ≡ old.committed) where
  pub same_schema : (schema : Schema) → old.now.schema ≡ schema → HasCleanDisk new → IsTrue new.is_open → new.now.schema ≡ schema
  same_schema schema is clean up = either_schema old new schema (settled (stays.was_open clean up)) (stays.now clean up) is

  pub same_register : old.now.schema ≡ register_schema → IsRegister new
  same_register is = record {
    now = same_schema register_schema is;
    committed = λ clean up. ap (λ (db : Database). db.schema) (stays.committed clean up ∙ sym (settled (stays.was_open clean up))) ∙ is;
  }
