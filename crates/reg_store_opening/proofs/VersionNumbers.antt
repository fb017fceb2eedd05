-- Which version's a schema is.
use Rattle.std.proofs.Common.{◌≡◌, ◌↔◌, ◌==◌, ℕ, if◌then◌else◌, Option, Some, length, refl, sym, ap, ◌∙◌}
use Rattle.sqlite_schema.specs.declared.schema.Schema.{Schema}
use Rattle.reg_store_tables.specs.Schema.{register_schema}
use Rattle.reg_store_opening.specs.Versions.{version_schema}
use Rattle.reg_store_opening.specs.declared.versions.Version.{Version}
use Rattle.reg_store_opening.specs.declared.versions.Version.TheVariants.{First, Second, Third}

-- a version is known by how many tables it has
abbrev of_tables : ℕ → Version
of_tables n = if n == 7 then First else if n == 10 then Second else Third

of_its_tables : (version : Version) → of_tables (length (version_schema version).tables) ≡ version
unfolding register_schema
of_its_tables First = refl
of_its_tables Second = refl
of_its_tables Third = refl

one_version : (a b : Version) → version_schema a ≡ version_schema b → a ≡ b
one_version a b is = sym (of_its_tables a) ∙ ap (λ (s : Schema). of_tables (length s.tables)) is ∙ of_its_tables b

abbrev some_version : Version → Option Version
some_version version = Some version

same_version : (a b : Version) → some_version a ≡ some_version b → a ≡ b
same_version a b is = cc

pub version_is : (schema : Schema) (at : Version) → schema ≡ version_schema at
    → (version : Version) → (some_version at ≡ Some version) ↔ (schema ≡ version_schema version)
version_is schema at is version =
    (λ same. is ∙ ap version_schema (same_version at version same), λ other. ap some_version (one_version at version (sym is ∙ other)))
