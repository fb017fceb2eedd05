-- Tables that show records, as they are tested one after another.
use Rattle.std.proofs.Common.{◌≡◌, Option, None, Some, sym, subst}
use Rattle.sqlite.specs.Effect.{Database}
use Rattle.sqlite.specs.State.{State, IsUnchanged}
use Rattle.reg_core.specs.Records.{Records}
use Rattle.reg_store_migration.specs.declared.version.OlderVersion.{OlderVersion}
use Rattle.reg_store_tables.specs.Steps.{WhileOpen}
use Rattle.reg_store_tables.proofs.PublicLaws.{unchanged_before}
use Rattle.reg_store_opening.specs.VersionAndOffice.{IsOfVersion, IsShownAs}
use Rattle.reg_store_opening.proofs.OlderRead.{register_of, older_of}

pub of_version : (version : Option OlderVersion) (db : Database) (records : Records) → IsShownAs version db records → IsOfVersion version db
of_version None db records shown = register_of db records shown
of_version (Some version) db records shown = older_of version db records shown

-- they are shown as what was told, after what changes nothing
pub shown_next : (old new : State) (stored version : Option OlderVersion) (records : Records) → IsUnchanged old new → stored ≡ version → WhileOpen old (λ db. IsShownAs version db records)
    → WhileOpen new (λ db. IsShownAs stored db records)
shown_next old new stored version records same is before up =
    subst (λ v. IsShownAs v new.now records) (sym is) (unchanged_before old new (λ db. IsShownAs version db records) same before up)
