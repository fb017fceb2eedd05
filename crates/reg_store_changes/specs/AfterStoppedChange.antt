-- The rows in a register's file after a change, which a stop may leave once it was begun.
use Rattle.std.specs.Prelude.{◌≡◌, ◌≤◌, ℕ, List}
use Rattle.sqlite_trees.specs.Tree.{Trees}
use Rattle.sqlite_trees.specs.declared.store.Store.{Ghosts}
use Rattle.sqlite.specs.Held.{Held}
use Rattle.reg_core.specs.declared.change.Change.{Change}
use Rattle.reg_core.specs.Changes.{Fits, changed_by, with_schedule}
use Rattle.reg_core.specs.Issuer.{Issuer}
use Rattle.reg_core.specs.Records.{Records}
use Rattle.reg_core.specs.Sound.{SoundRows}
use Rattle.reg_store_tables.specs.Kept.{ShowsKept}
use Rattle.reg_der.specs.Issuers.{with_issuer}
use Rattle.reg_store_tables.specs.AfterStop.{ShowsDerivedAfterStop}

-- Let the tables show sound records that the change fits, at a moment not before the last accepted one. Then the rows show the changed
-- records, with derived tables that match them.
abbrev pub IsChanged : {S : Type 0} → Ghosts S → Held S → ℕ → Change → Trees → Type 0
IsChanged g old now change trees =
    (records : Records) → ShowsKept g old records → SoundRows records → records.last ≤ now
    → Fits records now change → ShowsDerivedAfterStop (changed_by records now change) trees

-- if the tables showed records, the rows show these with the new schedule, with derived tables that match them
abbrev pub IsScheduled : {S : Type 0} → Ghosts S → Held S → List (ℕ × ℕ) → Trees → Type 0
IsScheduled g old steps trees =
    (records : Records) → ShowsKept g old records → ShowsDerivedAfterStop (with_schedule records steps) trees

-- if the tables showed records with the same key, the rows show these with the new issuer, with derived tables that match them
abbrev pub IsIssuerSet : {S : Type 0} → Ghosts S → Held S → Issuer → Trees → Type 0
IsIssuerSet g old issuer trees =
    (records : Records) → ShowsKept g old records → records.issuer.key ≡ issuer.key
    → ShowsDerivedAfterStop (with_issuer records issuer) trees
