-- The days of the office stay where nothing is written.
use Rattle.std.proofs.Common.{◌≡◌, ◌≤◌}
use Rattle.sqlite_trees.specs.View.{doubt}
use Rattle.sqlite_trees.specs.declared.store.Store.{Ghosts}
use Rattle.sqlite.specs.Held.{Held, state}
use Rattle.reg_store_tables.specs.DerivedRows.{office_days}
use Rattle.reg_store_tables.specs.Rows.{number}
use Rattle.reg_store_tables.specs.Shows.{KeepsOfficeDays}
use Rattle.reg_store_tables.specs.Stays.{Stays}
use Rattle.reg_store_tables.proofs.Staying.{stays_holds}

-- a look-up leaves them
pub stays_days : {S : Type 0} (g : Ghosts S) (old new : Held S) → doubt (state g old).is_clean ≤ doubt (state g new).is_clean → Stays (state g old) (state g new) → KeepsOfficeDays g old new
stays_days g old new forgets stays days = stays_holds g old new (λ db. office_days (db.trees 0) ≡ number days) forgets stays
