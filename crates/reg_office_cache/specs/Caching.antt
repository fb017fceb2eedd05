-- The calls of an office that caches the undecided requests, as steps of its records.
use Rattle.sqlite.specs.Held.{state}
use Rattle.sqlite.specs.State.{HasCleanDisk}
use Rattle.sqlite_trees.specs.declared.store.Store.{Ghosts}
use Rattle.reg_core.specs.Records.{Records}
use Rattle.reg_crl.specs.declared.signer.Signer.{Ghosts as Signer}
use Rattle.reg_office.specs.Calls.{StandsFor, seen}
use Rattle.reg_office_api.specs.Leads.{Leads, Looks}
use Rattle.reg_office_api.specs.Signers.{OfficeSigners}
use Rattle.reg_office_cache.specs.Undecided.{AreUndecided}
use Rattle.reg_office_cache.specs.declared.caching_office.CachingOffice.{CachingOffice}

-- the office has these signers and keeps these records, and the cached requests are undecided ones of them
abbrev pub Caches : {C S : Type 0} → Ghosts C → Signer S → OfficeSigners → CachingOffice C S → Records → Type 0
Caches g signer signers it records =
    StandsFor g signer.signs (seen signer it.office) signers records × AreUndecided records it.undecided

-- a call is this step of the records
abbrev pub CachingLeads : {C S : Type 0} → Ghosts C → Signer S → (OfficeSigners → Records → Records → Type 0)
    → CachingOffice C S → CachingOffice C S → Type 0
CachingLeads {C} {S} g signer step =
    Leads (λ (it : CachingOffice C S). HasCleanDisk (state g it.office.store)) (Caches g signer) step

-- a call leaves the records, and `IsSo` holds of them
abbrev pub CachingLooks : {C S : Type 0} → Ghosts C → Signer S → (Records → Type 0)
    → CachingOffice C S → CachingOffice C S → Type 0
CachingLooks {C} {S} g signer IsSo =
    Looks (λ (it : CachingOffice C S). HasCleanDisk (state g it.office.store)) (Caches g signer) IsSo
