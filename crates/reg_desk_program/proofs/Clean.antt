-- A register in memory.
use Rattle.std.proofs.Common.{◌≡◌, ◌&&◌, Bool, true, Option, Some, None, refl}
use Rattle.sqlite.specs.Files.{over_files}
use Rattle.sqlite.specs.Held.{Held, state}
use Rattle.sqlite.specs.State.{HasCleanDisk}
use Rattle.sqlite_disk.specs.declared.Disk as disk
use Rattle.sqlite_pool.specs.Pool as pool
use Rattle.sqlite_store.specs.declared.store.FileStore.{FileStore}
use Rattle.sqlite_trees.specs.View.{doubt}
use Rattle.reg_core.specs.Issuer.{Issuer}
use Rattle.reg_core.specs.Policy.{Terms}
use Rattle.reg_core.specs.Records.{no_records}
use Rattle.reg_desk_files.specs.Overlaid.{honest_with}
use Rattle.reg_desk_jobs.specs.Sample.{sample_issuer, sample_records, usual_policy}

-- bytes in memory, and a file that is honest, return what was written
pub honest_always : {F : Type 0} (below : Option F) → honest_with (λ _. true) below ≡ true
honest_always None = refl
honest_always (Some file) = refl

no_doubt : (log db : Bool) → log ≡ true → db ≡ true → doubt (log && db) ≡ 0
unfolding doubt
no_doubt log db log_is db_is = λ i. doubt (log_is i && db_is i)

-- so does a database over two such files
pub always_clean : {D : Type 0} {g : disk.Ghosts D} → ((file : D) → g.is_clean file ≡ true) → (held : Held (FileStore D g)) → HasCleanDisk (state over_files held)
unfolding pool.state
always_clean honest held = no_doubt _ _ (honest _) (honest _)

-- the records of one that was made for the sample's issuer
pub sample_made : (issuer : Issuer) (policy : Terms) → issuer.name ≡ sample_issuer.name → issuer.key ≡ sample_issuer.key → policy ≡ usual_policy
    → no_records issuer policy ≡ sample_records
sample_made issuer policy name key terms = λ i. no_records (record { name = name i; key = key i }) (terms i)
