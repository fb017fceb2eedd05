-- What the runs of a follower leave in a file, run after run.
use Rattle.std.proofs.Common.{◌≤◌, ℕ, zero, suc, inl, sym, subst, le_refl, arith}
use Rattle.std.proofs.Math.Logic.{∥∥₁_elim, ∥∥₁_map, ∥∥₁_prop}
use Rattle.sqlite.specs.Files.{over_files}
use Rattle.sqlite.specs.Held.{Held}
use Rattle.sqlite_disk.specs.declared.Disk as disk
use Rattle.sqlite_store.specs.declared.store.FileStore.{FileStore}
use Rattle.reg_core.specs.Records.{Records}
use Rattle.reg_office.specs.Stands.{Stands}
use Rattle.reg_office.proofs.PublicLaws.{stops_keep_following}
use Rattle.reg_office_api.specs.FollowedLeaders.{FollowsLeader, IsLeader}
use Rattle.reg_office_api.specs.Signers.{Signs}
use Rattle.reg_store_tables.specs.Kept.{ShowsKept}
use Rattle.reg_desk_program.specs.FollowedFiles.{AreRunsOverFile, FollowedFile, IsRunOverFile}
use Rattle.reg_desk_program.specs.Stops.{LeavesWhatWasReported}

module _ {D : Type 0} (g : disk.Ghosts D) (signs : Signs) (begins : LeavesWhatWasReported g signs) (follow : FollowsLeader) (leader : ℕ → Records) (is : IsLeader leader) where
  abbrev Led : ℕ → ℕ → FollowedFile g → Type 0
  Led had until again = (at : ℕ) × (had ≤ at) × (at ≤ until) × Stands over_files signs again.0 again.1 (leader at)

  one_run : (had since until : ℕ) (found again : FollowedFile g) → had ≤ since → Stands over_files signs found.0 found.1 (leader had) → IsRunOverFile g signs leader since until found again
      → ∥ Led had until again ∥₁
  one_run had since until found again order stands run =
      let shown = subst (λ (held : Held (FileStore D g)). ShowsKept over_files held (leader had)) (sym run.over) stands.shown in
      let stood = begins.begins run.signing run.first run.opened (leader had) (inl shown) (run.sound (leader had) stands.sound) in
      ∥∥₁_map
      (stops_keep_following over_files signs follow leader had since until run.own run.calls run.first run.last again.0 is order
      (run.own_is (leader had) stood.1 run.kept.honest) stood run.called run.kept run.schema)
      (λ (at, later, most, there). (at, later, most, subst (λ identity. Stands over_files signs again.0 identity (leader at)) (sym run.signer) there))

  later_still : (had at until : ℕ) (again : FollowedFile g) → had ≤ at → Led at until again → Led had until again
  later_still had at until again order (reached, later, most, stands) = (reached, omega (arith, order, later), most, stands)

  all_runs : (runs had since until : ℕ) (found again : FollowedFile g) → had ≤ since → Stands over_files signs found.0 found.1 (leader had) → AreRunsOverFile g signs leader runs since until found again
      → ∥ Led had until again ∥₁
  all_runs zero had since until found again order stands (same, ends) =
      ∣ (had, le_refl had, subst (λ n. had ≤ n) (sym ends) order, subst (λ (it : FollowedFile g). Stands over_files signs it.0 it.1 (leader had)) (sym same) stands) ∣₁
  all_runs (suc runs) had since until found again order stands (middle, next, run, rest) =
      ∥∥₁_elim (one_run had since middle found next order stands run) ∥∥₁_prop
      (λ (at, later, most, there). ∥∥₁_map (all_runs runs at middle until next again most there rest) (later_still had at until again later))

  pub runs_keep_following : (had since until runs : ℕ) (found again : FollowedFile g) → had ≤ since → Stands over_files signs found.0 found.1 (leader had)
      → AreRunsOverFile g signs leader runs since until found again → ∥ Led had until again ∥₁
  runs_keep_following had since until runs found again = all_runs runs had since until found again
