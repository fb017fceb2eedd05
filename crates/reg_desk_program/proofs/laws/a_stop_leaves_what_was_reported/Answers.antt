-- What the opening left is what the connection showed, and what stands says what a stop leaves.
use Rattle.std.proofs.Common.{◌≡◌, ◌⊎◌, inl, inr, refl, subst, sym}
use Rattle.std.proofs.Math.Logic.{∥∥₁_map}
use Rattle.sqlite.specs.Files.{file_state, image_of, over_files, HoldsDatabase}
use Rattle.sqlite.specs.Held.{Held}
use Rattle.sqlite_disk.specs.declared.Disk as disk
use Rattle.sqlite_store.specs.declared.store.FileStore.{FileStore}
use Rattle.sqlite_wal.specs.Files.{outcomes}
use Rattle.reg_office.proofs.PublicLaws.{one_of_them, only_itself, opens_again}
use Rattle.reg_store.proofs.PublicLaws.{keeps_again}
use Rattle.reg_desk_program.specs.Stops.{IsReopened}
use Rattle.reg_desk_program.proofs.laws.a_stop_leaves_what_was_reported.Goals as goal

-- what is opened has the rows of the last commit
last_commit : {D : Type 0} {g : disk.Ghosts D} (held again : Held (FileStore D g)) → IsReopened held again
    → ∥ (file_state again).committed.trees ≡ (file_state held).committed.trees ∥₁
last_commit {g = g} held again reopened = by_stop reopened.kept
  where
    by_stop : (reopened.files ≡ reopened.closed) ⊎ outcomes g reopened.closed.log reopened.closed.db (image_of g reopened.files)
        → ∥ (file_state again).committed.trees ≡ (file_state held).committed.trees ∥₁
    by_stop (inl same) =
        ∥∥₁_map reopened.copied.seen.both
        (λ holds. reopened.found.holds _ (subst (λ files. HoldsDatabase (image_of g files) (file_state held).committed.trees) (sym same) holds))
    by_stop (inr left) = ∥∥₁_map (reopened.copied.left (image_of g reopened.files) left).both (λ holds. reopened.found.holds _ holds)

pub returns : goal.returns
returns g c = record {
  begins = λ signing office opened records showed sound. (
    refl,
    record { shown = opened.opens.shows records showed; sound = sound },
    record {
      closed = λ clean. tt;
      leaves = λ clean trees may register. inl (opened.opens.leaves opened.connects.whole records showed clean trees may);
    },
  );
  call = only_itself over_files g.S.Signer.signs;
  calls = one_of_them over_files g.S.Signer.signs;
  leaves = λ office signers records interrupted stands.
      opens_again over_files g.S.Signer.signs office.0 signers.crls records interrupted stands.1.sound stands.2;
  closes = λ office signers records again stands live reopened.
      ∥∥₁_map (last_commit office.0 again reopened) (λ same. record {
        shown = keeps_again over_files again reopened.opened.0 reopened.opened.1 office.0 reopened.copied.was_open live same records reopened.copied.was_clean stands.1.1.shown;
        sound = stands.1.1.sound;
      });
}
