-- What a disk has once it stopped is one of the outcomes that the files had, and the open finds what that recovers to.
use Rattle.std.proofs.Common.{◌≡◌, false, Result, Ok, Err, IfOk, IsTrue, sym, subst, ◌∙◌, arith}
use Rattle.std.proofs.lemmas.Bool.{and_from, and_parts}
use Rattle.std.proofs.Math.Logic.{∥∥₁_map}
use Rattle.sqlite_disk.specs.declared.Files.{Files}
use Rattle.sqlite_wal.specs.Files.{outcomes}
use Rattle.sqlite_wal.specs.Reads.{AreClean}
use Rattle.sqlite_wal.specs.Recovery.{Image}
use Rattle.sqlite_pool.proofs.StateLemmas.{clean_is, may_leave_is}
use Rattle.sqlite_trees.proofs.Doubt.{no_doubt}
use Rattle.sqlite_trees.specs.View.{IsClean}
use Rattle.sqlite_store.specs.FileStore.{view}
use Rattle.sqlite.specs.Files.{file_state, image_of, over_files, Finds, IsOpened}
use Rattle.sqlite.specs.Held.{IsNew}
use Rattle.sqlite.specs.State.{HasCleanDisk}
use Rattle.sqlite.proofs.Theorems.{next_run}
use Rattle.reg_store.specs.OpenedAgain.{IsOpenedAgain}
use Rattle.reg_desk_files.proofs.machine_stop.restart.Goals as goal

-- what two clauses say of a value that a call gives
ok_from : {A E : Type 0} (P Q R : A → Type 0) (r : Result A E) → ((x : A) → P x → Q x → R x) → IfOk r P → IfOk r Q → IfOk r R
ok_from P Q R (Ok x) leads p q = leads x p q
ok_from P Q R (Err e) leads p q = tt

pub returns-clause-again : goal.returns-clause-again
returns-clause-again g c =
    let d = g.D.Disk in
    let held = c.args.connection in
    let back = c.into_store.result in
    let was = c.close-files.result in
    let now : Files _ = record { log = c.crash.new.self; db = c.crash-2.new.self } in
    let image : Image = image_of d now in
    ok_from (λ again. HasCleanDisk (file_state again) → IsOpened again) (λ again. HasCleanDisk (file_state again) → Finds now again) (λ again. HasCleanDisk (file_state again) → IsOpenedAgain over_files held again) c.open_files.result
    (λ again opens finds clean.
    let opened = opens clean in
    let found = finds clean in
    let honest = and_parts (d.is_clean now.log) (d.is_clean now.db) found.honest in
    let before : AreClean d was.log was.db = and_from (d.is_clean was.log) (d.is_clean was.db) (c.crash.ensures.clean honest.0) (c.crash-2.ensures.clean honest.1) in
    let sure = subst (λ p. AreClean d p.0 p.1) c.close-files.ensures before in
    let none : IsClean (view back) = no_doubt _ (clean_is back.pool ∙ sure) in
    let may : outcomes d was.log was.db image = (c.crash.ensures.left, c.crash-2.ensures.left) in
    let left = may_leave_is back.pool image sure (subst (λ p. outcomes d p.0 p.1 image) c.close-files.ensures may) in
    let next = next_run back (c.into_store.ensures.numbered none) (c.into_store.ensures.sound none) image left (file_state again) (record { holds = found.holds; reads = found.reads }) in
    record {
      honest = omega (arith, c.into_store.ensures.quiet.clean, none);
      opens = opened.0;
      live = opened.1;
      found = ∥∥₁_map next (λ r. c.into_store.ensures.quiet.outcomes (file_state again).committed.trees r);
    }) c.open_files.ensures.opened c.open_files.ensures.found

pub returns-clause-idle : goal.returns-clause-idle
returns-clause-idle g c =
    ok_from (λ again. IsNew again) (λ again. IsNew again) (λ again. again.in_transaction ≡ false) c.open_files.result (λ again fresh also. fresh.autocommit) c.open_files.ensures.fresh c.open_files.ensures.fresh
