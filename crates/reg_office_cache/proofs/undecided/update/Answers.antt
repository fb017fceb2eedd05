use Rattle.std.proofs.Common.{◌∙◌}
use Rattle.reg_store_tables.proofs.PublicLaws.{and_so, so}
use Rattle.reg_office_cache.specs.Undecided.{AreAllUndecided}
use Rattle.reg_office_cache.proofs.UndecidedRows.{on_ok_then}
use Rattle.reg_office_cache.proofs.undecided.update.Goals as goal

pub returns : goal.returns
returns g c =
    so (and_so c.in_ok-read_revocations.ensures c.read_requests.ensures)
    (λ records sound it are.
    let (then, all) = it.0 are in
    let (now, same, reached) = it.1 then all in
    (now, on_ok_then _ (AreAllUndecided records c.read_requests.new.known) c.read_requests.result reached (λ is. record { are = now; requests = is; revocations = same ∙ all })))
