use Rattle.std.proofs.Common.{subst}
use Rattle.sqlite.specs.Files.{file_state}
use Rattle.sqlite.specs.Start.{FindsIn}
use Rattle.sqlite.proofs.FileLemmas.{same_image}
use Rattle.reg_desk_files.proofs.read_only.open_existing.Goals as goal

pub returns-in-Ok-clause-found : goal.returns-in-Ok-clause-found
returns-in-Ok-clause-found g c clean =
    let found = c.in-Ok.ensures.found clean in
    subst (λ i. FindsIn i (file_state c.in-Ok.connection)) (same_image c.check_has_database.ensures.log c.check_has_database.ensures.db) (record { holds = found.holds; reads = found.reads })

pub returns-in-Ok-clause-begun : goal.returns-in-Ok-clause-begun
returns-in-Ok-clause-begun g c clean = c.in_ok-check_has_database.ensures.begun (c.in-Ok.ensures.found clean).honest
