use Rattle.std.proofs.Common.{IfOk, subst}
use Rattle.sqlite.specs.Files.{file_state, IsNothing}
use Rattle.sqlite.specs.Start.{FindsIn}
use Rattle.sqlite.specs.State.{HasCleanDisk}
use Rattle.reg_desk_files.proofs.read_only.open_sources.Goals as goal

pub returns-clause-found : goal.returns-clause-found
returns-clause-found g c =
    subst (λ i. IfOk c.open_existing.result (λ connection. HasCleanDisk (file_state connection) → FindsIn i (file_state connection)))
    c.overlaid-files.ensures.image c.open_existing.ensures.found

pub returns-clause-begun : goal.returns-clause-begun
returns-clause-begun g c =
    subst (λ i. IfOk c.open_existing.result (λ connection. HasCleanDisk (file_state connection) → ¬ IsNothing i))
    c.overlaid-files.ensures.image c.open_existing.ensures.begun
