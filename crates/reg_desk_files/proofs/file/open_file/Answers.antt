use Rattle.std.proofs.Common.{ap₂, subst}
use Rattle.sqlite.specs.Files.{file_state}
use Rattle.sqlite.specs.Start.{FindsIn}
use Rattle.reg_desk_files.specs.Overlaid.{image}
use Rattle.reg_desk_files.proofs.Finding.{shown}
use Rattle.reg_desk_files.proofs.file.open_file.Goals as goal

pub returns-in-Ok-clause-found : goal.returns-in-Ok-clause-found
returns-in-Ok-clause-found g c clean =
    let (log, db) = c.in_ok-files.ensures.fresh in
    let found = c.in-Ok.ensures.found clean in
    let shows = shown g.S.Start.log g.S.Start.db in
    let same = ap₂ image (ap₂ shows log.0 log.1) (ap₂ shows db.0 db.1) in
    subst (λ i. FindsIn i (file_state c.in-Ok.connection)) same (record { holds = found.holds; reads = found.reads })
