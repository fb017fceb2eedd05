use Rattle.std.proofs.Common.{◌∙◌, ap}
use Rattle.reg_core.specs.Due.{overdue_report}
use Rattle.reg_store_tables.proofs.PublicLaws.{and_so, by_finding, gives_none, so}
use Rattle.reg_office_cache.proofs.UndecidedRows.{overdue_are, passes}
use Rattle.reg_office_cache.proofs.undecided.overdue_by.Goals as goal

pub returns-in_err-update : goal.returns-in_err-update
returns-in_err-update g c =
    so (and_so (by_finding c.in_ok-last.ensures) c.update.ensures)
    (λ records sound it are. let (now, none) = it.1 are in (now, gives_none _ c.from_residual-in_err-update.result c.from_residual-in_err-update.ensures.0))

pub returns : goal.returns
returns g c =
    so (and_so (by_finding c.in_ok-last.ensures) c.in_ok-update.ensures)
    (λ records sound it are.
    let (now, all) = it.1 are in
    let timely = passes records c.args.now c.in_ok-last.last c.in_ok-clock.field-0 it.0 c.in_ok-clock.ensures in
    (now, (timely, c.overdue.ensures ∙ ap overdue_report (overdue_are records c.update.new.known c.args.now all))))
