use Rattle.reg_store_tables.proofs.PublicLaws.{and_so, by_finding, looked_then, so}
use Rattle.reg_office_reads.proofs.QueryLemmas.{clock_refuses, passes}
use Rattle.reg_office_reads.proofs.Looking.{decided_against, decided_for, not_decided}
use Rattle.reg_office_reads.proofs.pages.page.Goals as goal

pub returns-in_err-last : goal.returns-in_err-last
returns-in_err-last g c = not_decided c.from_residual.result c.in_err-last.field-0.0 c.from_residual.ensures.1 c.last.ensures.looked

pub returns-in_err-clock : goal.returns-in_err-clock
returns-in_err-clock g c =
    decided_against c.from_residual-in_err-clock.result c.in_err-clock.field-0.0 c.from_residual-in_err-clock.ensures.1
    (so (by_finding c.in_ok-last.ensures)
    (λ records sound it. clock_refuses c.args.now c.in_ok-last.last records.last c.in_err-clock.field-0.0 it c.in_err-clock.ensures))

pub returns-in_err-page_of : goal.returns-in_err-page_of
returns-in_err-page_of g c =
    not_decided c.from_residual-in_err-page_of.result c.in_err-page_of.field-0.0 c.from_residual-in_err-page_of.ensures.1 (looked_then c.last.ensures.looked c.page_of.ensures.looked)

pub returns : goal.returns
returns g c =
    decided_for _
    (and_so
    (so (by_finding c.in_ok-last.ensures) (λ records sound it. passes c.args.now c.in_ok-last.last records.last c.in_ok-clock.field-0 it c.in_ok-clock.ensures))
    c.in_ok-page_of.ensures)
