use Rattle.std.proofs.Common.{Ok, Err}
use Rattle.reg_store_tables.proofs.PublicLaws.{and_so, looked_then, so}
use Rattle.reg_office_reads.proofs.Deciding.{decline_to_do}
use Rattle.reg_office_reads.proofs.Looking.{decided_against, decided_for, not_decided}
use Rattle.reg_office_reads.proofs.requests.decline.Goals as goal

pub returns-in_err-head : goal.returns-in_err-head
returns-in_err-head g c = not_decided c.from_residual.result c.in_err-head.field-0.0 c.from_residual.ensures.1 c.clock_head.ensures.looked

pub returns-in_err-found : goal.returns-in_err-found
returns-in_err-found g c =
    not_decided c.from_residual-in_err-found.result c.in_err-found.field-0.0 c.from_residual-in_err-found.ensures.1
    (looked_then c.clock_head.ensures.looked c.case_of.ensures.looked)

pub returns-in_err-row : goal.returns-in_err-row
returns-in_err-row g c =
    decided_against c.from_residual-in_err-row.result c.in_err-row.field-0.0 c.from_residual-in_err-row.ensures.1
    (so (and_so c.in_ok-head.ensures c.in_ok-found.ensures)
    (λ records sound it. decline_to_do records c.args.now c.in_ok-head.head c.args.id c.in_ok-found.found.request c.in_ok-found.found.certificate
    c.in_ok-found.found.revocation (Err c.in_err-row.field-0.0) it.0.0 it.0.1 it.1.request it.1.certificate it.1.revocation c.in_err-row.ensures))

pub returns : goal.returns
returns g c =
    decided_for _
    (so (and_so c.in_ok-head.ensures c.in_ok-found.ensures)
    (λ records sound it. decline_to_do records c.args.now c.in_ok-head.head c.args.id c.in_ok-found.found.request c.in_ok-found.found.certificate
    c.in_ok-found.found.revocation (Ok c.in_ok-row.row) it.0.0 it.0.1 it.1.request it.1.certificate it.1.revocation c.in_ok-row.ensures))
