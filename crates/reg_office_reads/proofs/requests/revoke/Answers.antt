use Rattle.std.proofs.Common.{Ok, Err}
use Rattle.reg_store_tables.proofs.PublicLaws.{and_so, looked_then, so}
use Rattle.reg_store_tables.specs.declared.fault.DatabaseFault.TheVariants.{Store}
use Rattle.reg_office_reads.proofs.Deciding.{revoke_to_do}
use Rattle.reg_office_reads.proofs.Facts.{found_of}
use Rattle.reg_office_reads.proofs.Looking.{decided_against, decided_for, not_decided}
use Rattle.reg_office_reads.proofs.requests.revoke.Goals as goal

pub returns-in_err-head : goal.returns-in_err-head
returns-in_err-head g c = not_decided c.from_residual.result c.in_err-head.field-0.0 c.from_residual.ensures.1 c.clock_head.ensures.looked

pub returns-in_err-found : goal.returns-in_err-found
returns-in_err-found g c =
    not_decided c.from_residual-in_err-found.result c.in_err-found.field-0.0 c.from_residual-in_err-found.ensures.1
    (looked_then c.clock_head.ensures.looked c.case_of.ensures.looked)

pub returns-in_err-latest : goal.returns-in_err-latest
returns-in_err-latest g c =
    not_decided c.from_residual-in_err-latest.result c.in_err-latest.field-0.0 c.from_residual-in_err-latest.ensures.1
    (looked_then (looked_then c.clock_head.ensures.looked c.case_of.ensures.looked) c.latest_crl.ensures.looks.looked)

pub returns-in_err-row : goal.returns-in_err-row
returns-in_err-row g c =
    decided_against c.from_residual-in_err-row.result c.in_err-row.field-0.0 c.from_residual-in_err-row.ensures.1
    (so (and_so (and_so c.in_ok-head.ensures c.in_ok-found.ensures) c.in_ok-latest.ensures.looks)
    (λ records sound it. revoke_to_do records c.args.now c.in_ok-head.head c.args.id c.in_ok-found.found.request c.in_ok-found.found.certificate
    c.in_ok-found.found.revocation c.in_ok-latest.latest (Err c.in_err-row.field-0.0) sound it.0.0.0 it.0.0.1 it.0.1.request it.0.1.certificate it.0.1.revocation it.1 c.in_err-row.ensures))

pub returns-in_err-not_after : goal.returns-in_err-not_after
returns-in_err-not_after g c =
    not_decided c.from_residual-in_err-not_after.result c.in_err-not_after.field-0.0 c.from_residual-in_err-not_after.ensures.1
    (looked_then (looked_then c.clock_head.ensures.looked c.case_of.ensures.looked) c.latest_crl.ensures.looks.looked)

pub returns : goal.returns
returns g c =
    let certificate = c.in_ok-not_after.field-0 in
    decided_for _
    (so (and_so (and_so c.in_ok-head.ensures c.in_ok-found.ensures) c.in_ok-latest.ensures.looks)
    (λ records sound it. revoke_to_do records c.args.now c.in_ok-head.head c.args.id c.in_ok-found.found.request c.in_ok-found.found.certificate
    c.in_ok-found.found.revocation c.in_ok-latest.latest (Ok (c.in_ok-row.row, c.in_ok-row.late)) sound it.0.0.0 it.0.0.1 it.0.1.request it.0.1.certificate it.0.1.revocation it.1 c.in_ok-row.ensures
    certificate (found_of c.in_ok-found.found.certificate Store certificate c.in_ok-not_after.ensures.value)))
