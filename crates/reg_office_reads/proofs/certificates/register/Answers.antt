use Rattle.std.proofs.Common.{subst, Ok, Err, Some, None, Option}
use Rattle.reg_core.specs.Decisions.{DecidesRegister}
use Rattle.reg_core.specs.declared.rows.CertRow.{CertRow}
use Rattle.reg_store_tables.proofs.PublicLaws.{and_so, by_finding, looked_then, so}
use Rattle.reg_office_reads.proofs.Deciding.{register_to_do}
use Rattle.reg_office_reads.proofs.Looking.{decided_against, decided_for, not_decided}
use Rattle.reg_office_reads.proofs.certificates.register.Goals as goal

pub returns-in_err-head : goal.returns-in_err-head
returns-in_err-head g c = not_decided c.from_residual.result c.in_err-head.field-0.0 c.from_residual.ensures.1 c.head_at.ensures.looked

pub returns-in_err-order : goal.returns-in_err-order
returns-in_err-order g c =
    not_decided c.from_residual-in_err-order.result c.in_err-order.field-0.0 c.from_residual-in_err-order.ensures.1 (looked_then c.head_at.ensures.looked c.order.ensures.looked)

pub returns-in_err-by_order : goal.returns-in_err-by_order
returns-in_err-by_order g c =
    not_decided c.from_residual-in_err-by_order.result c.in_err-by_order.field-0.0 c.from_residual-in_err-by_order.ensures.1
    (looked_then (looked_then c.head_at.ensures.looked c.order.ensures.looked) c.cert_of_order.ensures.looked)

pub returns-in_err-by_serial : goal.returns-in_err-by_serial
returns-in_err-by_serial g c =
    not_decided c.from_residual-in_err-by_serial.result c.in_err-by_serial.field-0.0 c.from_residual-in_err-by_serial.ensures.1
    (looked_then (looked_then (looked_then c.head_at.ensures.looked c.order.ensures.looked) c.cert_of_order.ensures.looked) c.cert.ensures.looked)

pub returns-in_err-row : goal.returns-in_err-row
returns-in_err-row g c =
    decided_against c.from_residual-in_err-row.result c.in_err-row.field-0.0 c.from_residual-in_err-row.ensures.1
    (so (and_so (and_so (and_so c.in_ok-head.ensures (by_finding c.in_ok-order.ensures))
    (by_finding c.in_ok-by_order.ensures)) (by_finding c.in_ok-by_serial.ensures))
    (λ records sound it. register_to_do records c.args.now c.in_ok-head.head c.args.wanted c.in_ok-order.order c.in_ok-by_order.by_order c.in_ok-by_serial.by_serial (Err c.in_err-row.field-0.0)
    sound it.0.0.0 it.0.0.1 it.0.1 it.1 c.in_err-row.ensures))

pub returns-in-Some : goal.returns-in-Some
returns-in-Some g c =
    let decides = subst (λ (o : Option CertRow). DecidesRegister c.in_ok-head.head c.args.wanted c.in_ok-order.order c.in_ok-by_order.by_order c.in_ok-by_serial.by_serial (Ok o)) c.in-Some.is c.in_ok-row.ensures in
    decided_for _
    (so (and_so (and_so (and_so c.in_ok-head.ensures (by_finding c.in_ok-order.ensures))
    (by_finding c.in_ok-by_order.ensures)) (by_finding c.in_ok-by_serial.ensures))
    (λ records sound it. register_to_do records c.args.now c.in_ok-head.head c.args.wanted c.in_ok-order.order c.in_ok-by_order.by_order c.in_ok-by_serial.by_serial (Ok (Some c.in-Some.row))
    sound it.0.0.0 it.0.0.1 it.0.1 it.1 decides))

pub returns-in-None : goal.returns-in-None
returns-in-None g c =
    let decides = subst (λ (o : Option CertRow). DecidesRegister c.in_ok-head.head c.args.wanted c.in_ok-order.order c.in_ok-by_order.by_order c.in_ok-by_serial.by_serial (Ok o)) c.in-None.is c.in_ok-row.ensures in
    decided_for _
    (so (and_so (and_so (and_so c.in_ok-head.ensures (by_finding c.in_ok-order.ensures))
    (by_finding c.in_ok-by_order.ensures)) (by_finding c.in_ok-by_serial.ensures))
    (λ records sound it. register_to_do records c.args.now c.in_ok-head.head c.args.wanted c.in_ok-order.order c.in_ok-by_order.by_order c.in_ok-by_serial.by_serial (Ok None)
    sound it.0.0.0 it.0.0.1 it.0.1 it.1 decides))
