use Rattle.std.proofs.Common.{refl}
use Rattle.reg_store_tables.proofs.PublicLaws.{and_so, by_finding, looked_then, not_found, so}
use Rattle.reg_office_reads.proofs.ListedRows.{order_is}
use Rattle.reg_office_reads.proofs.rows.order_row.Goals as goal

pub returns-in_err-subscriber : goal.returns-in_err-subscriber
returns-in_err-subscriber g c = not_found _ c.from_residual.result c.from_residual.ensures.0 c.subscriber_at.ensures.looked

pub returns-in_err-certificate : goal.returns-in_err-certificate
returns-in_err-certificate g c =
    not_found _ c.from_residual-in_err-certificate.result c.from_residual-in_err-certificate.ensures.0 (looked_then c.subscriber_at.ensures.looked c.cert_of_order.ensures.looked)

pub returns : goal.returns
returns g c =
    so (and_so c.in_ok-subscriber.ensures (by_finding c.in_ok-certificate.ensures))
    (λ records sound it. order_is records c.args.order _ c.in_ok-certificate.certificate refl it.0 c.serial_in-serial.ensures it.1)
