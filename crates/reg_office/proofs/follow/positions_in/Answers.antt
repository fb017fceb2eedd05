use Rattle.reg_store_tables.proofs.PublicLaws.{and_so, looked_then, not_found, so}
use Rattle.reg_office.proofs.follow.positions_in.Goals as goal

pub returns-in_err-declines : goal.returns-in_err-declines
returns-in_err-declines g c = not_found _ c.from_residual-in_err-declines.result c.from_residual-in_err-declines.ensures.0 (looked_then c.counts_in.ensures.looked c.all_declines_in.ensures.looked)

pub returns-in_err-digest : goal.returns-in_err-digest
returns-in_err-digest g c =
    not_found _ c.from_residual-in_err-digest.result c.from_residual-in_err-digest.ensures.0
    (looked_then (looked_then c.counts_in.ensures.looked c.all_declines_in.ensures.looked) c.digest_now.ensures.looked)

pub returns : goal.returns
returns g c =
    so (and_so (and_so c.in_ok-counts.ensures c.in_ok-declines.ensures) c.in_ok-digest.ensures)
    (λ records sound it. record { counts = it.0.0; declines = it.0.1; history = it.1 })
