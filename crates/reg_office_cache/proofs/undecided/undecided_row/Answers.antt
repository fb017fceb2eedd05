use Rattle.std.proofs.Common.{◌≡◌, ◌∙◌, true, false, sym, rules}
use Rattle.std.specs.Prelude.{is_some}
use Rattle.reg_store_tables.proofs.PublicLaws.{and_so, by_finding, by_none, looked_then, not_found, so}
use Rattle.reg_office_cache.proofs.UndecidedRows.{revoked_row, row_of}
use Rattle.reg_office_cache.proofs.undecided.undecided_row.Goals as goal

pub returns-then-is_some : goal.returns-then-is_some
returns-then-is_some g c =
    let some : is_some c.in_ok-revoked.revoked ≡ true = search rules in
    so (by_finding c.in_ok-revoked.ensures) (λ records sound it. revoked_row records c.args.request c.in_ok-revoked.revoked it some)

pub returns-in_err-certificate : goal.returns-in_err-certificate
returns-in_err-certificate g c =
    not_found _ c.from_residual-in_err-certificate.result c.from_residual-in_err-certificate.ensures.0 (looked_then c.revocation.ensures.looked c.cert.ensures.looked)

pub returns-in-Some : goal.returns-in-Some
returns-in-Some g c =
    let none : is_some c.in_ok-revoked.revoked ≡ false = search rules in
    so (and_so (by_finding c.in_ok-revoked.ensures) (by_finding c.in_ok-certificate.ensures))
    (λ records sound it. row_of records c.args.request c.in_ok-revoked.revoked c.in-Some.certificate it.0 none c.if-request.false (sym it.1 ∙ c.in-Some.is))

pub returns-in-None : goal.returns-in-None
returns-in-None g c = by_none (looked_then c.revocation.ensures.looked c.cert.ensures.looked) (λ records. tt)
