use Rattle.std.proofs.Common.{◌≡◌, ◌+◌, ℕ, ap, ◌∙◌, Ok, Err}
use Rattle.reg_core.specs.declared.rows.Head.{Head}
use Rattle.reg_core_laws.proofs.PublicLaws.{crl_decided}
use Rattle.reg_store_tables.proofs.PublicLaws.{and_so, looked_then, so}
use Rattle.reg_office_reads.proofs.PublicLaws.{unsigned}
use Rattle.reg_office_reads.proofs.PublicLaws.{decided_against, decided_for, not_decided}
use Rattle.reg_office.proofs.crls.next_row.Goals as goal

pub returns-in_err-head : goal.returns-in_err-head
returns-in_err-head g c = not_decided c.from_residual.result c.in_err-head.field-0.0 c.from_residual.ensures.1 c.head_at.ensures.looked

pub returns-in_err-latest : goal.returns-in_err-latest
returns-in_err-latest g c =
    not_decided c.from_residual-in_err-latest.result c.in_err-latest.field-0.0 c.from_residual-in_err-latest.ensures.1 (looked_then c.head_at.ensures.looked c.latest_crl.ensures.looks.looked)

pub returns-in_err-row : goal.returns-in_err-row
returns-in_err-row g c =
    decided_against c.from_residual-in_err-row.result c.in_err-row.field-0.0 c.from_residual-in_err-row.ensures.1
    (so (and_so c.in_ok-head.ensures c.in_ok-latest.ensures.looks)
    (λ records sound it. (crl_decided unsigned records c.args.now c.in_ok-head.head c.in_ok-latest.latest (Err c.in_err-row.field-0.0) it.0 it.1 c.in_err-row.ensures).refused_by))

pub returns : goal.returns
returns g c =
    decided_for _
    (so (and_so c.in_ok-head.ensures c.in_ok-latest.ensures.looks)
    (λ records sound it.
    let says = crl_decided unsigned records c.args.now c.in_ok-head.head c.in_ok-latest.latest (Ok c.in_ok-row.row) it.0 it.1 c.in_ok-row.ensures in
    let life : c.crl_life.result ≡ records.policy.crl_life = c.crl_life.ensures.seconds ∙ ap (λ (h : Head). h.policy.crl_life) it.0 in
    record { accepted = says.accepted; row_is = says.row_is; next_update = c.plus-next_update.ensures ∙ ap (λ (n : ℕ). c.args.now + n) life }))
