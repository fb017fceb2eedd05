use Rattle.std.proofs.Common.{ℕ, ◌+◌, is_some, ap, ◌∙◌}
use Rattle.reg_office_reads.proofs.QueryLemmas.{clock_refuses, passes}
use Rattle.reg_office_reads.proofs.Beginning.{refused_by_clock}
use Rattle.reg_store_tables.proofs.PublicLaws.{by_finding, so}
use Rattle.reg_office_reads.proofs.ocsp_answer.issuer_and_next_update.Goals as goal

pub returns-in_err-clock : goal.returns-in_err-clock
returns-in_err-clock g c =
    so (by_finding c.in_ok-last.ensures.finds) (λ records sound it.
    refused_by_clock records c.args.now c.from_residual-in_err-clock.result c.from_residual-in_err-clock.ensures.1
    (ap is_some (clock_refuses c.args.now c.in_ok-last.last records.last c.in_err-clock.field-0.0 it.0 c.in_err-clock.ensures)))

pub returns : goal.returns
returns g c =
    so (by_finding c.in_ok-last.ensures.finds) (λ records sound it. (
      passes c.args.now c.in_ok-last.last records.last c.in_ok-clock.field-0 it.0 c.in_ok-clock.ensures,
      it.1,
      c.plus.ensures ∙ ap (λ (n : ℕ). c.args.now + n) it.2,
    ))
