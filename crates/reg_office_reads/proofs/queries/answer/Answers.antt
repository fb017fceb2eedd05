use Rattle.reg_store_tables.proofs.PublicLaws.{by_finding, so}
use Rattle.reg_office_reads.proofs.QueryLemmas.{after_clock, passes, refused_by_clock}
use Rattle.reg_office_reads.proofs.Looking.{decided_against, not_decided}
use Rattle.reg_office_reads.proofs.queries.answer.Goals as goal

pub returns-in_err-last : goal.returns-in_err-last
returns-in_err-last g c = not_decided c.from_residual.result c.in_err-last.field-0.0 c.from_residual.ensures.1 c.last.ensures.looked

pub returns-in_err-clock : goal.returns-in_err-clock
returns-in_err-clock g c =
    decided_against c.from_residual-in_err-clock.result c.in_err-clock.field-0.0 c.from_residual-in_err-clock.ensures.1
    (so (by_finding c.in_ok-last.ensures)
    (λ records sound it. refused_by_clock records c.args.now c.in_ok-last.last c.args.query.now c.in_err-clock.field-0.0 it c.in_err-clock.ensures))

pub returns : goal.returns
returns g c =
    after_clock c.args.now c.args.query.now c.reply_to.result
    (so (by_finding c.in_ok-last.ensures) (λ records sound it. passes c.args.now c.in_ok-last.last records.last c.in_ok-clock.field-0 it c.in_ok-clock.ensures))
    c.reply_to.ensures
