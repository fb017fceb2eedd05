use Rattle.std.proofs.Common.{◌≡◌, None}
use Rattle.std.specs.Prelude.{IfOk}
use Rattle.reg_core.specs.Due.{overdue, overdue_report}
use Rattle.reg_core.specs.declared.command.Query.TheVariants.{Overdue as AskOverdue}
use Rattle.reg_office_api.specs.CallSteps.{QueryStep}
use Rattle.reg_office_cache.proofs.CachedCalls.{looks_then, overdue_answered}
use Rattle.reg_office_reads.specs.Looking.{clock_refusal}
use Rattle.reg_office_cache.proofs.caching_office.CachingOffice.ask_overdue.Goals as goal

pub returns-in-Ok-clause-asks : goal.returns-in-Ok-clause-asks
returns-in-Ok-clause-asks g c = (
  c.in-Ok.ensures.0,
  (λ signers before stood clean.
      let (after, found, stands) = c.in-Ok.ensures.1 signers before stood clean in
      (after, (overdue_answered before c.args.now c.in-Ok.report found.0.0 found.0.1, found.1), stands)),
)

pub returns-in-Err-clause-asks : goal.returns-in-Err-clause-asks
returns-in-Err-clause-asks g c =
    looks_then g.C.Store g.S.Signer c.args.self.now.office c.overdue.new.self.office c.ask.new.self c.args.self.now.undecided c.overdue.new.self.undecided
    (λ records. IfOk c.overdue.result (λ report. (clock_refusal records c.args.now ≡ None) × (report ≡ overdue_report (overdue records c.args.now))))
    (QueryStep c.args.now AskOverdue c.ask.result)
    c.overdue.ensures (λ signers before after made. made.1) c.ask.ensures.asks
