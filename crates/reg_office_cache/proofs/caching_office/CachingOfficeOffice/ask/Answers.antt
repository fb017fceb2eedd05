use Rattle.std.proofs.Common.{sym, subst}
use Rattle.reg_core.specs.declared.command.Query.{Query}
use Rattle.reg_office_api.specs.CallSteps.{QueryStep}
use Rattle.reg_office_cache.proofs.CachedCalls.{leaves}
use Rattle.reg_office_cache.specs.Caching.{CachingLeads}
use Rattle.reg_office_cache.proofs.caching_office.CachingOfficeOffice.ask.Goals as goal

pub returns-in-Overdue-clause-asks : goal.returns-in-Overdue-clause-asks
returns-in-Overdue-clause-asks g c =
    subst (λ (query : Query). CachingLeads g.C.Store g.S.Signer (QueryStep c.args.now query c.ask_overdue.result) c.args.self.now c.ask_overdue.new.self)
    (sym c.in-Overdue.is) c.ask_overdue.ensures.asks

pub returns-in_default-clause-asks : goal.returns-in_default-clause-asks
returns-in_default-clause-asks g c =
    leaves g.C.Store g.S.Signer c.args.self.now.office c.ask.new.self c.args.self.now.undecided
    (QueryStep c.args.now c.args.query.now c.ask.result) (λ signers before after made. made.1) c.ask.ensures.asks
