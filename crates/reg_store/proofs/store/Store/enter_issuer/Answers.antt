use denote.Param.{param}
use Rattle.std.proofs.Common.{ap, subst, ◌∙◌}
use Rattle.reg_store.specs.contracts.store.Store.{the_view}
use Rattle.reg_store_changes.specs.ChangeSteps.{ReplacesIssuer}
use Rattle.reg_store_changes.specs.WithinTransactions.{MakesRowsWithin}
use Rattle.reg_store.proofs.store.Store.enter_issuer.Goals as goal

-- the store is seen as its connection
pub returns-clause-made : goal.returns-clause-made
returns-clause-made g c =
    subst (λ old. MakesRowsWithin g.S.Store old c.enter_issuer.new.conn c.enter_issuer.result (ReplacesIssuer c.args.issuer.now))
    (ap (λ it. the_view (param 0 g.row.S) g.S.Store it) c.self-inside.view_is ∙ c.self.view_is) c.enter_issuer.ensures.made
