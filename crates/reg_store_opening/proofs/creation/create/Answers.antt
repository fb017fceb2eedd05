use Rattle.std.proofs.Common.{rules}
use Rattle.reg_store_opening.specs.Opens.{IsFailedCreate}
use Rattle.reg_store_opening.proofs.FirstShown.{creates, uncreates}
use Rattle.reg_store_opening.proofs.Unopened.{err_as}
use Rattle.reg_store_opening.proofs.creation.create.Goals as goal

pub returns-clause-creates : goal.returns-clause-creates
returns-clause-creates g c = creates c.in_ok-create_in_transaction.ensures.commits (c.is_empty.ensures.0 (search rules))

pub returns-in_err-create_in_transaction-clause-uncreated : goal.returns-in_err-create_in_transaction-clause-uncreated
returns-in_err-create_in_transaction-clause-uncreated g c =
    let done = c.in_err-create_in_transaction.ensures.commits in
    err_as (IsFailedCreate g.S.Store c.args.conn.now _ c.args.issuer.now c.args.policy.now) _ c.from_residual.result c.from_residual.ensures.1
    (λ fault is. uncreates done (c.is_empty.ensures.0 (search rules)) fault is.1 done.stays)
