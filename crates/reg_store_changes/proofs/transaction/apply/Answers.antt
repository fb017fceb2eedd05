use Rattle.std.proofs.Common.{refl}
use Rattle.reg_store_changes.proofs.Transactions.{change_made, not_begun_change}
use Rattle.reg_store_changes.proofs.transaction.apply.Goals as goal

pub returns : goal.returns
returns g c = change_made c.enter-made.result c.in_ok-begin.ensures c.enter-made.ensures.stepped c.enter-made.ensures.made c.end.ensures

pub returns-in_err-begin : goal.returns-in_err-begin
returns-in_err-begin g c = not_begun_change _ c.from_residual.ensures.0 c.in_err-begin.ensures
