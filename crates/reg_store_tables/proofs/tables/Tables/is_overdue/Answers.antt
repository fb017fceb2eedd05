use Rattle.std.proofs.Common.{rules}
use Rattle.reg_store_tables.proofs.LookingUp.{passed_on}
use Rattle.reg_store_tables.proofs.tables.Tables.is_overdue.Goals as goal

pub returns-in_err-is_good : goal.returns-in_err-is_good
returns-in_err-is_good g c = passed_on _ _ (search rules) (λ records written exists. exists) c.in_err-is_good.ensures
