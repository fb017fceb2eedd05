use Rattle.std.proofs.Common.{◌≡◌, ℕ}
use Rattle.reg_store_tables.specs.declared.fault.RowFault.TheVariants.{Memory, At}
use Rattle.reg_audit.proofs.typed.typed.Goals as goal

-- an index is not out of memory
no_place : {row_index : ℕ} → At row_index ≡ Memory → ⊥
no_place clash = cc

pub returns-in-Err-At-clause-has : goal.returns-in-Err-At-clause-has
returns-in-Err-At-clause-has g c shown keyed values are broken = no_place ((rw c.in-Err-At.field-0-is at c.in-Err-At.ensures.has) shown keyed values are)
