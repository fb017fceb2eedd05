use Rattle.reg_core.proofs.PublicLaws as laws
use Rattle.reg_core.proofs.laws.serials_in_order.Goals as goal

pub returns-clause-order : goal.returns-clause-order
returns-clause-order c = laws.serials_in_order

pub returns-clause-one : goal.returns-clause-one
returns-clause-one c = laws.one_serial
