use Rattle.reg_desk_program.proofs.Expecting.{expects_still}
use Rattle.reg_desk_program.proofs.crl_signer.expect_algorithm.Goals as goal

pub returns-else-may_be_replaced : goal.returns-else-may_be_replaced
returns-else-may_be_replaced g c = expects_still g.C.Store _ _ _
