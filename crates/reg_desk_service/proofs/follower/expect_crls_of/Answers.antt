use Rattle.std.proofs.Common.{refl}
use Rattle.reg_desk_service.proofs.Following.{expects_none}
use Rattle.reg_desk_service.proofs.follower.expect_crls_of.Goals as goal

pub returns-in-None : goal.returns-in-None
returns-in-None g c = expects_none g.M.Office.Office _ _ refl
