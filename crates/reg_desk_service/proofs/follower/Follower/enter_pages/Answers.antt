use Rattle.reg_desk_service.proofs.Following.{expects_then}
use Rattle.reg_desk_service.proofs.follower.Follower.enter_pages.Goals as goal

pub returns : goal.returns
returns g c = λ forms. expects_then g.M.Office.Office _ _ _ _ c.expect_crls_of.ensures (rw c.deref-2.ensures.value at c.follow.ensures forms)
