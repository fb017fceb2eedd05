use Rattle.std.proofs.Common.{refl}
use Rattle.reg_desk_service.proofs.Following.{progress_then, takes_after, takes_none}
use Rattle.reg_desk_service.proofs.follower.Follower.go_on.Goals as goal

pub returns-in-Waiting : goal.returns-in-Waiting
returns-in-Waiting g c = takes_none g.M.Office.Office _ _ _ _ c.advance.ensures refl

pub returns-in-Failed : goal.returns-in-Failed
returns-in-Failed g c = takes_none g.M.Office.Office _ _ _ _ (progress_then _ _ _ c.advance.ensures c.fail.ensures.kept) refl

pub returns-in-Arrived : goal.returns-in-Arrived
returns-in-Arrived g c = takes_after g.M.Office.Office _ _ _ _ _ c.advance.ensures c.receive.ensures
