use Rattle.reg_desk_service.proofs.Following.{keeps_at_fault, reaches_of}
use Rattle.reg_desk_service.proofs.follower.Follower.enter.Goals as goal

pub returns-in-Ok-clause-ok : goal.returns-in-Ok-clause-ok
returns-in-Ok-clause-ok g c =
    reaches_of g.M.Office.Office c.args.self.now _ c.in-Ok.positions _ c.enter_pages.result _ _ c.requires.ends c.requires.steps
    c.keep_reached.ensures.schedule c.in-Ok.is c.enter_pages.ensures c.keep_reached.ensures.own c.keep_reached.ensures.lag
    c.keep_reached.ensures.asked_at c.keep_reached.ensures.reached_at

pub returns-in-Err-clause-kept : goal.returns-in-Err-clause-kept
returns-in-Err-clause-kept g c = keeps_at_fault g.M.Office.Office _ _ c.enter_pages.result c.in-Err.fault _ _ c.in-Err.is c.enter_pages.ensures
