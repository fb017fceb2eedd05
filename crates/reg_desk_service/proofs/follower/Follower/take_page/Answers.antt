use Rattle.std.proofs.Common.{refl}
use Rattle.reg_desk_service.proofs.Following.{keeps_none, last_steps, on_err, on_ok, progress_then, takes_if, takes_none}
use Rattle.reg_desk_service.proofs.follower.Follower.take_page.Goals as goal

pub returns-in-Err-clause-kept : goal.returns-in-Err-clause-kept
returns-in-Err-clause-kept g c = keeps_none g.M.Office.Office _ _ refl

pub returns-in_err-keep_page-clause-kept : goal.returns-in_err-keep_page-clause-kept
returns-in_err-keep_page-clause-kept g c = on_err c.from_residual.result (keeps_none g.M.Office.Office _ _ refl)

pub returns-then-not-ends-clause-ok : goal.returns-then-not-ends-clause-ok
returns-then-not-ends-clause-ok g c =
    on_ok c.check_room.result (takes_none g.M.Office.Office _ _ _ _ (progress_then _ _ _ c.keep_page.ensures.kept c.check_room.ensures.kept) refl)

pub returns-then-not-ends-clause-kept : goal.returns-then-not-ends-clause-kept
returns-then-not-ends-clause-kept g c = on_err c.check_room.result (keeps_none g.M.Office.Office _ _ refl)

pub enter-requires-clause-steps : goal.enter-requires-clause-steps
enter-requires-clause-steps g c = last_steps _ _ _ c.args.body.now _ c.in_ok-keep_page.ensures.pages c.in-Ok.ensures.text c.in-Ok-schedule_in.ensures

pub returns-in-Ok-schedule_in-clause-ok : goal.returns-in-Ok-schedule_in-clause-ok
returns-in-Ok-schedule_in-clause-ok g c = takes_if g.M.Office.Office c.enter.result _ _ _ _ _ c.keep_page.ensures.kept c.enter.ensures.ok

pub returns-in-Err-schedule_in-clause-kept : goal.returns-in-Err-schedule_in-clause-kept
returns-in-Err-schedule_in-clause-kept g c = keeps_none g.M.Office.Office _ _ refl
