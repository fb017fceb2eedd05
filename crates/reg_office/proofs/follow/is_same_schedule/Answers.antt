use Rattle.std.proofs.Common.{sym, ◌∙◌}
use Rattle.reg_office.proofs.FollowLookUps.{same_schedules}
use Rattle.reg_office.proofs.follow.is_same_schedule.Goals as goal

pub returns : goal.returns
returns c =
    let decided = same_schedules c.args.own.now c.args.given.now in
    ((λ is. decided.0 (sym c.eq.ensures ∙ is)), (λ same. c.eq.ensures ∙ decided.1 same))
