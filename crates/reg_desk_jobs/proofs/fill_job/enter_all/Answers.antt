use Rattle.std.proofs.Common.{◌≡◌, Ok}
use Rattle.reg_office_api.proofs.PublicLaws.{follows}
use Rattle.reg_office_api.specs.Follows.{ArePositionsOf, FollowStep}
use Rattle.reg_desk_service.proofs.PublicLaws.{stays_at_fault}
use Rattle.reg_desk_jobs.specs.FollowJobs.{EntersFeed}
use Rattle.reg_desk_jobs.proofs.FollowRuns.{look_keeps, look_then}
use Rattle.reg_desk_jobs.proofs.fill_job.enter_all.Goals as goal

pub returns-in-Err : goal.returns-in-Err
returns-in-Err g c = λ forms. look_keeps g.M.Office.Office.is_clean g.M.Office.Office.stands _ _ _ c.positions.ensures.looks

pub returns-in-Ok-follow : goal.returns-in-Ok-follow
returns-in-Ok-follow g c = λ forms.
    let own = c.in-Ok.positions in
    let reached = c.in-Ok-follow.field-0 in
    follows g.M.Office.Office.is_clean g.M.Office.Office.stands
    (λ signers before after. ArePositionsOf before own × FollowStep own c.args.pages.now (Ok reached) before after)
    (λ signers before after. EntersFeed c.args.pages.now (Ok tt) before after)
    (λ signers before after both. (own, reached, both.0, both.1))
    _
    _
    (look_then g.M.Office.Office.is_clean g.M.Office.Office.stands (λ records. ArePositionsOf records own) (FollowStep own c.args.pages.now (Ok reached)) _ _ _
    c.in-Ok.ensures.looks (c.in-Ok-follow.ensures forms))

pub returns-in-Err-Broken : goal.returns-in-Err-Broken
returns-in-Err-Broken g c = λ forms.
    follows g.M.Office.Office.is_clean g.M.Office.Office.stands _ (λ signers before after. after ≡ before)
    (λ signers before after both. stays_at_fault _ _ _ before after both.1) _ _
    (look_then g.M.Office.Office.is_clean g.M.Office.Office.stands _ _ _ _ _ c.positions.ensures.looks (c.in-Err-Broken.ensures forms))

pub returns-in-Err-Memory : goal.returns-in-Err-Memory
returns-in-Err-Memory g c = λ forms.
    follows g.M.Office.Office.is_clean g.M.Office.Office.stands _ (λ signers before after. after ≡ before)
    (λ signers before after both. stays_at_fault _ _ _ before after both.1) _ _
    (look_then g.M.Office.Office.is_clean g.M.Office.Office.stands _ _ _ _ _ c.positions.ensures.looks (c.in-Err-Memory.ensures forms))

pub returns-in-Err-Store : goal.returns-in-Err-Store
returns-in-Err-Store g c = λ forms.
    follows g.M.Office.Office.is_clean g.M.Office.Office.stands _ (λ signers before after. after ≡ before)
    (λ signers before after both. stays_at_fault _ _ _ before after both.1) _ _
    (look_then g.M.Office.Office.is_clean g.M.Office.Office.stands _ _ _ _ _ c.positions.ensures.looks (c.in-Err-Store.ensures forms))
