use Rattle.reg_desk_service.proofs.PublicLaws.{then_still}
use Rattle.reg_desk_jobs.proofs.jobs.import_strict_rows.Goals as goal

pub returns : goal.returns
returns g c =
    then_still g.M.Office.Office.is_clean g.M.Office.Office.stands _ _ _ _ c.import_strictly-imported.ensures.ends c.keep_reason.ensures
