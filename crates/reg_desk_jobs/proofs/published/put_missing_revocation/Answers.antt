use Rattle.reg_desk_jobs.proofs.Comparing.{looked_up}
use Rattle.reg_desk_jobs.proofs.published.put_missing_revocation.Goals as goal

pub returns : goal.returns
returns g c =
    looked_up g.O.Office.is_clean g.O.Office.stands c.args.last c.args.lines.now.items _ _ c.put_unless_revoked.new.lines.items c.args.serial
    c.in_ok-revoked.revoked c.put_unless_revoked.result c.in_ok-revoked.ensures c.put_unless_revoked.ensures
