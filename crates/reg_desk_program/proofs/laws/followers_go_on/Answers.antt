-- By the law of what a stop leaves, run after run.
use Rattle.reg_desk_program.proofs.FollowedFiles.{runs_keep_following}
use Rattle.reg_desk_program.proofs.laws.followers_go_on.Goals as goal

pub returns : goal.returns
returns g c = λ leader had since until runs found again is.
    runs_keep_following g.D.Disk g.S.Signer.signs c.a_stop_leaves_what_was_reported.ensures c.followers.ensures.one leader is had since until runs found again
