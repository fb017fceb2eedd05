use Rattle.reg_office.proofs.StoppedFollowers.{stops_keep_following}
use Rattle.reg_office.proofs.laws.a_follower_goes_on_after_a_stop.Goals as goal

pub returns : goal.returns
returns g c = stops_keep_following g.C.Store g.S.Signer.signs c.followers.ensures.one
