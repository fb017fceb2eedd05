use Rattle.std.proofs.Common.{inl, inr, refl}
use Rattle.reg_desk_service.proofs.LineKinds.{err_as}
use Rattle.reg_desk_service.proofs.follow_desk.FollowDeskHandler.work.Goals as goal

pub returns-in_err-millis-clause-works : goal.returns-in_err-millis-clause-works
returns-in_err-millis-clause-works g c = (refl, inl refl)

pub returns-clause-works : goal.returns-clause-works
returns-clause-works g c = (refl, inr (_, c.in_ok-millis.ensures.read, refl, c.work.ensures.follows))

pub returns-clause-fails : goal.returns-clause-fails
returns-clause-fails g c = err_as c.work.result _ _ (λ ends. inr ends) c.work.ensures.ends
