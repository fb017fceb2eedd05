use Rattle.std.proofs.Common.{inl, refl}
use Rattle.reg_desk_service.proofs.Following.{progress_then}
use Rattle.reg_desk_service.proofs.follower.Follower.take_body.Goals as goal

pub returns-in-Ok : goal.returns-in-Ok
returns-in-Ok g c = c.in-Ok.ensures.ok

pub returns-in-Err : goal.returns-in-Err
returns-in-Err g c =
    inl (progress_then _ _ _ c.in-Err.ensures.err (progress_then _ _ _ (record { lag = refl; own = refl; schedule = refl; asked_at = refl; reached_at = refl }) c.fail.ensures.kept), c.in-Err.ensures.kept)
