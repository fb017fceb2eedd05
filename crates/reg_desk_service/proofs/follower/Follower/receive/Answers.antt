use Rattle.std.proofs.Common.{refl}
use Rattle.reg_desk_service.proofs.Following.{progress_then, takes_after, takes_none}
use Rattle.reg_desk_service.proofs.follower.Follower.receive.Goals as goal

pub returns-in_default : goal.returns-in_default
returns-in_default g c = takes_none g.M.Office.Office _ _ _ _ (record { lag = refl; own = refl; schedule = refl; asked_at = refl; reached_at = refl }) refl

pub returns-in-200 : goal.returns-in-200
returns-in-200 g c = takes_after g.M.Office.Office _ _ _ _ _ (record { lag = refl; own = refl; schedule = refl; asked_at = refl; reached_at = refl }) c.take_body.ensures

pub returns-in-409 : goal.returns-in-409
returns-in-409 g c =
    takes_none g.M.Office.Office _ _ _ _ (progress_then _ _ _ (record { lag = refl; own = refl; schedule = refl; asked_at = refl; reached_at = refl }) c.take_conflict.ensures.kept) refl

pub returns : goal.returns
returns g c = takes_none g.M.Office.Office _ _ _ _ (progress_then _ _ _ (record { lag = refl; own = refl; schedule = refl; asked_at = refl; reached_at = refl }) c.fail.ensures.kept) refl
