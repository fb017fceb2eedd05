use Rattle.std.proofs.Common.{refl}
use Rattle.reg_office_api.proofs.PublicLaws.{stays}
use Rattle.reg_desk_service.proofs.follow_desk.FollowDeskHandler.defer.Goals as goal

pub returns-in_default : goal.returns-in_default
returns-in_default g c = (refl, (refl, refl, stays g.M.Office.Office.is_clean g.M.Office.Office.stands _ _ refl))

pub returns-in-Some : goal.returns-in-Some
returns-in-Some g c = (refl, (refl, refl, stays g.M.Office.Office.is_clean g.M.Office.Office.stands _ _ refl))

pub returns-in-None : goal.returns-in-None
returns-in-None g c = (c.defer.ensures.0, (refl, c.defer.ensures.1, c.defer.ensures.2))
