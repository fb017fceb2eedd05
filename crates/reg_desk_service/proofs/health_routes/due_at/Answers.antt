use Rattle.std.proofs.Common.{inl, refl}
use Rattle.reg_desk_service.proofs.Looks.{looks_as, not_asked}
use Rattle.reg_desk_service.proofs.health_routes.due_at.Goals as goal

pub returns-in-Err-clause-moves : goal.returns-in-Err-clause-moves
returns-in-Err-clause-moves g c =
    looks_as g.M.Office.Office.is_clean g.M.Office.Office.stands _ _
    (λ records it same. (not_asked c.args.tally.now records c.args.now _ (c.in-Err.ensures records c.args.now it), inl refl)) _ _ c.ask-asked.ensures.asks
