use Rattle.reg_desk_service.proofs.Looks.{looks_as, looks_then, not_counts, not_due, not_standing}
use Rattle.reg_desk_service.proofs.health_routes.found_at.Goals as goal

pub returns-in-Err-clause-moves : goal.returns-in-Err-clause-moves
returns-in-Err-clause-moves g c =
    looks_as g.M.Office.Office.is_clean g.M.Office.Office.stands _ _
    (λ records it. not_counts c.args.tally.now records c.args.now _ (c.in-Err.ensures records c.args.now it)) _ _ c.ask-counted.ensures.asks

pub returns-in-Err-summary-clause-moves : goal.returns-in-Err-summary-clause-moves
returns-in-Err-summary-clause-moves g c =
    looks_as g.M.Office.Office.is_clean g.M.Office.Office.stands _ _
    (λ records it. not_standing c.args.tally.now records c.args.now _ c.in-Err-summary.ensures.faults) _ _
    (looks_then g.M.Office.Office.is_clean g.M.Office.Office.stands _ _ _ _ _ c.ask-counted.ensures.asks c.in-Err-summary.ensures.looks)

pub returns-in-Err-due_at-clause-moves : goal.returns-in-Err-due_at-clause-moves
returns-in-Err-due_at-clause-moves g c =
    looks_as g.M.Office.Office.is_clean g.M.Office.Office.stands _ _
    (λ records it. not_due c.args.tally.now records c.args.now _ (it.1 it.0.1.1).0) _ _
    (looks_then g.M.Office.Office.is_clean g.M.Office.Office.stands _ _ _ _ _
    (looks_then g.M.Office.Office.is_clean g.M.Office.Office.stands _ _ _ _ _ c.ask-counted.ensures.asks c.in-Ok-summary.ensures.looks)
    c.in-Err-due_at.ensures.moves)

pub returns-in-Ok-due_at-clause-moves : goal.returns-in-Ok-due_at-clause-moves
returns-in-Ok-due_at-clause-moves g c =
    looks_as g.M.Office.Office.is_clean g.M.Office.Office.stands _ _
    (λ records it. (c.in-Ok.ensures records c.args.now it.0.0, (it.1 it.0.1.1).0, it.0.1)) _ _
    (looks_then g.M.Office.Office.is_clean g.M.Office.Office.stands _ _ _ _ _
    (looks_then g.M.Office.Office.is_clean g.M.Office.Office.stands _ _ _ _ _ c.ask-counted.ensures.asks c.in-Ok-summary.ensures.looks)
    c.in-Ok-due_at.ensures.moves)
