use Rattle.reg_store_tables.proofs.PublicLaws.{not_found}
use Rattle.reg_office.proofs.follow.own_positions.Goals as goal

pub returns-clause-looks : goal.returns-clause-looks
returns-clause-looks g c = c.in_ok-positions.ensures

pub returns-in_err-positions-clause-looks : goal.returns-in_err-positions-clause-looks
returns-in_err-positions-clause-looks g c = not_found _ c.from_residual.result c.from_residual.ensures.0 c.positions_in.ensures.looked
