use Rattle.std.proofs.Common.{refl}
use Rattle.reg_store_changes.proofs.Beginning.{fails_to_begin, has_begun, not_begun}
use Rattle.reg_store_changes.proofs.writes.begin.Goals as goal

pub returns-then-not-is_autocommit : goal.returns-then-not-is_autocommit
returns-then-not-is_autocommit g c = not_begun {g = g.S.Store} c.args.conn.now _ refl

pub returns-in_err-execute : goal.returns-in_err-execute
returns-in_err-execute g c = fails_to_begin {g = g.S.Store} c.args.conn.now c.execute.new.self c.from_residual.result c.from_residual.ensures.0 _ c.in_err-execute.ensures.runs c.execute.ensures.survives

pub returns : goal.returns
returns g c = has_begun {g = g.S.Store} c.args.conn.now c.execute.new.self _ c.in_ok-execute.ensures.runs c.execute.ensures.survives
