use Rattle.reg_desk_server.proofs.Holdings.{dropped_then}
use Rattle.reg_desk_server.proofs.http_connection.drop_all.Goals as goal

pub returns-in_default : goal.returns-in_default
returns-in_default g c = dropped_then _ _ _ c.loop.invariant c.drop_once.ensures

pub loop-preserved : goal.loop-preserved
loop-preserved g c = dropped_then _ _ _ c.loop.invariant c.drop_once.ensures
