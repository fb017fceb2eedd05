use Rattle.reg_desk_server.specs.declared.unsent.Sent.TheVariants as sent
use Rattle.reg_desk_server.proofs.Holdings.{sends_then}
use Rattle.reg_desk_server.proofs.unsent.Unsent.send_on.Goals as goal

pub returns-in_default : goal.returns-in_default
returns-in_default g c = sends_then _ _ _ _ _ _ c.send_once.result c.loop.invariant c.send_once.ensures

pub loop-preserved : goal.loop-preserved
loop-preserved g c = sends_then _ _ _ _ _ _ sent.More c.loop.invariant (rw c.in-More.is at c.send_once.ensures)
