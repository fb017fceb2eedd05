use Rattle.reg_desk_server.proofs.Holdings.{takes_then}
use Rattle.reg_desk_server.proofs.request_bytes.receive.Goals as goal

pub returns-in_default : goal.returns-in_default
returns-in_default g c = record {
  took = takes_then _ _ _ _ _ _ c.receive_once.result c.loop.invariant.took c.receive_once.ensures.took;
  whole = c.receive_once.ensures.whole;
}
