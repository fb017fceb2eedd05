use Rattle.reg_desk_server.specs.declared.request_bytes.Received.TheVariants as received
use Rattle.reg_desk_server.proofs.FeedLemmas.{receives_none, receives_then}
use Rattle.reg_desk_server.proofs.feed_exchange.FeedExchange.receive.Goals as goal

pub loop-init : goal.loop-init
loop-init g c = receives_none g.S.Read.remaining _ received.More (λ is. let bad : ⊥ = cc in absurd bad)

pub returns-in_default : goal.returns-in_default
returns-in_default g c = receives_then g.S.Read.remaining _ _ _ c.receive_once.result c.loop.invariant c.receive_once.ensures

pub loop-preserved : goal.loop-preserved
loop-preserved g c = receives_then g.S.Read.remaining _ _ _ received.More c.loop.invariant (rw c.in-More.is at c.receive_once.ensures)
