use Rattle.reg_desk_server.specs.FeedExchanges.{ReceivesResponse}
use Rattle.reg_desk_server.specs.declared.request_bytes.Received.TheVariants as received
use Rattle.reg_desk_server.proofs.feed_exchange.FeedExchange.receive.Given as goal

-- the bytes received so far
abbrev pub invariant-loop : goal.invariant-loop
invariant-loop g l = ReceivesResponse g.S.Read.remaining l.initial.self l.self received.More
