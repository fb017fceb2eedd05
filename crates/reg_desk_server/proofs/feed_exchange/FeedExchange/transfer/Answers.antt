use Rattle.std.proofs.Common.{refl}
use Rattle.reg_desk_server.specs.declared.request_bytes.Received.TheVariants as received
use Rattle.reg_desk_server.proofs.FeedLemmas.{receives_none, transfers_from}
use Rattle.reg_desk_server.proofs.feed_exchange.FeedExchange.transfer.Goals as goal

pub returns-in-All-clause-transfers : goal.returns-in-All-clause-transfers
returns-in-All-clause-transfers g c =
    transfers_from g.S.Write.contents g.S.Read.remaining c.args.self.now _ _ c.send_on.result c.receive.result c.send_on.ensures refl c.receive.ensures

pub returns-in-Blocked-clause-transfers : goal.returns-in-Blocked-clause-transfers
returns-in-Blocked-clause-transfers g c =
    transfers_from g.S.Write.contents g.S.Read.remaining c.args.self.now _ _ c.send_on.result received.Blocked c.send_on.ensures refl
    (receives_none g.S.Read.remaining _ received.Blocked (λ is. let bad : ⊥ = cc in absurd bad))

pub returns-in-More-clause-transfers : goal.returns-in-More-clause-transfers
returns-in-More-clause-transfers g c =
    transfers_from g.S.Write.contents g.S.Read.remaining c.args.self.now _ _ c.send_on.result received.More c.send_on.ensures refl
    (receives_none g.S.Read.remaining _ received.More (λ is. let bad : ⊥ = cc in absurd bad))

pub returns-in-Broken-clause-transfers : goal.returns-in-Broken-clause-transfers
returns-in-Broken-clause-transfers g c =
    transfers_from g.S.Write.contents g.S.Read.remaining c.args.self.now _ _ c.send_on.result received.Broken c.send_on.ensures refl
    (receives_none g.S.Read.remaining _ received.Broken (λ is. let bad : ⊥ = cc in absurd bad))
