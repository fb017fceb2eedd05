use Rattle.std.proofs.Common.{arith, refl}
use Rattle.reg_desk_server.specs.declared.request_bytes.Received.TheVariants as received
use Rattle.reg_desk_server.proofs.FeedLemmas.{receives_none}
use Rattle.reg_desk_server.proofs.feed_exchange.FeedExchange.receive_once.Goals as goal

pub returns-then-read_buffer-saturating_sub : goal.returns-then-read_buffer-saturating_sub
returns-then-read_buffer-saturating_sub g c =
    receives_none g.S.Read.remaining c.args.self.now received.Broken (λ is. let bad : ⊥ = cc in absurd bad)

pub returns : goal.returns
returns g c = record {
  receives = c.gather.ensures.receives;
  request = refl;
  moved_at = refl;
  short = λ few. omega (arith, few, c.gather.ensures.bounded, c.saturating_sub.ensures, c.len.ensures, c.if-read_buffer-saturating_sub.false);
}
