use Rattle.std.proofs.Common.{arith}
use Rattle.reg_desk_server.proofs.FeedLemmas.{fails_never, fails_over, waits_for_more}
use Rattle.reg_desk_server.proofs.feed_exchange.FeedExchange.progress.Goals as goal

pub waiting-requires-in-Some : goal.waiting-requires-in-Some
waiting-requires-in-Some g c =
    waits_for_more c.args.self.now c.in-Head.head (rw c.deref.ensures.value at c.in-Head.ensures) (omega (arith, c.in-Some.ensures.1, c.if-needed-len.true))

pub waiting-requires-in-None : goal.waiting-requires-in-None
waiting-requires-in-None g c =
    waits_for_more c.args.self.now c.in-Head.head (rw c.deref.ensures.value at c.in-Head.ensures)
    (omega (arith, c.in-None.ensures, c.args.self.now.received.ok.0, c.args.self.now.received.ok.1, c.args.self.now.received.small))

pub returns-in-Bad : goal.returns-in-Bad
returns-in-Bad g c = (fails_never _ c.args.self.now (rw c.deref.ensures.value at c.in-Bad.ensures), tt)

pub returns-in-Some-3 : goal.returns-in-Some-3
returns-in-Some-3 g c = (
  fails_over _ c.args.self.now c.in-Head.head (rw c.deref.ensures.value at c.in-Head.ensures) (omega (arith, c.in-Some.ensures.1, c.if-needed-len.false)),
  tt,
)
