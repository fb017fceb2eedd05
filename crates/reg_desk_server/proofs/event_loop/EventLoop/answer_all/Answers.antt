use Rattle.std.proofs.Common.{refl, arith}
use Rattle.reg_desk_server.proofs.Exchanges.{handled_none, handled_then}
use Rattle.reg_desk_server.proofs.event_loop.EventLoop.answer_all.Goals as goal

pub loop-index-init : goal.loop-index-init
loop-index-init g c = (handled_none g.H.Handler _ _ _ _ refl refl, c.requires)

pub returns-in_err-answer_due-clause-exchanged : goal.returns-in_err-answer_due-clause-exchanged
returns-in_err-answer_due-clause-exchanged g c =
    handled_then g.H.Handler _ _ _ _ _ _ c.loop-index.invariant.0 c.answer_due.ensures.exchanged

pub loop-index-preserved : goal.loop-index-preserved
loop-index-preserved g c = (
  handled_then g.H.Handler _ _ _ _ _ _ c.loop-index.invariant.0 c.answer_due.ensures.exchanged,
  omega (arith, c.loop-index.invariant.1, c.answer_due.ensures.one),
)
