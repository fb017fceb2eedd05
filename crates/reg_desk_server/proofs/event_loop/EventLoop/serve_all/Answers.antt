use Rattle.std.proofs.Common.{arith, inl, inr, refl, subst}
use Rattle.reg_desk_server.proofs.Exchanges.{worked_none, worked_then, worked_then_handled}
use Rattle.reg_desk_server.proofs.event_loop.EventLoop.serve_all.Goals as goal

pub loop-init : goal.loop-init
loop-init g c = (worked_none g.H.Handler _ _ _ _ refl refl, c.requires, g.H.Handler.not_waited)

pub returns-in_err-until_work-clause-exchanged : goal.returns-in_err-until_work-clause-exchanged
returns-in_err-until_work-clause-exchanged g c = worked_then g.H.Handler _ _ _ _ _ c.loop.invariant.0 c.work.ensures.works

pub returns-in_err-answer_all_lines-clause-exchanged : goal.returns-in_err-answer_all_lines-clause-exchanged
returns-in_err-answer_all_lines-clause-exchanged g c =
    worked_then_handled g.H.Handler _ _ _ _ _ _ (worked_then g.H.Handler _ _ _ _ _ c.loop.invariant.0 c.work.ensures.works) (c.answer_all_lines.ensures.lines _)

pub returns-in_err-outcome-clause-exchanged : goal.returns-in_err-outcome-clause-exchanged
returns-in_err-outcome-clause-exchanged g c =
    worked_then_handled g.H.Handler _ _ _ _ _ _
    (worked_then_handled g.H.Handler _ _ _ _ _ _ (worked_then g.H.Handler _ _ _ _ _ c.loop.invariant.0 c.work.ensures.works) (c.answer_all_lines.ensures.lines _))
    c.answer_all-outcome.ensures.exchanged

pub loop-preserved : goal.loop-preserved
loop-preserved g c = (
  worked_then_handled g.H.Handler _ _ _ _ _ _
      (worked_then_handled g.H.Handler _ _ _ _ _ _ (worked_then g.H.Handler _ _ _ _ _ c.loop.invariant.0 c.work.ensures.works) (c.answer_all_lines.ensures.lines _))
      c.answer_all-outcome.ensures.exchanged,
  c.answer_all-outcome.ensures.within,
  c.in_ok-now.ensures.ok c.loop.counter c.loop.invariant.2,
)

pub returns-clause-early : goal.returns-clause-early
returns-clause-early g c =
    inl (inr (subst g.H.Handler.waited (omega (arith, c.loop.auto.counter-end, c.loop-test.false)) c.loop.invariant.2))
