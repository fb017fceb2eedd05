use Rattle.std.proofs.Common.{◌≤◌}
use Rattle.reg_desk_server.specs.Handling.{Handled}
use Rattle.reg_desk_server.proofs.event_loop.EventLoop.answer_all.Given as goal

-- the exchanges so far
abbrev pub invariant-loop-index : goal.invariant-loop-index
invariant-loop-index g l =
    Handled g.H.Handler l.initial.handler l.handler l.initial.answered l.answered × (l.answered ≤ l.limit)
