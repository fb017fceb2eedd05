use Rattle.std.proofs.Common.{◌≤◌}
use Rattle.reg_desk_server.specs.Handling.{HandledAndWorked}
use Rattle.reg_desk_server.proofs.event_loop.EventLoop.serve_all.Given as goal

-- the exchanges so far
abbrev pub invariant-loop : goal.invariant-loop
invariant-loop g l =
    HandledAndWorked g.H.Handler l.initial.handler l.handler l.initial.answered l.answered × (l.answered ≤ l.limit) × g.H.Handler.waited l.counter
