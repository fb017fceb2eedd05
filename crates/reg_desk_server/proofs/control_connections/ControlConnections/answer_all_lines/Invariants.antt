use Rattle.std.proofs.Common.{ℕ}
use Rattle.reg_desk_server.specs.Handling.{Handled}
use Rattle.reg_desk_server.proofs.control_connections.ControlConnections.answer_all_lines.Given as goal

-- the exchanges so far
abbrev pub invariant-loop-turn : goal.invariant-loop-turn
invariant-loop-turn g l = (answered : ℕ) → Handled g.H.Handler l.initial.handler l.handler answered answered
