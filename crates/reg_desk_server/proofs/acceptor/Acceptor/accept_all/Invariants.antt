use Rattle.std.proofs.Common.{◌≤◌}
use Rattle.reg_desk_server.proofs.acceptor.Acceptor.accept_all.Given as goal

-- no more connections were accepted than the limit
abbrev pub invariant-loop : goal.invariant-loop
invariant-loop g l = l.initial.self.accepted ≤ l.limit → l.self.accepted ≤ l.limit
