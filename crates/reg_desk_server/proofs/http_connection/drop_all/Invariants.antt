use Rattle.reg_desk_server.specs.Stages.{IsDropped}
use Rattle.reg_desk_server.proofs.http_connection.drop_all.Given as goal

-- the bytes dropped so far
abbrev pub invariant-loop : goal.invariant-loop
invariant-loop g l = IsDropped (g.R.Read.remaining l.initial.reader) (g.R.Read.remaining l.reader)
