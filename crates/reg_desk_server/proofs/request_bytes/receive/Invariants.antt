use Rattle.reg_desk_server.specs.Buffers.{Collects}
use Rattle.reg_desk_server.specs.declared.request_bytes.Received.TheVariants as received
use Rattle.reg_desk_server.proofs.request_bytes.receive.Given as goal

-- the bytes received so far
abbrev pub invariant-loop : goal.invariant-loop
invariant-loop g l = Collects (g.R.Read.remaining l.initial.reader) (g.R.Read.remaining l.reader) l.initial.collected l.collected received.More
