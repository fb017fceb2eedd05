use Rattle.reg_desk_server.specs.Buffers.{SendsOn, unsent_of}
use Rattle.reg_desk_server.specs.declared.unsent.Sent.TheVariants as sent
use Rattle.reg_desk_server.proofs.unsent.Unsent.send_on.Given as goal

-- the bytes sent so far
abbrev pub invariant-loop : goal.invariant-loop
invariant-loop g l =
    SendsOn (g.W.Write.contents l.initial.writer) (g.W.Write.contents l.writer) (unsent_of l.initial.self) (unsent_of l.self) sent.More
