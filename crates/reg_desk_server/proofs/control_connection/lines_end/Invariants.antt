use Rattle.reg_desk_server.specs.LineEnds.{EndsLine}
use Rattle.reg_desk_server.proofs.control_connection.lines_end.Given as goal

-- the lines that were found so far are whole
abbrev pub invariant-loop : goal.invariant-loop
invariant-loop l = EndsLine l.bytes l.end
