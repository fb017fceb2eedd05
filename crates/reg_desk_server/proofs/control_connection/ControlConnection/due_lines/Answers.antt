use Rattle.std.proofs.Common.{arith}
use Rattle.std.proofs.lemmas.List.{nil_from_length}
use Rattle.reg_desk_server.specs.Buffers.{unsent_of}
use Rattle.reg_desk_server.proofs.Holdings.{due_or_no_lines}
use Rattle.reg_desk_server.proofs.control_connection.ControlConnection.due_lines.Goals as goal

pub returns : goal.returns
returns g c =
    due_or_no_lines (unsent_of c.args.self.now.unsent) c.args.self.now.arrived.items c.lines_end.result
    (nil_from_length (unsent_of c.args.self.now.unsent) (omega (arith, c.len.ensures, c.if-len-gt0.false)))
    (rw c.as_slice.ensures.value at c.lines_end.ensures)
