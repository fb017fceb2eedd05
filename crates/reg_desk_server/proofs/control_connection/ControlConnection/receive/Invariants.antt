use Rattle.std.proofs.Common.{◌≡◌, ◌<◌}
use Rattle.std.specs.Prelude.{length}
use Rattle.reg_desk_server.specs.ControlLines.{EndsOnlyBy, GathersOn, StaysEnded}
use Rattle.reg_desk_server.proofs.control_connection.ControlConnection.receive.Given as goal

-- the bytes that came so far are kept; once the connection has ended, no more are
abbrev pub invariant-loop : goal.invariant-loop
invariant-loop g l =
    GathersOn g.S.Read.remaining l.initial.self l.self × StaysEnded l.initial.self l.self
    × (l.self.unsent ≡ l.initial.self.unsent)
    × (0 < length l.initial.read_buffer → EndsOnlyBy g.S.Source-1.failed (g.S.Read.remaining l.self.stream) l.initial.self l.self)
    × (length l.read_buffer ≡ length l.initial.read_buffer)
