use Rattle.std.proofs.Common.{refl}
use Rattle.reg_desk_server.proofs.Gatherings.{advances_taken, gathers_none}
use Rattle.reg_desk_server.proofs.control_connection.ControlConnection.advance.Goals as goal

pub returns-then-len-eq0-clause-advances : goal.returns-then-len-eq0-clause-advances
returns-then-len-eq0-clause-advances g c =
    advances_taken _ _ _ _ _ _ c.send_on-sent.result c.send_on-sent.ensures c.receive.ensures.unsent c.receive.ensures.gathers c.receive.ensures.ended

pub returns-in-Broken-clause-advances : goal.returns-in-Broken-clause-advances
returns-in-Broken-clause-advances g c = advances_taken _ _ _ _ _ _ c.send_on-sent.result c.send_on-sent.ensures refl (gathers_none _ _ _) (λ was. (refl, was))

pub returns-in_default-clause-advances : goal.returns-in_default-clause-advances
returns-in_default-clause-advances g c = advances_taken _ _ _ _ _ _ c.send_on-sent.result c.send_on-sent.ensures refl (gathers_none _ _ _) (λ was. (refl, was))
