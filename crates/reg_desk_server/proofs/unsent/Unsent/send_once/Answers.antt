use Rattle.std.proofs.Common.{ℕ, arith, length-take, length-drop}
use Rattle.reg_desk_server.proofs.Holdings.{sends_piece}
use Rattle.reg_desk_server.proofs.unsent.Unsent.send_once.Goals as goal

pub returns-in-Ok : goal.returns-in-Ok
returns-in-Ok g c =
    sends_piece _ _ c.args.self.now.text.items c.args.self.now.sent c.min-end.result c.in-Ok.count
    (omega (arith, c.in-Ok.ensures.bound, length-take {A = ℕ}, length-drop {A = ℕ}))
    (rw c.deref.ensures.value at c.in-Ok.ensures.bytes)
