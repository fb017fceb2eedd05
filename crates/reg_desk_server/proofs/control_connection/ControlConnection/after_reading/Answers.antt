use Rattle.std.proofs.Common.{inr}
use Rattle.reg_desk_server.proofs.control_connection.ControlConnection.after_reading.Goals as goal

pub returns-in-None-clause-whole : goal.returns-in-None-clause-whole
returns-in-None-clause-whole g c = inr (rw c.as_slice.ensures.value at c.in-None.ensures)

pub returns-in-None-2-clause-whole : goal.returns-in-None-2-clause-whole
returns-in-None-2-clause-whole g c = inr (rw c.as_slice.ensures.value at c.in-None.ensures)

pub returns-in-None-3-clause-whole : goal.returns-in-None-3-clause-whole
returns-in-None-3-clause-whole g c = inr (rw c.as_slice.ensures.value at c.in-None.ensures)
