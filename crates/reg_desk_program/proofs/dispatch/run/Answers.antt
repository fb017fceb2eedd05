use Rattle.std.proofs.Common.{refl}
use Rattle.reg_desk_program.proofs.dispatch.run.Goals as goal

pub returns-in-KeyId : goal.returns-in-KeyId
returns-in-KeyId g c = rw c.in-KeyId.is (refl, rw c.as_str-in-KeyId.ensures at c.key_identifier.ensures)
