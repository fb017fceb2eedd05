use Rattle.reg_desk_program.proofs.Cached.{cached_expects}
use Rattle.reg_desk_program.proofs.Opened.{lent_expects}
use Rattle.reg_desk_program.proofs.host.SystemHostMachine.expect_crls.Goals as goal

pub returns : goal.returns
returns c = cached_expects _ (lent_expects c.deref_mut.ensures.shows _ _ _ c.expect_algorithm.ensures)
