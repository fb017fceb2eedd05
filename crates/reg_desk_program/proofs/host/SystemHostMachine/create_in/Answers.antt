use Rattle.std.proofs.Common.{None, refl}
use Rattle.reg_desk_program.proofs.Cached.{made_from}
use Rattle.reg_desk_program.proofs.host.SystemHostMachine.create_in.Goals as goal

pub returns-in-Ok-clause-made : goal.returns-in-Ok-clause-made
returns-in-Ok-clause-made c =
    let made = c.in-Ok.ensures.made in
    made_from (λ i. (c.new.ensures.office i).store) (record { empty = made.empty; clean = made.clean })

pub returns-in-Ok-clause-stands : goal.returns-in-Ok-clause-stands
returns-in-Ok-clause-stands c =
    let made = c.in-Ok.ensures.made in
    rw c.new.ensures.office (_, ((None, (refl, made.stands, made.leaves c.requires.1.whole)), c.new.ensures.undecided _))

pub returns-in-Err-clause-faults : goal.returns-in-Err-clause-faults
returns-in-Err-clause-faults c = c.in-Err.ensures.err
