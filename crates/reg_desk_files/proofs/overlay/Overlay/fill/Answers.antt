use Rattle.reg_desk_files.proofs.overlay.Overlay.fill.Goals as goal

pub returns-in-Some : goal.returns-in-Some
returns-in-Some g c = rw c.in-Some.is c.fill.ensures
