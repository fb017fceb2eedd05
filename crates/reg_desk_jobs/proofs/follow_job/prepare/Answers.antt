use Rattle.std.proofs.Common.{inl, inr, refl}
use Rattle.reg_desk_jobs.proofs.follow_job.prepare.Goals as goal

pub returns-then-is_there : goal.returns-then-is_there
returns-then-is_there g c = inl (rw (c.as_str.ensures, c.if-is_there.true) at c.is_there.ensures, refl, refl)

pub returns : goal.returns
returns g c = inr (rw (c.as_str.ensures, c.if-is_there.false) at c.is_there.ensures, c.fill.ensures)
