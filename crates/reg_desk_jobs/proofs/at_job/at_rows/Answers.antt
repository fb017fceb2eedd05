use Rattle.std.proofs.Common.{inl, inr, refl}
use Rattle.reg_desk_jobs.proofs.at_job.at_rows.Goals as goal

pub returns-in-Ok : goal.returns-in-Ok
returns-in-Ok g c = inr (c.in-Ok.lines.items, c.in-Ok.ensures, rw c.as_slice.ensures.value at c.exchange_at.ensures)

pub returns-in-Err : goal.returns-in-Err
returns-in-Err g c = inl (c.in-Err.fault, refl, c.in-Err.ensures, refl)
