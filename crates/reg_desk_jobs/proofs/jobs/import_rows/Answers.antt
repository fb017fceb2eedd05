use Rattle.std.proofs.Common.{◌⊎◌, inl, inr, false}
use Rattle.std.specs.Prelude.{IsTrue}
use Rattle.reg_desk_jobs.proofs.jobs.import_rows.Goals as goal

-- a moment that is not checked is not refused
unchecked : {X Y : Type 0} → (IsTrue false × X) ⊎ Y → Y
unchecked (inl (is, refused)) = absurd cc
unchecked (inr imported) = imported

pub returns-in-Some : goal.returns-in-Some
returns-in-Some g c = rw c.in-Some.is (unchecked c.import_at.ensures)
