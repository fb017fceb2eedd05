-- The change of the records by an HTTP request.
use Rattle.std.specs.Prelude.{◌≡◌, ◌⊎◌, ℕ}
use Rattle.reg_core.specs.Changes.{with_request}
use Rattle.reg_core.specs.Records.{Records}
use Rattle.reg_core.specs.Status.{counts}
use Rattle.reg_core.specs.declared.rows.RequestRow.{RequestRow}

-- at most one request for revocation was added, with its moment as the last accepted one; and how many certificates have each status, at any
-- moment, did not change
pub record AddsARequestAtMost (now : ℕ) (before after : Records) : Type 0 where
  pub added : (after ≡ before) ⊎ ((row : RequestRow) × (after ≡ with_request before now row))
  pub counted : (moment : ℕ) → counts after moment ≡ counts before moment
