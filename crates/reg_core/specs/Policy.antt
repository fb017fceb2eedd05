use Rattle.std.specs.Prelude.{ℕ, ◌≤◌, List}
use Rattle.reg_core.specs.Schedule.{IsSchedule}

-- the policy of a register: the schedule of longest validities, the seconds from thisUpdate to nextUpdate of a CRL
-- and of an OCSP response, and the most rows of a table
pub record Terms : Type 0 where
  pub schedule : List (ℕ × ℕ)
  pub crl_life : ℕ
  pub ocsp_life : ℕ
  pub cap : ℕ

-- the schedule is valid; a CRL's life is 1 second to ten days less a second, an OCSP response's eight hours to the same (CA/Browser Forum
-- Baseline Requirements 4.9.7, 4.9.10); the most rows of a table are 1 to 1,000,000
pub record IsPolicy (terms : Terms) : Type 0 where
  pub schedule : IsSchedule terms.schedule
  pub crl_life : (1 ≤ terms.crl_life) × (terms.crl_life ≤ 863999)
  pub ocsp_life : (28800 ≤ terms.ocsp_life) × (terms.ocsp_life ≤ 863999)
  pub cap : (1 ≤ terms.cap) × (terms.cap ≤ 1000000)
