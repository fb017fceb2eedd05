-- The decision on the next CRL.
use Rattle.std.specs.Prelude.{◌≡◌, ℕ, ◌+◌, None}
use Rattle.reg_core.specs.Crls.{next_number}
use Rattle.reg_core.specs.Records.{Records}
use Rattle.reg_core.specs.Step.{refusal}
use Rattle.reg_core.specs.declared.command.Command.TheVariants.{Crl as IssueCrl}
use Rattle.reg_core.specs.declared.rows.CrlRow.{CrlRow}

-- no refusal applies to a CRL at this moment; it has the next number, this moment as thisUpdate, and nextUpdate later by the life of CRLs
pub record IsNextOf (records : Records) (now : ℕ) (next : CrlRow × ℕ) : Type 0 where
  pub accepted : refusal records now IssueCrl ≡ None
  pub row_is : next.0 ≡ record { number = next_number records.crls; this_update = now }
  pub next_update : next.1 ≡ now + records.policy.crl_life
