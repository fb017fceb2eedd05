-- Steps of an office that enters CRLs of another register: its signer of CRLs, which signs none, may become another one.
use Rattle.std.specs.Prelude.{◌≡◌}
use Rattle.reg_core.specs.Records.{Records}
use Rattle.reg_crl.specs.Signing.{Identity}
use Rattle.reg_office_api.specs.Signers.{OfficeSigners}
use Rattle.reg_office_api.specs.declared.office.Office.{Ghosts as Office}

module _ {O : Type 0} (office : Office O) where
  -- a step of the records, after which the signer of CRLs may be another one
  abbrev pub LeadsWithCrls : (Records → Records → Type 0) → O → O → Type 0
  LeadsWithCrls step s t =
      (office.is_clean t → office.is_clean s)
      × ((signers : OfficeSigners) (before : Records) → office.stands signers s before → office.is_clean t
      → (crls : Identity) × (after : Records) × step before after
      × office.stands (record { crls = crls; answers = signers.answers }) t after)

  -- the records stay
  abbrev pub ExpectsCrls : O → O → Type 0
  ExpectsCrls s t = LeadsWithCrls (λ before after. after ≡ before) s t
