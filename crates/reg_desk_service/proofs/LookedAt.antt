-- A line that is looked at, and then told, over an office that keeps records.
use Rattle.std.proofs.Common.{◌≡◌, ℕ, List, subst}
use Rattle.std.specs.Prelude.{Result, Ok, Err}
use Rattle.reg_core.specs.Records.{Records}
use Rattle.reg_core.specs.declared.memory.Memory.{Memory as NoMemory}
use Rattle.reg_office_api.specs.Drafts.{Begins, Drafts}
use Rattle.reg_office_api.specs.Leads.{Leads}
use Rattle.reg_office_api.specs.Signers.{OfficeSigners}
use Rattle.reg_office_api.specs.CallSteps.{Signs}
use Rattle.reg_office_api.specs.Responses.{Replies}
use Rattle.reg_office_api.specs.declared.response.OcspResponse.{OcspResponse}
use Rattle.reg_io.specs.declared.begun.ReadyOrUnsigned.{ReadyOrUnsigned}
use Rattle.reg_io.specs.declared.begun.ReadyOrUnsigned.TheVariants.{Ready, Unsigned}
use Rattle.reg_ocsp.specs.Drafts.{Drafted}

module _ {S I R : Type 0} (is_clean : S → Type 0) (stands : I → S → R → Type 0) where
  -- the records stay
  abbrev pub Still : S → S → Type 0
  Still s t = Leads is_clean stands (λ i before after. after ≡ before) s t

  -- first they stay, and then there is a step
  pub still_then : (step : I → R → R → Type 0) (s m t : S) → Still s m → Leads is_clean stands step m t → Leads is_clean stands step s t
  still_then step s m t one two = (
    (λ clean. one.0 (two.0 clean)),
    (λ i before stood clean.
        let (middle, same, stands_there) = one.1 i before stood (two.0 clean) in
        let P : R → Type 0 = λ r. stands i m r in
        two.1 i before (subst P same stands_there) clean),
  )

  -- first there is a step, and then they stay
  pub then_still : (step : I → R → R → Type 0) (s m t : S) → Leads is_clean stands step s m → Still m t → Leads is_clean stands step s t
  then_still step s m t one two = (
    (λ clean. one.0 (two.0 clean)),
    (λ i before stood clean.
        let (after, made, stands_there) = one.1 i before stood (two.0 clean) in
        let (last, same, stands_now) = two.1 i after stands_there clean in
        let P : R → Type 0 = λ r. stands i t r in
        (after, made, subst P same stands_now)),
  )

-- what begins an OCSP answer changes no record
pub begun_still : (signs : Signs) (signers : OfficeSigners) (before : Records) (now : ℕ) (request : List ℕ) (result : Result (ReadyOrUnsigned OcspResponse Drafted) NoMemory)
    (after : Records) → Begins (Replies signs signers) (Drafts signers) before now request result after → after ≡ before
begun_still signs signers before now request (Ok (Ready response)) after begun = begun.1
begun_still signs signers before now request (Ok (Unsigned draft)) after begun = begun.1
begun_still signs signers before now request (Err memory) after begun = begun
