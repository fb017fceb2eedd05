-- A schedule that a line at the control socket sets, over an office that keeps records.
use Rattle.std.proofs.Common.{◌≡◌, ℕ, List, Result, Err, inl, inr, refl, subst}
use Rattle.reg_core.specs.Records.{Records}
use Rattle.reg_core.specs.Schedule.{IsSchedule}
use Rattle.reg_office_api.specs.Leads.{Leads}
use Rattle.reg_office_api.specs.Signers.{OfficeSigners}
use Rattle.reg_desk_cli.specs.Checks.{IsNoSchedule}
use Rattle.reg_desk_cli.specs.declared.failure.Failure.{Failure}
use Rattle.reg_office_api.proofs.PublicLaws.{follows, stays}
use Rattle.reg_core.specs.declared.refusal.Fault.{Fault}
use Rattle.reg_desk_service.specs.Schedules.{SetsSteps}
use Rattle.reg_desk_service.specs.RegisterUses.{exit_of}
use Rattle.reg_office_api.specs.Settings.{ReplacesSchedule}

module _ {S : Type 0} (is_clean : S → Type 0) (stands : OfficeSigners → S → Records → Type 0) (s t : S) (steps : List (ℕ × ℕ)) where
  -- the steps are no schedule
  pub none_set : (why : Failure) → IsNoSchedule steps why → t ≡ s
      → Leads is_clean stands (λ identity before after. SetsSteps steps (Err why) before after) s t
  none_set why none same =
      follows is_clean stands
      (λ identity before after. after ≡ before)
      (λ identity before after. SetsSteps steps (Err why) before after)
      (λ identity before after stayed. inl (why, refl, none, stayed))
      s
      t
      (stays is_clean stands s t same)

  -- they are, and were set, or a fault came
  pub one_set : (set : Result (Unit {0}) Fault) (schedule : List (ℕ × ℕ)) (result : Result (Unit {0}) Failure) → schedule ≡ steps → IsSchedule schedule
      → result ≡ exit_of set → Leads is_clean stands (λ identity. ReplacesSchedule schedule set) s t
      → Leads is_clean stands (λ identity before after. SetsSteps steps result before after) s t
  one_set set schedule result is sound ending moved =
      follows is_clean stands
      (λ identity. ReplacesSchedule schedule set)
      (λ identity before after. SetsSteps steps result before after)
      (λ identity before after made.
      inr (subst IsSchedule is sound, set, ending, subst (λ steps. ReplacesSchedule steps set before after) is made))
      s
      t
      moved
