-- A look at the records, and what the register does then.
use Rattle.std.proofs.Common.{◌≡◌, subst}
use Rattle.reg_core.specs.Records.{Records}
use Rattle.reg_office_api.specs.Leads.{Leads, Looks}
use Rattle.reg_office_api.specs.Signers.{OfficeSigners}
use Rattle.reg_office_api.proofs.PublicLaws.{chains, follows}

module _ {S : Type 0} (is_clean : S → Type 0) (stands : OfficeSigners → S → Records → Type 0) where
  -- what was seen of the records before a step
  pub seen_then : (IsSo : Records → Type 0) (step : OfficeSigners → Records → Records → Type 0) (s m t : S) → Looks is_clean stands IsSo s m
      → Leads is_clean stands step m t → Leads is_clean stands (λ identity before after. IsSo before × step identity before after) s t
  seen_then IsSo step s m t look then =
      follows is_clean stands
      (λ identity before after. (middle : Records) × (IsSo before × (middle ≡ before)) × step identity middle after)
      (λ identity before after. IsSo before × step identity before after)
      (λ identity before after both.
      let (middle, (so, same), stepped) = both in
      (so, subst (λ (r : Records). step identity r after) same stepped))
      s t
      (chains is_clean stands (λ identity before after. IsSo before × (after ≡ before)) step s m t look then)
