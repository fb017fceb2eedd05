-- Looks at the records of an office, one after the other, and why a register tells nothing.
use Rattle.std.proofs.Common.{◌≡◌, ℕ, Bool, List, Some, None, Ok, Err, refl, sym, ap, subst, ◌∙◌, inl, inr}
use Rattle.std.specs.Prelude.{Option, option_map}
use Rattle.reg_core.specs.Crls.{row_of}
use Rattle.reg_core.specs.Records.{Crl, Records}
use Rattle.reg_core.specs.declared.rows.CrlRow.{CrlRow}
use Rattle.reg_der.proofs.PublicLaws.{some_is}
use Rattle.reg_desk_metrics.specs.declared.tally.Tally.{Tally}
use Rattle.reg_core.specs.declared.command.Query.TheVariants.{Counts as AskCounts, NextCrl as AskNextCrl}
use Rattle.reg_core.specs.declared.command.Reply.TheVariants.{Counts as CountsAre, NextCrl as NextCrlIs}
use Rattle.reg_core.specs.declared.refusal.Fault.{Fault}
use Rattle.reg_core.specs.declared.refusal.Fault.TheVariants as fault
use Rattle.reg_office_api.proofs.PublicLaws.{chains, follows, stays}
use Rattle.reg_office_api.specs.Answered.{IsGiven}
use Rattle.reg_office_api.specs.Leads.{Looks}
use Rattle.reg_office_api.specs.LookUps.{IsOfStore}
use Rattle.reg_desk_service.specs.HealthRoutes.{Has, HasDue, HasFound, HasRequests, IsReadAt, IsUnsigned}

module _ {S I R : Type 0} (is_clean : S → Type 0) (stands : I → S → R → Type 0) where
  -- what is seen says something else
  pub looks_as : (seen other : R → Type 0) → ((r : R) → seen r → other r) → (s t : S) → Looks is_clean stands seen s t → Looks is_clean stands other s t
  looks_as seen other from s t look =
      follows is_clean stands
      (λ i before after. seen before × (after ≡ before))
      (λ i before after. other before × (after ≡ before))
      (λ i before after looked. (from before looked.0, looked.1))
      s
      t
      look

  -- nothing is done, and what is seen holds of any records
  pub looks_nowhere : (seen : R → Type 0) → ((r : R) → seen r) → (s t : S) → t ≡ s → Looks is_clean stands seen s t
  looks_nowhere seen holds s t same =
      follows is_clean stands
      (λ i before after. after ≡ before)
      (λ i before after. seen before × (after ≡ before))
      (λ i before after still. (holds before, still))
      s
      t
      (stays is_clean stands s t same)

  -- one look, and another
  pub looks_then : (first next : R → Type 0) (s m t : S) → Looks is_clean stands first s m → Looks is_clean stands next m t
      → Looks is_clean stands (λ r. first r × next r) s t
  looks_then first next s m t one two =
      follows is_clean stands
      (λ i before after. (middle : R) × (first before × (middle ≡ before)) × (next middle × (after ≡ middle)))
      (λ i before after. (first before × next before) × (after ≡ before))
      (λ i before after both.
      let (middle, seen, after_it) = both in
      ((seen.0, subst next seen.1 after_it.0), after_it.1 ∙ seen.1))
      s
      t
      (chains is_clean stands
      (λ i before after. first before × (after ≡ before))
      (λ i before after. next before × (after ≡ before))
      s
      m
      t
      one
      two)

-- a register tells nothing for what its counts, or the moment of its next CRL, came to; or what stands there was not had
pub not_counts : (tally : Tally) (records : Records) (now : ℕ) (why : Fault) → Has AskCounts CountsAre records now (Err why) → HasFound tally records now (Err why)
not_counts tally records now (fault.Refused refusal) refused = inl refused
not_counts tally records now fault.Memory had = tt
not_counts tally records now fault.Store had = tt
not_counts tally records now other had = absurd had

pub not_asked : (tally : Tally) (records : Records) (now : ℕ) (why : Fault) → Has AskNextCrl NextCrlIs records now (Err why) → HasDue tally records now (Err why)
not_asked tally records now (fault.Refused refusal) refused = refused
not_asked tally records now fault.Memory had = tt
not_asked tally records now fault.Store had = tt
not_asked tally records now other had = absurd had

pub not_read : (tally : Tally) (records : Records) (now : ℕ) (why : Fault) → IsOfStore why → HasDue tally records now (Err why)
not_read tally records now fault.Memory is = tt
not_read tally records now fault.Store is = tt
not_read tally records now other is = absurd is

pub not_due : (tally : Tally) (records : Records) (now : ℕ) (why : Fault) → HasDue tally records now (Err why) → HasFound tally records now (Err why)
not_due tally records now (fault.Refused refusal) refused = inr refused
not_due tally records now fault.Memory had = tt
not_due tally records now fault.Store had = tt
not_due tally records now other had = absurd had

pub not_standing : (tally : Tally) (records : Records) (now : ℕ) (why : Fault) → IsOfStore why → HasFound tally records now (Err why)
not_standing tally records now fault.Memory is = tt
not_standing tally records now fault.Store is = tt
not_standing tally records now other is = absurd is

-- the open requests can't be counted
pub not_open : (records : Records) (now : ℕ) (why : Fault) → IsOfStore why → HasRequests records now (Err why)
not_open records now fault.Memory is = tt
not_open records now fault.Store is = tt
not_open records now other is = absurd is

-- the latest CRL, by its row
pub latest_is : (found : Option Crl) (row : CrlRow) → Some row ≡ option_map row_of found → (crl : Crl) × (found ≡ Some crl) × (row.number ≡ crl.number)
latest_is None row is = absurd cc
latest_is (Some crl) row is = (crl, refl, ap (λ (it : CrlRow). it.number) (some_is row (row_of crl) is))

-- what was read in the bytes that were given
pub read_at : (records : Records) (number : ℕ) (bytes : List ℕ) (is : Bool) → IsGiven records None (Ok bytes) → IsUnsigned bytes is
    → IsReadAt records number (record { number = number; is_unsigned = is })
read_at records number bytes is given unsigned = λ crl found same.
    let bytes_are : bytes ≡ crl.bytes = some_is bytes crl.bytes (sym given ∙ ap (option_map (λ (it : Crl). it.bytes)) found) in
    (same, subst (λ (b : List ℕ). IsUnsigned b is) bytes_are unsigned)

pub no_latest : (found : Option Crl) → None ≡ option_map row_of found → found ≡ None
no_latest None is = refl
no_latest (Some crl) is = absurd cc
