-- Records that extend others: rows were added, and requests declined; nothing else happened to a row.
use Rattle.std.specs.Prelude.{◌≡◌, ◌≤◌, ◌⊎◌, ℕ, true, List, [], ◌∷◌, ◌++◌, Result}
use Rattle.reg_core.specs.Crls.{CertList}
use Rattle.reg_core.specs.Records.{Records}
use Rattle.reg_core.specs.declared.rows.RequestRow.{RequestRow}
use Rattle.reg_core.specs.declared.command.Command.{Command}
use Rattle.reg_core.specs.declared.command.Reply.{Reply}
use Rattle.reg_core.specs.declared.refusal.Fault.{Fault}
use Rattle.reg_core_laws.specs.Run.{Run}

-- rows were added behind these, which stay as they are
abbrev pub OnlyAdded : {Row : Type 0} → List Row → List Row → Type 0
OnlyAdded {Row} rows after = (added : List Row) × (after ≡ rows ++ added)

-- the same request, which may have been declined meanwhile
abbrev pub IsSameRequest : RequestRow → RequestRow → Type 0
IsSameRequest row after = (after ≡ row) ⊎ (after ≡ record row { declined = true })

-- requests were added behind these, which stay the same requests
abbrev pub OnlyAddedOrDeclined : List RequestRow → List RequestRow → Type 0
OnlyAddedOrDeclined [] after = Unit {0}
OnlyAddedOrDeclined (row ∷ rows) [] = ⊥
OnlyAddedOrDeclined (row ∷ rows) (next ∷ others) = IsSameRequest row next × OnlyAddedOrDeclined rows others

-- the issuer and the policy stay, the last accepted moment does not go back, and rows were only added, or requests declined
pub record Extends (before after : Records) : Type 0 where
  pub issuer : after.issuer ≡ before.issuer
  pub policy : after.policy ≡ before.policy
  pub last : before.last ≤ after.last
  pub subscribers : OnlyAdded before.subscribers after.subscribers
  pub orders : OnlyAdded before.orders after.orders
  pub certificates : OnlyAdded before.certificates after.certificates
  pub requests : OnlyAddedOrDeclined before.requests after.requests
  pub revocations : OnlyAdded before.revocations after.revocations
  pub crls : OnlyAdded before.crls after.crls

-- the records after every run extend those before it
abbrev pub RunsExtend : (CertList → List ℕ → Type 0) → Type 0
RunsExtend signed =
    (records after : Records)
    (commands : List (ℕ × Command))
    (outcomes : List (Result Reply Fault))
    → Run signed records commands outcomes after
    → Extends records after
