-- The main law. For every list of commands: at any moment from the last accepted one on, before the clock's end, each registered serial
-- number has exactly one of the statuses good, revoked and expired. Only accepted commands and the passing of time change the three
-- counts. Every CRL after a revocation lists it, up to and including the first one issued past its certificate's notAfter (RFC 5280 3.3).
-- No CRL has any other entry. A command that is refused, or ends in a fault, changes nothing.
use Rattle.std.specs.Prelude.{◌≡◌, ℕ, Bool, ◌&&◌, ◌⊎◌, ◌↔◌, ◌==◌, ◌+◌, ◌<◌, ◌≤◌, nat_le, nat_lt, List, [], ◌∷◌, ◌++◌, length, filter, Some, Result, Ok, Err, IsTrue, IsFalse}
use Rattle.std.specs.List.{AllByRecursion, list_any}
use Rattle.reg_core.specs.Checks.{clock_end}
use Rattle.reg_core.specs.Crls.{CertList, entries}
use Rattle.reg_core.specs.Issuer.{Issuer}
use Rattle.reg_core.specs.Policy.{Terms}
use Rattle.reg_core.specs.Records.{Records, Crl, no_records, certificate_in, revocation_in}
use Rattle.reg_core.specs.Sound.{Sound}
use Rattle.reg_core.specs.Status.{status, is_good, is_revoked, is_expired, counts}
use Rattle.reg_core.specs.declared.rows.CertRow.{CertRow}
use Rattle.reg_core.specs.declared.rows.RevocationRow.{RevocationRow}
use Rattle.reg_core.specs.declared.rows.Entry.{Entry}
use Rattle.reg_core.specs.declared.command.Command.{Command}
use Rattle.reg_core.specs.declared.command.Counts.{Counts}
use Rattle.reg_core.specs.declared.command.Reply.{Reply}
use Rattle.reg_core.specs.declared.command.Reply.TheVariants.{Registered, Revoked as RevokedNow}
use Rattle.reg_core.specs.declared.refusal.Fault.{Fault}
use Rattle.reg_core.specs.declared.command.Status.TheVariants.{Good, Expired}
use Rattle.reg_core_laws.specs.Revocations.{IsRevocationBy}
use Rattle.reg_core_laws.specs.Run.{Happens, Run}

-- the records of a new register are sound, with any policy
abbrev pub CreatedSound : (CertList → List ℕ → Type 0) → Type 0
CreatedSound signed =
    (issuer : Issuer) (policy : Terms) → Sound signed (no_records issuer policy)

-- if the records are sound, they are sound after every run
abbrev pub KeepsSound : (CertList → List ℕ → Type 0) → Type 0
KeepsSound signed =
    (records after : Records)
    (commands : List (ℕ × Command))
    (outcomes : List (Result Reply Fault))
    → Sound signed records
    → Run signed records commands outcomes after
    → Sound signed after

-- a run of commands is the run of any prefix of them, and then the run of the rest
abbrev pub RunsInParts : (CertList → List ℕ → Type 0) → Type 0
RunsInParts signed =
    (records after : Records)
    (prefix rest : List (ℕ × Command))
    (outcomes : List (Result Reply Fault))
    → Run signed records (prefix ++ rest) outcomes after
    → (between : Records)
    × (early : List (Result Reply Fault))
    × (late : List (Result Reply Fault))
    × (outcomes ≡ early ++ late)
    × Run signed records prefix early between
    × Run signed between rest late after

-- exactly one of three tests passes
abbrev pub ExactlyOne : Bool → Bool → Bool → Type 0
ExactlyOne first second third =
    (IsTrue first × IsFalse second × IsFalse third)
    ⊎ (IsFalse first × IsTrue second × IsFalse third)
    ⊎ (IsFalse first × IsFalse second × IsTrue third)

-- each registered serial number is exactly one of good, revoked and expired, and the three counts add up to their number
pub record PartitionedByStatus (records : Records) (moment : ℕ) : Type 0 where
  pub each : AllByRecursion
      (λ row. ExactlyOne
      (is_good (status records row.serial moment))
      (is_revoked (status records row.serial moment))
      (is_expired (status records row.serial moment)))
      records.certificates
  pub together :
      ((counts records moment).good + (counts records moment).revoked) + (counts records moment).expired
      ≡ length records.certificates

-- registered serial numbers stay, and each is exactly one of the three at any moment from the last accepted one on, before the clock's end
abbrev pub HasExactlyOneStatus : (CertList → List ℕ → Type 0) → Type 0
HasExactlyOneStatus signed =
    (records after : Records)
    (commands : List (ℕ × Command))
    (outcomes : List (Result Reply Fault))
    → Sound signed records
    → Run signed records commands outcomes after
    → ((more : List CertRow) × (after.certificates ≡ records.certificates ++ more))
    × ((moment : ℕ) → after.last ≤ moment → moment < clock_end → PartitionedByStatus after moment)

-- the counts after a command: a registration adds one to good, a revocation moves one from good to revoked, and any
-- other outcome leaves them as they are
abbrev pub CountsMove : Counts → Result Reply Fault → Counts → Type 0
CountsMove before (Ok Registered) after =
    (after.good ≡ before.good + 1) × (after.revoked ≡ before.revoked) × (after.expired ≡ before.expired)
CountsMove before (Ok (RevokedNow late)) after =
    (after.good + 1 ≡ before.good) × (after.revoked ≡ before.revoked + 1) × (after.expired ≡ before.expired)
CountsMove before outcome after = after ≡ before

-- a certificate is good at `moment`, and its notAfter is not before `moment` but before `later`
abbrev pub ends_between : Records → ℕ → ℕ → CertRow → Bool
ends_between records moment later row =
    is_good (status records row.serial moment) && nat_le moment row.not_after && nat_lt row.not_after later

-- from `moment` to `later`, the certificates of `ends_between` move from good to expired, in the counts too, and no others change
pub record TimeMoves (records : Records) (moment later : ℕ) : Type 0 where
  pub good :
      (counts records later).good + length (filter (ends_between records moment later) records.certificates)
      ≡ (counts records moment).good
  pub expired :
      (counts records later).expired
      ≡ (counts records moment).expired
      + length (filter (ends_between records moment later) records.certificates)
  pub revoked : (counts records later).revoked ≡ (counts records moment).revoked
  pub ending : AllByRecursion
      (λ row. IsTrue (ends_between records moment later row)
      → (status records row.serial moment ≡ Good) × (status records row.serial later ≡ Expired))
      records.certificates
  pub others : AllByRecursion
      (λ row. IsFalse (ends_between records moment later row)
      → status records row.serial later ≡ status records row.serial moment)
      records.certificates

-- at every command of every run, the counts change as `CountsMove` says; over the records before it they change with time as `TimeMoves` says
abbrev pub CountsMoveExactly : (CertList → List ℕ → Type 0) → Type 0
CountsMoveExactly signed =
    (records before next : Records)
    (prefix : List (ℕ × Command))
    (early : List (Result Reply Fault))
    (now : ℕ)
    (command : Command)
    (outcome : Result Reply Fault)
    → Sound signed records
    → Run signed records prefix early before
    → Happens signed before now command outcome next
    → CountsMove (counts before now) outcome (counts next now)
    × ((moment later : ℕ) → moment ≤ later → TimeMoves before moment later)

-- CRL n has an entry of the serial number
abbrev pub lists : Records → ℕ → ℕ → Bool
lists records n serial = list_any (λ entry. entry.serial == serial) (entries records n)

-- no CRL with a number from `first` to `n` - 1 was issued past notAfter
abbrev pub NonePastBetween : List Crl → ℕ → ℕ → ℕ → Type 0
NonePastBetween crls first n not_after =
    AllByRecursion (λ crl. first ≤ crl.number → crl.number < n → crl.this_update ≤ not_after) crls

-- a revocation that is still recorded, in the CRLs: those issued before it do not list it; each later one lists it exactly if no CRL
-- from `first` up to the one before it was issued past the certificate's notAfter
pub record ListedByCrls (earlier : List Crl) (after : Records) (certificate : CertRow)
    (revocation : RevocationRow) : Type 0 where
  pub stands : revocation_in after.revocations certificate.serial ≡ Some revocation
  pub later : List Crl
  pub issued : after.crls ≡ earlier ++ later
  pub before : AllByRecursion
      (λ crl. (crl.number < revocation.first) × IsFalse (lists after crl.number certificate.serial))
      earlier
  pub since : AllByRecursion
      (λ crl. (revocation.first ≤ crl.number)
      × (IsTrue (lists after crl.number certificate.serial)
      ↔ NonePastBetween after.crls revocation.first crl.number certificate.not_after))
      later

-- an entry of CRL n is that of a recorded revocation, with its moment and its reason; n is not below its `first`, and no CRL from there
-- up to n - 1 was issued past the certificate's notAfter
pub record IsDueEntry (records : Records) (n : ℕ) (entry : Entry) : Type 0 where
  pub certificate : CertRow
  pub revocation : RevocationRow
  pub registered : certificate_in records.certificates entry.serial ≡ Some certificate
  pub revoked : revocation_in records.revocations entry.serial ≡ Some revocation
  pub entry_is : entry ≡ record { serial = entry.serial; at = revocation.at; reason = revocation.reason }
  pub can_list : revocation.first ≤ n
  pub none_past : NonePastBetween records.crls revocation.first n certificate.not_after

-- each entry of each CRL is as `IsDueEntry` says
abbrev pub ListsNothingElse : Records → Type 0
ListsNothingElse records = (n : ℕ) → AllByRecursion (IsDueEntry records n) (entries records n)

-- every CRL after a revocation lists it, up to and including the first one issued past its certificate's notAfter (RFC 5280 3.3), and
-- no CRL has an entry that it need not have
abbrev pub ListsRevoked : (CertList → List ℕ → Type 0) → Type 0
ListsRevoked signed =
    (records before next after : Records)
    (prefix rest : List (ℕ × Command))
    (early late : List (Result Reply Fault))
    (now : ℕ)
    (command : Command)
    (is_late : Bool)
    → Sound signed records
    → Run signed records prefix early before
    → Happens signed before now command (Ok (RevokedNow is_late)) next
    → Run signed next rest late after
    → ((certificate : CertRow)
    × (revocation : RevocationRow)
    × (certificate_in after.certificates revocation.serial ≡ Some certificate)
    × (next.revocations ≡ before.revocations ++ revocation ∷ [])
    × IsRevocationBy before now command revocation
    × ListedByCrls before.crls after certificate revocation)
    × ListsNothingElse after

-- a command that is refused, or ends in a fault, changes nothing
abbrev pub RefusalsChangeNothing : (CertList → List ℕ → Type 0) → Type 0
RefusalsChangeNothing signed =
    (records after : Records)
    (now : ℕ)
    (command : Command)
    (fault : Fault)
    → Happens signed records now command (Err fault) after
    → after ≡ records
