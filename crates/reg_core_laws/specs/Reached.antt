-- Reached records, which `desk audit` checks. The records of a new register with a valid policy are reached, and every run and every valid
-- new schedule keeps them so.
use Rattle.std.specs.Prelude.{ℕ, List, Result}
use Rattle.reg_core.specs.Changes.{with_schedule}
use Rattle.reg_core.specs.Crls.{CertList}
use Rattle.reg_core.specs.Issuer.{Issuer}
use Rattle.reg_core.specs.Policy.{IsPolicy, Terms}
use Rattle.reg_core.specs.Reached.{Reached}
use Rattle.reg_core.specs.Records.{Records, no_records}
use Rattle.reg_core.specs.Schedule.{IsSchedule}
use Rattle.reg_core.specs.Sound.{Sound}
use Rattle.reg_core.specs.declared.command.Command.{Command}
use Rattle.reg_core.specs.declared.command.Reply.{Reply}
use Rattle.reg_core.specs.declared.refusal.Fault.{Fault}
use Rattle.reg_core_laws.specs.Run.{Run}

-- reached records are sound
abbrev pub ReachedIsSound : (CertList → List ℕ → Type 0) → Type 0
ReachedIsSound signed = (records : Records) → Reached signed records → Sound signed records

-- the records of a new register with a valid policy are reached
abbrev pub CreatedReached : (CertList → List ℕ → Type 0) → Type 0
CreatedReached signed =
    (issuer : Issuer) (policy : Terms) → IsPolicy policy → Reached signed (no_records issuer policy)

-- every run keeps the records reached
abbrev pub KeepsReached : (CertList → List ℕ → Type 0) → Type 0
KeepsReached signed =
    (records after : Records)
    (commands : List (ℕ × Command))
    (outcomes : List (Result Reply Fault))
    → Reached signed records
    → Run signed records commands outcomes after
    → Reached signed after

-- another valid schedule keeps the records reached
abbrev pub SchedulesKeepReached : (CertList → List ℕ → Type 0) → Type 0
SchedulesKeepReached signed =
    (records : Records) (schedule : List (ℕ × ℕ))
    → IsSchedule schedule
    → Reached signed records
    → Reached signed (with_schedule records schedule)
