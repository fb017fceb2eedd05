-- Revocations: the command that adds one; no other outcome changes them.
use Rattle.std.specs.Prelude.{◌≡◌, ℕ, List, [], ◌∷◌, ◌++◌, Some, Result, Ok}
use Rattle.reg_core.specs.Crls.{CertList, next_number}
use Rattle.reg_core.specs.Grounds.{reason_of}
use Rattle.reg_core.specs.Records.{Records, request_in}
use Rattle.reg_core.specs.Sound.{Sound}
use Rattle.reg_core.specs.declared.rows.RequestRow.{RequestRow}
use Rattle.reg_core.specs.declared.rows.RevocationRow.{RevocationRow}
use Rattle.reg_core.specs.declared.command.Command.{Command}
use Rattle.reg_core.specs.declared.command.Command.TheVariants.{Revoke}
use Rattle.reg_core.specs.declared.command.Reply.{Reply}
use Rattle.reg_core.specs.declared.command.Reply.TheVariants.{Revoked as RevokedNow}
use Rattle.reg_core.specs.declared.refusal.Fault.{Fault}
use Rattle.reg_core_laws.specs.Run.{Happens, Run}

-- the revocation that a command adds: the command revokes by a recorded request, and the revocation has that request's
-- serial number, the command's moment, the reason of the request's ground, and the next CRL as its first
pub record IsRevocationBy (before : Records) (now : ℕ) (command : Command)
    (revocation : RevocationRow) : Type 0 where
  pub request : RequestRow
  pub commanded : command ≡ Revoke request.id
  pub recorded : request_in before.requests request.id ≡ Some request
  pub of_request : revocation.request ≡ request.id
  pub of_serial : revocation.serial ≡ request.serial
  pub at_now : revocation.at ≡ now
  pub with_reason : revocation.reason ≡ reason_of request.ground
  pub from_next : revocation.first ≡ next_number before.crls

-- the revocations after a command: with the reply `RevokedNow` there is one more, by this command; else they stay the same
abbrev pub RevocationsMove : Records → ℕ → Command → Result Reply Fault → Records → Type 0
RevocationsMove before now command (Ok (RevokedNow late)) after =
    (revocation : RevocationRow)
    × (after.revocations ≡ before.revocations ++ revocation ∷ [])
    × IsRevocationBy before now command revocation
RevocationsMove before now command outcome after = after.revocations ≡ before.revocations

-- at every command of every run, the revocations change as `RevocationsMove` says
abbrev pub RevocationsMoveExactly : (CertList → List ℕ → Type 0) → Type 0
RevocationsMoveExactly signed =
    (records before next : Records)
    (prefix : List (ℕ × Command))
    (early : List (Result Reply Fault))
    (now : ℕ)
    (command : Command)
    (outcome : Result Reply Fault)
    → Sound signed records
    → Run signed records prefix early before
    → Happens signed before now command outcome next
    → RevocationsMove before now command outcome next
