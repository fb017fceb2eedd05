-- A revocation is added by a command with the reply `Revoked`, and by nothing else.
use Rattle.std.proofs.Common.{◌≡◌, ℕ, List, None, Ok, refl, sym, ap, ◌∙◌, arith}
use Rattle.reg_core.specs.Changes.{with_revocation}
use Rattle.reg_core.specs.Crls.{CertList}
use Rattle.reg_core.specs.Records.{Records, request_in}
use Rattle.reg_core.specs.Sound.{SoundRows}
use Rattle.reg_core.specs.Step.{refusal, reply, changed, revocation_row}
use Rattle.reg_core.specs.declared.command.Command.{Command}
use Rattle.reg_core.specs.declared.command.Command.TheVariants.{Register, Revoke}
use Rattle.reg_core_laws.specs.Revocations.{RevocationsMove, RevocationsMoveExactly}
use Rattle.reg_core_laws.proofs.Accepted.{accepted_revoke}
use Rattle.reg_core_laws.proofs.Lists.{key_found}
use Rattle.reg_core_laws.proofs.Outcomes.{by_outcome}
use Rattle.reg_core_laws.proofs.Runs.{keeps_sound}

-- an accepted command moves the revocations as its reply says
command_moves : (records : Records) (now : ℕ) (command : Command) (bytes : List ℕ) → SoundRows records → refusal records now command ≡ None
    → RevocationsMove records now command (Ok (reply records now command)) (changed records now command bytes)
command_moves records now (Revoke id) bytes sound accepted =
    let settled = accepted_revoke records now id sound accepted in
    let own : settled.request.id ≡ id = key_found (λ request. request.id) records.requests id settled.request settled.found in
    let row = revocation_row records now settled.request in
    let becomes : changed records now (Revoke id) bytes ≡ with_revocation records now row = rw settled.found in (
      row,
      ap (λ r. r.revocations) becomes,
      record {
        request = settled.request;
        commanded = ap Revoke (sym own);
        recorded = ap (request_in records.requests) own ∙ settled.found;
        of_request = refl;
        of_serial = refl;
        at_now = refl;
        with_reason = refl;
        from_next = refl;
      },
    )
command_moves records now (Register order serial not_before not_after) bytes sound accepted = grind arith
command_moves records now command bytes sound accepted = refl

pub revocations_move_exactly : (signed : CertList → List ℕ → Type 0) → RevocationsMoveExactly signed
revocations_move_exactly signed records before next front early now command outcome sound run happens =
    by_outcome signed before now command (RevocationsMove before now command) (λ fault. refl)
    (λ bytes accepted over. command_moves before now command bytes (keeps_sound signed records before front early sound run).rows accepted) outcome next happens
