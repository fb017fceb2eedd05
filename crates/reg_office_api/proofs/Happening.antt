-- What comes of a command where the next CRL is signed in one sense, and so in another.
use Rattle.std.proofs.Common.{ℕ, List, Option, Some, None, Result, Ok, Err}
use Rattle.reg_core.specs.Crls.{CertList, cert_list, next_number}
use Rattle.reg_core.specs.Records.{Records}
use Rattle.reg_core.specs.Step.{IsSigned, StepBy, refusal}
use Rattle.reg_core.specs.declared.command.Command.{Command}
use Rattle.reg_core.specs.declared.command.Command.TheVariants.{Subscriber, Order, Register, Request, Decline, Revoke, Crl as IssueCrl}
use Rattle.reg_core.specs.declared.command.Reply.{Reply}
use Rattle.reg_core.specs.declared.refusal.Refusal.{Refusal}
use Rattle.reg_core.specs.declared.refusal.Fault.{Fault}
use Rattle.reg_core.specs.declared.refusal.Fault.TheVariants.{Refused, Memory, Store, Signer, Read, Write}
use Rattle.reg_core_laws.specs.Run.{Happens}

module _ (first second : CertList → List ℕ → Type 0) (records : Records) (now : ℕ)
    (leads : (bytes : List ℕ) → first (cert_list records (next_number records.crls) now) bytes → second (cert_list records (next_number records.crls) now) bytes) where
  bytes_by : (command : Command) (bytes : List ℕ) → IsSigned first records now command bytes → IsSigned second records now command bytes
  bytes_by (Subscriber name) bytes h = h
  bytes_by (Order subscriber days) bytes h = h
  bytes_by (Register order serial not_before not_after) bytes h = h
  bytes_by (Request serial word) bytes h = h
  bytes_by (Decline id) bytes h = h
  bytes_by (Revoke id) bytes h = h
  bytes_by IssueCrl bytes h = leads bytes h

  step_by : (command : Command) (outcome : Result Reply Fault) (after : Records) (found : Option Refusal)
      → StepBy first found records now command outcome after → StepBy second found records now command outcome after
  step_by command outcome after (Some why) h = h
  step_by command outcome after None h = (h.0, h.1, bytes_by command h.0 h.2, h.3)

  -- whatever the command
  pub happens_by : (command : Command) (outcome : Result Reply Fault) (after : Records)
      → Happens first records now command outcome after → Happens second records now command outcome after
  happens_by command (Ok reply) after h = step_by command (Ok reply) after (refusal records now command) h
  happens_by command (Err (Refused why)) after h = step_by command (Err (Refused why)) after (refusal records now command) h
  happens_by command (Err Memory) after h = h
  happens_by command (Err Store) after h = h
  happens_by command (Err Signer) after h = h
  happens_by command (Err Read) after h = h
  happens_by command (Err Write) after h = h
