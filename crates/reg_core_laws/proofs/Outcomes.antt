-- The outcome of a command, in two cases: a refusal or a fault leaves the records as they are; an acceptance changes them.
use Rattle.std.proofs.Common.{◌≡◌, ℕ, List, Option, Some, None, Result, Ok, Err, refl}
use Rattle.reg_core.specs.Crls.{CertList}
use Rattle.reg_core.specs.Records.{Records}
use Rattle.reg_core.specs.Step.{StepBy, IsSigned, refusal, reply, changed}
use Rattle.reg_core.specs.declared.command.Command.{Command}
use Rattle.reg_core.specs.declared.command.Reply.{Reply}
use Rattle.reg_core.specs.declared.refusal.Refusal.{Refusal}
use Rattle.reg_core.specs.declared.refusal.Fault.{Fault}
use Rattle.reg_core.specs.declared.refusal.Fault.TheVariants.{Refused, Memory, Store, Signer, Read, Write}
use Rattle.reg_core_laws.specs.Run.{Happens}

pub data Outcome (signed : CertList → List ℕ → Type 0) (records : Records) (now : ℕ) (command : Command) (outcome : Result Reply Fault)
    (after : Records) : Type 0 where
  Stays : (fault : Fault) → outcome ≡ Err fault → after ≡ records → Outcome signed records now command outcome after
  Changes : (bytes : List ℕ)
      → refusal records now command ≡ None
      → outcome ≡ Ok (reply records now command)
      → IsSigned signed records now command bytes
      → after ≡ changed records now command bytes
      → Outcome signed records now command outcome after

module _ (signed : CertList → List ℕ → Type 0) (records : Records) (now : ℕ) (command : Command) where
  -- of a step, by the refusal that applies
  of_step : (outcome : Result Reply Fault) (after : Records) (refused : Option Refusal) → refusal records now command ≡ refused
      → StepBy signed refused records now command outcome after → Outcome signed records now command outcome after
  of_step outcome after (Some refused) is step = Stays (Refused refused) step.0 step.1
  of_step outcome after None is step = Changes step.0 is step.1 step.2 step.3

  pub outcome_of : (outcome : Result Reply Fault) (after : Records) → Happens signed records now command outcome after
      → Outcome signed records now command outcome after
  outcome_of (Ok reply) after happens = of_step (Ok reply) after (refusal records now command) refl happens
  outcome_of (Err (Refused refused)) after happens = of_step (Err (Refused refused)) after (refusal records now command) refl happens
  outcome_of (Err Memory) after happens = Stays Memory refl happens.1
  outcome_of (Err Store) after happens = Stays Store refl happens.1
  outcome_of (Err Signer) after happens = Stays Signer refl happens.2
  outcome_of (Err Read) after happens = absurd happens
  outcome_of (Err Write) after happens = absurd happens

  -- what holds of the same records after any fault, and of the changed ones after the reply, holds of what comes of a command
  pub by_outcome : (P : Result Reply Fault → Records → Type 0) → ((fault : Fault) → P (Err fault) records)
      → ((bytes : List ℕ) → refusal records now command ≡ None → IsSigned signed records now command bytes → P (Ok (reply records now command))
      (changed records now command bytes))
      → (outcome : Result Reply Fault) (after : Records) → Happens signed records now command outcome after → P outcome after
  by_outcome P stays changes outcome after happens = go (outcome_of outcome after happens)
    where
      go : Outcome signed records now command outcome after → P outcome after
      go (Stays fault is same) = rw (is, same) (stays fault)
      go (Changes bytes none is over made) = rw (is, made) (changes bytes none over)
