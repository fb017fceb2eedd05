-- The answers to queries, and to requests for the bytes of a CRL.
use Rattle.std.specs.Prelude.{◌≡◌, ℕ, ◌<◌, List, Option, Some, None, option_map, Result, Ok, Err}
use Rattle.reg_core.specs.Checks.{clock_end}
use Rattle.reg_core.specs.Crls.{latest}
use Rattle.reg_core.specs.Queries.{answer}
use Rattle.reg_core.specs.Records.{Records, Crl, crl_in}
use Rattle.reg_core.specs.declared.command.Query.{Query}
use Rattle.reg_core.specs.declared.command.Reply.{Reply}
use Rattle.reg_core.specs.declared.refusal.Refusal.TheVariants.{NoCrl}
use Rattle.reg_core.specs.declared.refusal.Fault.{Fault}
use Rattle.reg_core.specs.declared.refusal.Fault.TheVariants.{Refused, Memory, Store, Signer, Read, Write}

-- a query's outcome: the reply or the refusal of `answer`; or, before `clock_end`, out of memory or a failure of the store
abbrev pub IsAnswered : Records → ℕ → Query → Result Reply Fault → Type 0
IsAnswered records now query (Ok reply) = answer records now query ≡ Ok reply
IsAnswered records now query (Err (Refused refusal)) = answer records now query ≡ Err refusal
IsAnswered records now query (Err Memory) = now < clock_end
IsAnswered records now query (Err Store) = now < clock_end
IsAnswered records now query (Err Signer) = ⊥
IsAnswered records now query (Err Read) = ⊥
IsAnswered records now query (Err Write) = ⊥

-- the CRL with a number, or the latest one if no number is given
abbrev pub crl_for_number : Records → Option ℕ → Option Crl
crl_for_number records (Some number) = crl_in records.crls number
crl_for_number records None = latest records.crls

-- the outcome of a request for the bytes of a CRL: the bytes; the refusal `NoCrl`, if there is no such CRL; out of memory; or a failure of the store
abbrev pub IsGiven : Records → Option ℕ → Result (List ℕ) Fault → Type 0
IsGiven records number (Ok bytes) = option_map (λ crl. crl.bytes) (crl_for_number records number) ≡ Some bytes
IsGiven records number (Err (Refused refusal)) = (refusal ≡ NoCrl) × (crl_for_number records number ≡ None)
IsGiven records number (Err Memory) = Unit {0}
IsGiven records number (Err Store) = Unit {0}
IsGiven records number (Err Signer) = ⊥
IsGiven records number (Err Read) = ⊥
IsGiven records number (Err Write) = ⊥
