-- The fault of a command whose CRL could not be signed.
use Rattle.reg_core.specs.declared.refusal.Fault.{Fault}
use Rattle.reg_core.specs.declared.refusal.Fault.TheVariants.{Memory as LackedMemory, Signer as SignerFailed}
use Rattle.reg_crl.specs.declared.signer.SignFault.{SignFault}
use Rattle.reg_crl.specs.declared.signer.SignFault.TheVariants.{Device, Memory}

-- `Memory` for `Memory`, `Signer` for `Device`
abbrev pub signer_fault_of : SignFault → Fault
signer_fault_of Device = SignerFailed
signer_fault_of Memory = LackedMemory
