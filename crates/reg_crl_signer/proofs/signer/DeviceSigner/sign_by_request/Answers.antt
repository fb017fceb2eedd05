use Rattle.std.proofs.Common.{arith}
use Rattle.reg_crl_signer.specs.DeviceSigners.{SignsByDevice, device_identity}
use Rattle.reg_crl_signer.proofs.Signings.{gives}
use Rattle.reg_crl_signer.proofs.signer.DeviceSigner.sign_by_request.Goals as goal

pub returns-then-ask_device-clause-signing : goal.returns-then-ask_device-clause-signing
returns-then-ask_device-clause-signing g c =
    gives (device_identity g.D.Device) (SignsByDevice g.D.Device) (λ it. it.failures) _ _ c.args.message.now _
    c.if-ask_device.ensures.signed (omega (arith, c.if-ask_device.ensures.short)) c.ask_device.ensures.same_failures c.ask_device.ensures.same_identity

pub returns-then-ask_device-clause-asks : goal.returns-then-ask_device-clause-asks
returns-then-ask_device-clause-asks g c = record {
  device_answered = λ none. c.if-ask_device.ensures.device_answered;
  given = λ some. absurd (some c.requires);
  within = c.if-ask_device.ensures.short;
  why = λ none is. absurd (cc);
  same_path = c.ask_device.ensures.same_path;
}
