use Rattle.std.proofs.Common.{ℕ, List, refl, subst, arith}
use Rattle.reg_crl_signer.specs.DeviceSigners.{SignsByDevice, device_identity}
use Rattle.reg_crl_signer.proofs.Signings.{gives}
use Rattle.reg_crl_signer.proofs.signer.DeviceSigner.sign_preset.Goals as goal

pub returns-in-Some-clause-signing : goal.returns-in-Some-clause-signing
returns-in-Some-clause-signing g c =
    let key = g.D.Device.public_key c.args.self.now.device in
    let device_path = g.D.Device.device_path c.args.self.now.device in
    let P : List ℕ → Type 0 = λ message. ∥ g.D.Device.answered_another_caller device_path message c.in-Some.answer.items ∥₁ in
    let given : P c.args.message.now = subst P c.in-Some.ensures.given.1 (c.requires c.args.preset_signature refl c.in-Some.answer c.in-Some.ensures.given.0) in
    let form = rw c.deref.ensures.value at c.if-is_signature.ensures.form in
    gives (device_identity g.D.Device) (SignsByDevice g.D.Device) (λ it. it.failures) _ _ c.args.message.now _
    (g.D.Device.others_answers_are_answers key device_path c.args.message.now c.in-Some.answer.items given, record { algorithm = c.args.self.now.algorithm; named = refl; form = form.0 })
    (omega (arith, form.1)) refl refl
