-- Preset signatures.
use Rattle.std.specs.Prelude.{ℕ, List, Option}
use Rattle.std.specs.Option.{ForSome}
use Rattle.reg_crl_signer.specs.declared.preset_signature.PresetSignature.{PresetSignature}

-- there is no preset, or no answer in it, or the answer is one that another caller got for the preset's message
abbrev pub IsPreset : (List ℕ → List ℕ → Type 0) → Option PresetSignature → Type 0
IsPreset answered_another_caller preset_signature =
    ForSome preset_signature
    (λ known. ForSome known.answer (λ answer. ∥ answered_another_caller known.message.items answer.items ∥₁))
