use Rattle.std.proofs.Common.{◌∙◌, refl}
use Rattle.reg_desk_program.proofs.host.SystemHostMachine.set_preset.Goals as goal

pub returns : goal.returns
returns c = (
  (λ clean. clean),
  (λ those before stood clean.
      let ((interrupted, (is, stands, left)), are) = stood in
      (before, refl, ((interrupted, (c.preset_next.ensures ∙ is, stands, left)), are))),
)
