use Rattle.std.proofs.Common.{List, ℕ, Ok, Err, refl, subst, sym, ◌∙◌}
use Rattle.reg_core.specs.declared.memory.Memory.{Memory as NoMemory}
use Rattle.reg_lines.specs.Answer.{OcspLineComesTo}
use Rattle.reg_lines.specs.ByCalls.{LineCalls, responded}
use Rattle.reg_lines.specs.Meaning.{decoded_bytes}
use Rattle.reg_lines.proofs.CallsNotMade.{unasked}
use Rattle.reg_lines.proofs.Readings.{bytes_of-decoded}
use Rattle.reg_lines.proofs.run.run_ocsp.Goals as goal

pub returns-in_default : goal.returns-in_default
returns-in_default g c =
    let nothing : NoMemory = record {} in
    (Err nothing, unasked g.O.Office c.args.office.now c.args.now (decoded_bytes c.args.digits.now) nothing, rw c.no_memory.ensures (refl, refl))

pub returns-in-Ok-ocsp : goal.returns-in-Ok-ocsp
returns-in-Ok-ocsp g c =
    let same = c.deref.ensures.value ∙ sym (bytes_of-decoded c.args.digits.now _ c.in-Ok.ensures.ok) in
    let given = Ok c.in-Ok-ocsp.response.items in (
      given,
      subst (λ (b : List ℕ). LineCalls g.O.Office c.args.office.now c.args.now (responded b given) c.ocsp.new.self) same
          (c.in-Ok-ocsp.ensures, (λ failed. absurd failed)),
      subst (λ (b : List ℕ). OcspLineComesTo (Ok b) c.respond.result) c.deref-in-Ok-ocsp.ensures.value c.respond.ensures,
    )

pub returns : goal.returns
returns g c =
    let same = c.deref.ensures.value ∙ sym (bytes_of-decoded c.args.digits.now _ c.in-Ok.ensures.ok) in (
      Err _,
      subst (λ (b : List ℕ). LineCalls g.O.Office c.args.office.now c.args.now (responded b (Err _)) c.ocsp.new.self) same
          (c.in-Err.ensures, (λ failed. absurd failed)),
      rw c.no_memory-in-Err.ensures (refl, refl),
    )
