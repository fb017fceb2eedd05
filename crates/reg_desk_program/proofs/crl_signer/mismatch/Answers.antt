use Rattle.std.proofs.Common.{Some, ◌∙◌, sym, ap}
use Rattle.std.specs.Prelude.{option_map}
use Rattle.reg_desk_program.proofs.AlgorithmMismatches.{of_latest}
use Rattle.reg_desk_program.proofs.crl_signer.mismatch.Goals as goal

pub returns-in-Some : goal.returns-in-Some
returns-in-Some c =
    of_latest (option_map (λ bytes. bytes.items) c.args.latest.now) c.deref.result.now c.args.algorithm.now c.mismatch_of.result
    (ap (option_map (λ bytes. bytes.items)) c.in-Some.is ∙ ap Some (sym c.deref.ensures.value)) c.mismatch_of.ensures
