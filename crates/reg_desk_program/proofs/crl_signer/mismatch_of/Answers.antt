use Rattle.reg_desk_program.proofs.AlgorithmMismatches.{of_found}
use Rattle.reg_desk_program.proofs.crl_signer.mismatch_of.Goals as goal

pub returns-in-Some : goal.returns-in-Some
returns-in-Some c = of_found c.args.crl.now c.in-Some.found.now c.args.algorithm.now c.difference.result c.in-Some.ensures c.difference.ensures

pub returns-in-None : goal.returns-in-None
returns-in-None c = λ other under. absurd (c.in-None.ensures other under)
