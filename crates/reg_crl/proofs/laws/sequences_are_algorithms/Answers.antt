use Rattle.reg_crl.proofs.PublicLaws.{sequence_is_algorithm}
use Rattle.reg_crl.proofs.laws.sequences_are_algorithms.Goals as goal

pub returns : goal.returns
returns c = sequence_is_algorithm
