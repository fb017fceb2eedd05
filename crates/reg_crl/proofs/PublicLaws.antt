-- The law that proofs of other crates cite. It is stated in specs/, and a function of `laws` ensures it.
use Rattle.std.proofs.Common.{ℕ, zero, suc, ◌<◌, List, [], ◌∷◌, refl, arith}
use Rattle.std.specs.List.{AllByRecursion}
use Rattle.reg_core.specs.Integer.{IsBytes}
use Rattle.reg_der.proofs.PublicLaws.{value_size}
use Rattle.reg_crl.specs.Signing.{SequencesAreAlgorithms}

each_byte : (bytes : List ℕ) → AllByRecursion (λ byte. byte < 256) bytes → IsBytes bytes
each_byte [] all i = omega arith
each_byte (byte ∷ bytes) all zero = all.0
each_byte (byte ∷ bytes) all (suc i) = each_byte bytes all.1 i

pub sequence_is_algorithm : SequencesAreAlgorithms
sequence_is_algorithm contents octets few = record {
  contents = contents;
  sequence = record { one_byte = omega arith; low_tag = omega arith; byte_contents = each_byte contents octets; short = omega arith; spelled = refl };
  short = omega (arith, (value_size 48 contents).most);
}
