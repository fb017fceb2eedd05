-- The algorithm of a CRL, as it is read.
use Rattle.std.proofs.Common.{◌≡◌, ℕ, List, ◌++◌, sym, ◌∙◌}
use Rattle.reg_der.specs.Der.{IsTlv}
use Rattle.reg_der.proofs.PublicLaws.{no_two_prefixes}
use Rattle.reg_crl_signer.specs.Signed.{IsCrlWithAlgorithm}

-- what follows the first value in a CRL begins with the algorithm
pub behind_tbs : (bytes inner raw contents after algorithm : List ℕ) (tag : ℕ) → IsTlv raw tag contents → inner ≡ raw ++ after
    → (is : IsCrlWithAlgorithm bytes algorithm) → inner ≡ is.tbs ++ (algorithm ++ is.behind) → after ≡ algorithm ++ is.behind
behind_tbs bytes inner raw contents after algorithm tag value parts is same =
    (no_two_prefixes raw after contents is.tbs (algorithm ++ is.behind) is.tbs_contents tag 48 value is.is_tbs (sym parts ∙ same)).3

-- and the value there is the algorithm
pub is_under : (bytes rest raw contents after algorithm : List ℕ) (tag : ℕ) → IsTlv raw tag contents → rest ≡ raw ++ after
    → (is : IsCrlWithAlgorithm bytes algorithm) → rest ≡ algorithm ++ is.behind → raw ≡ algorithm
is_under bytes rest raw contents after algorithm tag value parts is same =
    (no_two_prefixes raw after contents algorithm is.behind is.algorithm_contents tag 48 value is.is_algorithm (sym parts ∙ same)).0
