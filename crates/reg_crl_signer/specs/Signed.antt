-- The signatureAlgorithm of a CRL.
use Rattle.std.specs.Prelude.{ℕ, List, ◌++◌}
use Rattle.reg_der.specs.Der.{IsTlv}

-- the bytes are a SEQUENCE of a tbsCertList (a SEQUENCE), this signatureAlgorithm (a SEQUENCE) and any further bytes (RFC 5280 5.1.1)
pub record IsCrlWithAlgorithm (bytes algorithm : List ℕ) : Type 0 where
  pub tbs : List ℕ
  pub tbs_contents : List ℕ
  pub algorithm_contents : List ℕ
  pub behind : List ℕ
  pub is_tbs : IsTlv tbs 48 tbs_contents
  pub is_algorithm : IsTlv algorithm 48 algorithm_contents
  pub sequence : IsTlv bytes 48 (tbs ++ (algorithm ++ behind))
