-- No algorithm of a key is that of the digest, so what has the form of a key's signature does not stand under it.
use Rattle.std.proofs.Common.{refl, inl, inr}
use Rattle.reg_desk_program.proofs.Signers.{no_key}
use Rattle.reg_desk_program.proofs.laws.without_a_key_only_digests_are_made.Goals as goal

pub returns : goal.returns
returns g c = record {
  algorithm = refl;
  signature_is_sha1 = λ message signature signed. elim signed [
    | inl has_placeholder_digest ↦ has_placeholder_digest.1
    | inr keyed ↦ absurd (no_key keyed.1.algorithm keyed.1.named)
  ];
}
