-- The result of `sign` if the signer returned a signature.
use Rattle.std.proofs.Common.{◌≡◌, ℕ, ◌≤◌, List, length, Ok, Vec, Global}
use Rattle.reg_crl.specs.Signatures.{SignsOrFails}
use Rattle.reg_crl.specs.Signing.{Identity}

pub gives : {S : Type 0} (identity : S → Identity) (signs : Identity → List ℕ → List ℕ → Type 0) (failure_count : S → ℕ) (old new : S)
    (message : List ℕ) (signature : Vec ℕ Global) → signs (identity old) message signature.items → length signature.items ≤ 65536
    → failure_count new ≡ failure_count old → identity new ≡ identity old
    → SignsOrFails identity signs failure_count old new message (Ok signature)
gives identity signs failure_count old new message signature signed short count same = record {
  signed = signed;
  short = short;
  device = λ is. absurd (cc);
  exhausted = λ full is. cc;
  memory = λ is. absurd (cc);
  ok = count;
  same_identity = same;
}
