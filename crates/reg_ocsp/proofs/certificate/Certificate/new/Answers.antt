use Rattle.std.proofs.Common.{◌≡◌, ℕ, List, Some, None}
use Rattle.reg_ocsp.proofs.certificate.Certificate.new.Goals as goal

none_given : (x : List ℕ × List ℕ) → None ≡ Some x → ⊥
none_given x e = cc

pub returns-in-None-clause-bad : goal.returns-in-None-clause-bad
returns-in-None-clause-bad c =
    λ bad algorithm key is. none_given (algorithm, key) (c.in-None.ensures.only algorithm key is)
