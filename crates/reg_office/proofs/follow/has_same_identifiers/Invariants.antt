use Rattle.std.proofs.Common.{◌≡◌, ◌≤◌, ℕ}
use Rattle.reg_der.specs.Authority.{key_identifier_at}
use Rattle.reg_office.proofs.follow.has_same_identifiers.Given as goal

abbrev pub invariant-loop-count : goal.invariant-loop-count
invariant-loop-count l = (number : ℕ) → 1 ≤ number → number ≤ l.count → key_identifier_at l.given number ≡ key_identifier_at l.own number
