use Rattle.std.proofs.Common.{◌≡◌, ℕ, map, take}
use Rattle.std.specs.BTreeMap.{get}
use Rattle.std.specs.Ordering.{nat_cmp}
use Rattle.reg_audit.specs.DerivedAsRead.{standing_by}
use Rattle.reg_audit.proofs.derived_rows.standings.Given as goal

abbrev pub invariant-loop-certificate : goal.invariant-loop-certificate
invariant-loop-certificate l =
    l.made.items ≡ map (standing_by l.last (λ (key : ℕ). get nat_cmp l.revocations key)) (take l.certificate-index l.certificates)
