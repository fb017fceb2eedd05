use Rattle.std.proofs.Common.{◌≡◌, ℕ, map, take}
use Rattle.std.specs.BTreeMap.{get}
use Rattle.std.specs.Ordering.{nat_cmp}
use Rattle.reg_core.specs.Sound.{NumberedFrom, NeverDecreases}
use Rattle.reg_core.specs.declared.rows.CrlRow.{CrlRow}
use Rattle.reg_audit.specs.DerivedAsRead.{listed_with}
use Rattle.reg_audit.proofs.derived_rows.listings.Given as goal

abbrev pub invariant-loop-revocation : goal.invariant-loop-revocation
invariant-loop-revocation l =
    NumberedFrom (λ (crl : CrlRow). crl.number) 1 l.crls → NeverDecreases (λ (crl : CrlRow). crl.this_update) l.crls
    → l.made.items ≡ map (listed_with l.crls (λ (key : ℕ). get nat_cmp l.certificates key)) (take l.revocation-index l.revocations)
