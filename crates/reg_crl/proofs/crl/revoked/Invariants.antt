use Rattle.std.proofs.Common.{◌≡◌, ◌*◌, ◌≤◌, length, take}
use Rattle.std.specs.List.{flat_map}
use Rattle.reg_crl.specs.Crl.{revoked_certificate}
use Rattle.reg_crl.proofs.crl.revoked.Given as goal

abbrev pub invariant-loop-entry : goal.invariant-loop-entry
invariant-loop-entry l =
    (l.out.items ≡ flat_map revoked_certificate (take l.entry-index l.entries))
    × (length l.out.items ≤ 59 * l.entry-index)
