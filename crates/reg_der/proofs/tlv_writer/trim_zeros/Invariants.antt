use Rattle.std.proofs.Common.{◌≡◌, ◌≤◌, length}
use Rattle.reg_core.specs.Integer.{without_zeros}
use Rattle.reg_der.proofs.tlv_writer.trim_zeros.Given as goal

abbrev pub invariant-loop-digits : goal.invariant-loop-digits
invariant-loop-digits l =
    (without_zeros l.digits ≡ without_zeros l.octets) × (length l.digits ≤ length l.octets)

abbrev pub decreases-loop-digits : goal.decreases-loop-digits
decreases-loop-digits l = length l.digits
