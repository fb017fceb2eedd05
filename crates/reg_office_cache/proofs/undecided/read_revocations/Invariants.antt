use Rattle.std.proofs.Common.{◌≡◌, ◌-◌, ◌^◌, false, cond, length}
use Rattle.reg_store_tables.specs.LookUps.{LooksUp}
use Rattle.reg_office_cache.specs.Undecided.{AreUndecided}
use Rattle.reg_office_cache.proofs.undecided.read_revocations.Given as goal

abbrev pub invariant-loop-is_full : goal.invariant-loop-is_full
invariant-loop-is_full g l =
    LooksUp g.C.Store l.fn.tables l.tables (λ records. AreUndecided records l.fn.known
    → AreUndecided records l.known × (l.is_full ≡ false → l.known.revocations ≡ length records.revocations))

abbrev pub decreases-loop-is_full : goal.decreases-loop-is_full
decreases-loop-is_full g l = cond l.is_full (2 ^ 64 - l.known.revocations) 0
