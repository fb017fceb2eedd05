use Rattle.std.proofs.Common.{◌≤◌, length}
use Rattle.reg_store_tables.specs.LookUps.{LooksUp}
use Rattle.reg_office.proofs.follow.revocations_in.Given as goal

abbrev pub invariant-loop : goal.invariant-loop
invariant-loop g l =
    LooksUp g.C.Store l.fn.tables l.tables (λ records. length records.revocations ≤ l.most → (l.low ≤ length records.revocations) × (length records.revocations ≤ l.high))
