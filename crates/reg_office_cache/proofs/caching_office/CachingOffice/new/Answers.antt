use Rattle.std.proofs.Common.{arith}
use Rattle.reg_office_cache.proofs.UndecidedRows.{none_kept}
use Rattle.reg_office_cache.proofs.caching_office.CachingOffice.new.Goals as goal

pub returns-clause-undecided : goal.returns-clause-undecided
returns-clause-undecided g c records =
    none_kept records c.new.result (omega (arith, c.new.ensures.revocations)) c.new.ensures.requests c.new.ensures.rows
