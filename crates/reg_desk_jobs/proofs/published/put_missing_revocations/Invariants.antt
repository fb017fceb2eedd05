use Rattle.std.proofs.Common.{ℕ, List, length}
use Rattle.reg_crl.specs.Reading.{AreEntries}
use Rattle.reg_office_api.specs.Leads.{Looks}
use Rattle.reg_desk_jobs.proofs.Comparing.{HasMissing}
use Rattle.reg_desk_jobs.proofs.published.put_missing_revocations.Given as goal

abbrev pub invariant-loop-rest : goal.invariant-loop-rest
invariant-loop-rest g l = (done : List ℕ) × AreEntries l.entries done l.rest
    × Looks g.O.Office.is_clean g.O.Office.stands (HasMissing l.last l.initial.lines.items l.lines.items done) l.initial.office l.office

abbrev pub decreases-loop-rest : goal.decreases-loop-rest
decreases-loop-rest g l = length l.rest
