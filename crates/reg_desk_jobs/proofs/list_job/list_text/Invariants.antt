use Rattle.std.proofs.Common.{List}
use Rattle.reg_office_api.specs.Leads.{Leads}
use Rattle.reg_core_lists.specs.declared.rows.Row.{Row}
use Rattle.reg_desk_service.proofs.PublicLaws.{IsGoing, IsText}
use Rattle.reg_desk_jobs.proofs.list_job.list_text.Given as goal

-- so many rows were given, and are the text so far
abbrev pub invariant-loop : goal.invariant-loop
invariant-loop g l = (done : List Row) × IsText l.wanted.form l.wanted.filter l.wanted.from done l.text.items
    × Leads g.M.Office.Office.is_clean g.M.Office.Office.stands (IsGoing l.now l.wanted.from done l.next) l.initial.register l.register
