use Rattle.std.proofs.Common.{◌≡◌, rules, inl, inr, refl}
use Rattle.reg_desk_service.proofs.PublicLaws.{then_still}
use Rattle.reg_desk_jobs.proofs.Checked.{seen_then}
use Rattle.reg_desk_jobs.proofs.lines_job.script_by_lines.Goals as goal

pub returns-in_err-office : goal.returns-in_err-office
returns-in_err-office g c = let unopened = rw c.as_str-path.ensures at c.in_err-office.ensures.err in inr (search rules)

pub returns-in-Err : goal.returns-in-Err
returns-in-Err g c = inl (
  c.in-Err.why,
  refl,
  refl,
  refl,
  record {
    first = c.in_ok-office.office;
    last = c.check_clock.new.office;
    between = c.open_signed.new.machine;
    opened = rw c.as_str-path.ensures at c.in_ok-office.ensures.ok;
    moves = c.in-Err.ensures;
    closed = rw c.as_str-path.ensures at c.close.ensures;
  },
)

pub returns : goal.returns
returns g c = inr (inr (
  c.run_over-ran.result,
  c.run_ended.ensures,
  record {
    first = c.in_ok-office.office;
    last = c.keep_reason.new.office;
    between = c.open_signed.new.machine;
    opened = rw c.as_str-path.ensures at c.in_ok-office.ensures.ok;
    moves = then_still g.M.Office.Office.is_clean g.M.Office.Office.stands _ _ _ _
        (seen_then g.M.Office.Office.is_clean g.M.Office.Office.stands _ _ _ _ _ c.in-Ok.ensures c.run_over-ran.ensures) c.keep_reason.ensures;
    closed = rw c.as_str-path.ensures at c.close-2.ensures;
  },
))
