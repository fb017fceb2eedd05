use Rattle.std.proofs.Common.{◌≡◌, rules, inl, inr, refl}
use Rattle.reg_office_api.proofs.PublicLaws.{follows}
use Rattle.reg_desk_jobs.proofs.Checked.{seen_then}
use Rattle.reg_desk_jobs.proofs.jobs.import_at.Goals as goal

pub returns-in_err-office : goal.returns-in_err-office
returns-in_err-office g c = let unopened = rw c.as_str-path.ensures at c.in_err-office.ensures.err in inr (search rules)

pub returns-in-Err : goal.returns-in-Err
returns-in-Err g c = inl (
  c.in-Err.ensures.checked,
  (
    c.in-Err.why,
    refl,
    refl,
    refl,
    record {
      first = c.in_ok-office.office;
      last = c.check_import.new.office;
      between = c.open_unsigned.new.machine;
      opened = rw c.as_str-path.ensures at c.in_ok-office.ensures.ok;
      moves = follows g.M.Office.Office.is_clean g.M.Office.Office.stands _ _ (λ signers before after seen. (seen.0 c.in-Err.ensures.checked, seen.1)) _ _
          c.in-Err.ensures.looks;
      closed = rw c.as_str-path.ensures at c.close.ensures;
    },
  ),
)

pub returns-then-rows : goal.returns-then-rows
returns-then-rows g c = rw c.if-rows.true (inr (inr (
  c.import_strict_rows-imported.result,
  c.run_ended.ensures,
  record {
    first = c.in_ok-office.office;
    last = c.import_strict_rows-imported.new.office;
    between = c.open_unsigned.new.machine;
    opened = rw c.as_str-path.ensures at c.in_ok-office.ensures.ok;
    moves = seen_then g.M.Office.Office.is_clean g.M.Office.Office.stands _ _ _ _ _ c.in-Ok.ensures.looks c.import_strict_rows-imported.ensures;
    closed = rw c.as_str-path.ensures at c.close-then-rows.ensures;
  },
)))

pub returns : goal.returns
returns g c = rw c.if-rows.false (inr (inr (
  c.import-imported.result,
  c.ended.ensures,
  record {
    first = c.in_ok-office.office;
    last = c.import-imported.new.office;
    between = c.open_unsigned.new.machine;
    opened = rw c.as_str-path.ensures at c.in_ok-office.ensures.ok;
    moves = seen_then g.M.Office.Office.is_clean g.M.Office.Office.stands _ _ _ _ _ c.in-Ok.ensures.looks c.import-imported.ensures.ends;
    closed = rw c.as_str-path.ensures at c.close-2.ensures;
  },
)))
