use Rattle.std.proofs.Common.{◌∙◌, ap, inl, inr, refl}
use Rattle.std.specs.Prelude.{Err, Ok}
use Rattle.reg_desk_jobs.proofs.FollowRuns.{is_err}
use Rattle.reg_desk_jobs.proofs.follow_job.follow.Goals as goal

pub returns-in_err-remove_leftovers : goal.returns-in_err-remove_leftovers
returns-in_err-remove_leftovers g c = inl (
  is_err c.from_residual.result _ c.from_residual.ensures.1 ∙ ap Err c.in_err-remove_leftovers.ensures.faults,
  c.in_err-remove_leftovers.ensures.err,
  refl,
)

pub returns-in_err-prepare : goal.returns-in_err-prepare
returns-in_err-prepare g c =
    let leftovers = rw c.as_str-path.ensures at c.in_ok-remove_leftovers.ensures.ok in
    inr (
      c.remove_leftovers.new.machine,
      c.prepare.new.machine,
      Err c.in_err-prepare.field-0.0,
      leftovers,
      c.in_err-prepare.ensures,
      (refl, is_err c.from_residual-in_err-prepare.result _ c.from_residual-in_err-prepare.ensures.1, refl),
    )

pub returns-in_err-office : goal.returns-in_err-office
returns-in_err-office g c =
    let leftovers = rw c.as_str-path.ensures at c.in_ok-remove_leftovers.ensures.ok in
    let unopened = rw c.as_str-path.ensures at c.in_err-office.ensures.err in
    inr (
      c.remove_leftovers.new.machine,
      c.prepare.new.machine,
      Ok tt,
      leftovers,
      c.in_ok-prepare.ensures,
      inl (
        (
          c.in_err-office.field-0.0,
          is_err c.from_residual-in_err-office.result _ c.from_residual-in_err-office.ensures.1,
          unopened,
          c.in_err-office.ensures.faults,
        ),
        refl,
      ),
    )

pub returns : goal.returns
returns g c =
    let leftovers = rw c.as_str-path.ensures at c.in_ok-remove_leftovers.ensures.ok in
    inr (
      c.remove_leftovers.new.machine,
      c.prepare.new.machine,
      Ok tt,
      leftovers,
      c.in_ok-prepare.ensures,
      inr (
        c.in_ok-office.office,
        c.serve_copy-office.result.0,
        c.open_signed.new.machine,
        rw c.as_str-path.ensures at c.in_ok-office.ensures.ok,
        c.serve_copy-office.ensures,
        rw c.as_str-path.ensures at c.close.ensures,
      ),
    )
