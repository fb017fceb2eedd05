use Rattle.std.proofs.Common.{inl, inr, refl, subst, sym}
use Rattle.std.specs.Prelude.{Result}
use Rattle.reg_desk_cli.specs.declared.failure.Failure.{Failure}
use Rattle.reg_desk_cli.specs.declared.failure.Failure.TheVariants as failure
use Rattle.reg_desk_jobs.specs.FollowJobs.{CreatesEmpty}
use Rattle.reg_desk_jobs.proofs.FollowRuns.{is_err}
use Rattle.reg_desk_jobs.proofs.fill_job.fill_file.Goals as goal

pub returns-in_default : goal.returns-in_default
returns-in_default g c = λ forms. inl (inl (refl, (failure.BrokenFeed, refl)), (failure.BrokenFeed, refl))

pub returns-in_err-create_empty : goal.returns-in_err-create_empty
returns-in_err-create_empty g c = λ forms.
    let is = is_err c.from_residual.result _ c.from_residual.ensures.1 in
    inl (
      subst (λ (it : Result (Unit {0}) Failure). CreatesEmpty g.M.Machine g.M.Office.Office c.args.path.now it c.args.machine.now c.create_empty.new.machine) (sym is)
          c.in_err-create_empty.ensures,
      (c.in_err-create_empty.field-0.0, is),
    )

pub returns-in_err-office : goal.returns-in_err-office
returns-in_err-office g c = λ forms. inr (
  c.create_empty.new.machine,
  c.in_ok-create_empty.ensures,
  (
    c.algorithm_in.result,
    inl (
      c.in_err-office.field-0.0,
      is_err c.from_residual-in_err-office.result _ c.from_residual-in_err-office.ensures.1,
      c.in_err-office.ensures.err,
      c.in_err-office.ensures.faults,
    ),
  ),
)

pub returns : goal.returns
returns g c = λ forms. inr (
  c.create_empty.new.machine,
  c.in_ok-create_empty.ensures,
  (
    c.algorithm_in.result,
    inr (record {
      first = c.in_ok-office.office;
      last = c.enter_all-entered.new.office;
      between = c.open_to_fill.new.machine;
      opened = c.in_ok-office.ensures.ok;
      moves = c.enter_all-entered.ensures forms;
      closed = c.close.ensures;
    }),
  ),
)
