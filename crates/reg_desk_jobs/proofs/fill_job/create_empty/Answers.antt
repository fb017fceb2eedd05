use Rattle.std.proofs.Common.{inl, inr, refl}
use Rattle.reg_desk_jobs.proofs.FollowRuns.{claims, is_err}
use Rattle.reg_desk_jobs.proofs.fill_job.create_empty.Goals as goal

pub returns-in_err-office : goal.returns-in_err-office
returns-in_err-office g c = inr (
  c.claim.new.self,
  claims _ _ _ _ _ c.in-Ok-claim.ensures.ours c.in-Ok-claim.ensures.taken c.in-Ok-claim.ensures.same,
  inl (
    c.in_err-office.field-0.0,
    is_err c.from_residual.result _ c.from_residual.ensures.1,
    c.in_err-office.ensures.err,
    c.in_err-office.ensures.faults,
  ),
)

pub returns : goal.returns
returns g c = inr (
  c.claim.new.self,
  claims _ _ _ _ _ c.in-Ok-claim.ensures.ours c.in-Ok-claim.ensures.taken c.in-Ok-claim.ensures.same,
  inr (
    c.in-Ok.issuer,
    _,
    record {
      register = c.in_ok-office.office;
      identity = c.in_ok-office.ensures.stands.0;
      between = c.create_register.new.machine;
      made = c.in_ok-office.ensures.ok;
      stands = c.in_ok-office.ensures.stands.1;
      closed = c.close.ensures;
    },
    refl,
  ),
)
