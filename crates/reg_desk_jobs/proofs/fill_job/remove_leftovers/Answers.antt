use Rattle.std.proofs.Common.{subst, ◌∙◌}
use Rattle.std.specs.Prelude.{ℕ, List}
use Rattle.reg_desk_jobs.proofs.fill_job.remove_leftovers.Goals as goal

pub returns-clause-ok : goal.returns-clause-ok
returns-clause-ok g c = (
  c.remove.new.self,
  c.remove-2.new.self,
  subst (λ (it : List ℕ). g.M.Machine.removed c.args.machine.now it c.remove.new.self) (c.as_str.ensures.value ∙ c.in_ok-filled.ensures.ok) c.remove.ensures,
  subst (λ (it : List ℕ). g.M.Machine.removed c.remove.new.self it c.remove-2.new.self) (c.as_str-2.ensures.value ∙ c.in_ok-log.ensures.ok) c.remove-2.ensures,
  subst (λ (it : List ℕ). g.M.Machine.removed c.remove-2.new.self it c.remove-3.new.self) (c.as_str-3.ensures.value ∙ c.in_ok-part.ensures.ok) c.remove-3.ensures,
)
