use Rattle.std.proofs.Common.{◌∙◌, Some, ap, sym}
use Rattle.reg_desk_service.proofs.StepWords.{begins, breaks, ends, goes_on}
use Rattle.reg_desk_service.proofs.words.read_steps.Goals as goal

pub loop-init : goal.loop-init
loop-init c = begins c.args.fields c.new-steps.result.items c.new-steps.ensures.items

pub loop-preserved : goal.loop-preserved
loop-preserved c =
    goes_on _ _ _ _ _ c.in-Some-read_step.step _ c.loop.invariant c.in-Some.ensures (sym c.in-Some-read_step.is ∙ c.read_step.ensures)
    c.in_ok-push-in-Some-read_step.ensures.items

pub returns-in-None-read_step : goal.returns-in-None-read_step
returns-in-None-read_step c = breaks _ _ _ _ _ c.loop.invariant c.in-Some.ensures (sym c.in-None-read_step.is ∙ c.read_step.ensures)

pub returns-in-None : goal.returns-in-None
returns-in-None c = ap (λ steps. Some steps) c.of.ensures ∙ ends _ _ _ c.loop.invariant c.in-None.ensures.0
