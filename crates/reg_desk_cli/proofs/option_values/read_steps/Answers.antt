use Rattle.std.proofs.Common.{◌∙◌, ℕ, List, Some, ap, sym, subst}
use Rattle.reg_desk_cli.specs.WordValues.{step_of}
use Rattle.reg_desk_cli.proofs.StepTexts.{SoFar, begins, goes_on, breaks, ends}
use Rattle.reg_desk_cli.proofs.option_values.read_steps.Goals as goal

pub loop-text-init : goal.loop-text-init
loop-text-init c = subst (λ (steps : List (ℕ × ℕ)). SoFar c.args.texts.now 0 steps) (sym c.new-steps.ensures.items) (begins c.args.texts.now)

pub loop-text-preserved : goal.loop-text-preserved
loop-text-preserved c =
    goes_on c.args.texts.now c.loop-text.text-index _ c.loop-text.steps.items c.push.new.self.items c.in-Some.step c.loop-text-test.true
    (sym c.in-Some.is ∙ c.read_step.ensures ∙ ap step_of c.as_bytes.ensures.value) c.in_ok-push-in-Some.ensures.items c.loop-text.invariant

pub returns : goal.returns
returns c = ap (λ steps. Some steps) c.of.ensures ∙ ends c.args.texts.now c.loop-text.text-index c.loop-text.steps.items c.loop-text-test.false c.loop-text.invariant

pub returns-in-None : goal.returns-in-None
returns-in-None c =
    breaks c.args.texts.now c.loop-text.text-index _ c.loop-text.steps.items c.loop-text-test.true (sym c.in-None.is ∙ c.read_step.ensures ∙ ap step_of c.as_bytes.ensures.value) c.loop-text.invariant
