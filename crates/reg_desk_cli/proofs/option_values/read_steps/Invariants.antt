use Rattle.reg_desk_cli.proofs.StepTexts.{SoFar}
use Rattle.reg_desk_cli.proofs.option_values.read_steps.Given as goal

-- the texts before this one are the steps so far
abbrev pub invariant-loop-text : goal.invariant-loop-text
invariant-loop-text l = SoFar l.texts l.text-index l.steps.items
