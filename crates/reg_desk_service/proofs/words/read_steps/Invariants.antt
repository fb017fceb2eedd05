use Rattle.reg_desk_service.proofs.StepWords.{SoFar}
use Rattle.reg_desk_service.proofs.words.read_steps.Given as goal

-- the fields before this one are the steps so far
abbrev pub invariant-loop : goal.invariant-loop
invariant-loop l = SoFar l.initial.fields l.fields l.steps.items
