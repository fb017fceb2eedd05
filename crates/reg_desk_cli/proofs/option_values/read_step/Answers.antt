use Rattle.std.proofs.Common.{◌∙◌}
use Rattle.reg_desk_cli.proofs.StepTexts.{no_step, step_cut}
use Rattle.reg_desk_cli.proofs.option_values.read_step.Goals as goal

pub returns-in_err-equals : goal.returns-in_err-equals
returns-in_err-equals c = c.from_residual.ensures ∙ no_step c.args.text.now c.in_err-equals.ensures

pub returns : goal.returns
returns c = step_cut c.args.text.now c.in_ok-equals.equals c.step_by.result c.in_ok-equals.ensures c.step_by.ensures
