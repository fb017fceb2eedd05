use Rattle.std.proofs.Common.{◌∙◌, ap}
use Rattle.reg_core.specs.Calendar.{date_time, moment_text}
use Rattle.reg_core.proofs.moment.Moment.text.Goals as goal

pub returns : goal.returns
unfolding moment_text
returns c = c.date_time.ensures ∙ ap date_time c.civil.ensures.exact
