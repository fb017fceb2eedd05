use Rattle.std.proofs.Common.{◌∙◌, ap, Some, None}
use Rattle.reg_desk_cli.specs.Jobs.{has_flag_after}
use Rattle.reg_desk_cli.proofs.DeskLemmas.{behind}
use Rattle.reg_desk_cli.proofs.reading_words.is_set_after_command.Goals as goal

pub returns-in-Some : goal.returns-in-Some
returns-in-Some c =
    c.is_set.ensures ∙ ap (has_flag_after c.args.id.now) (behind (Some (c.in-Some.field-0-0, c.in-Some.given)) c.args.matches.now c.in-Some.ensures.name c.in-Some.ensures.rows)

pub returns-in-None : goal.returns-in-None
returns-in-None c = ap (has_flag_after c.args.id.now) (behind None c.args.matches.now c.in-None.ensures.name c.in-None.ensures.rows)
