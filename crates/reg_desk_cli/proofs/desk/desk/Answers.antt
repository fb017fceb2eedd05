use Rattle.std.proofs.Common.{◌≡◌, ◌∙◌, ap, map, subst, sym}
use Rattle.std.proofs.lemmas.Result.{IfOk-weaker}
use Rattle.reg_desk_cli.specs.Desk.{app_without_commands, desk_app, first_command_apps, with_commands}
use Rattle.reg_desk_cli.specs.Table.{AreLocal, app_of_entry, with_made}
use Rattle.reg_desk_cli.proofs.TableLemmas.{all_added}
use Rattle.reg_desk_cli.proofs.desk.desk.Goals as goal

pub returns : goal.returns
returns c =
    let none = c.new-commands.ensures.items in
    let local = c.in_ok-add_commands-2.ensures.local (c.in_ok-add_commands.ensures.local (subst AreLocal (sym none) tt)) in
    let first : with_made app_without_commands c.add_commands.new.commands.items ≡ with_commands app_without_commands first_command_apps =
    c.in_ok-add_commands.ensures.app app_without_commands ∙ ap (λ commands. with_commands (with_made app_without_commands commands) (map app_of_entry c.first_commands.result.now)) none
    ∙ ap (with_commands app_without_commands) c.first_commands.ensures in
    let all : with_made app_without_commands c.add_commands-2.new.commands.items ≡ desk_app =
    c.in_ok-add_commands-2.ensures.app app_without_commands ∙ ap (λ app. with_commands app (map app_of_entry c.other_commands.result.now)) first
    ∙ ap (with_commands (with_commands app_without_commands first_command_apps)) c.other_commands.ensures in
    IfOk-weaker c.subcommands.result _ _ (λ made added.
    all_added _ made _ added local ∙ ap (λ app. with_made app c.add_commands-2.new.commands.items) c.in_ok-without_commands.ensures.app ∙ all)
    c.subcommands.ensures
