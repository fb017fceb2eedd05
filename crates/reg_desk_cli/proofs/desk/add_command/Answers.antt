use Rattle.std.proofs.Common.{◌∙◌, ap, subst, sym}
use Rattle.clap.specs.Words.{with_subcommand}
use Rattle.reg_desk_cli.specs.Table.{AreLocal, with_made}
use Rattle.reg_desk_cli.proofs.TableLemmas.{one_local, one_made}
use Rattle.reg_desk_cli.proofs.desk.add_command.Goals as goal

pub returns-clause-app : goal.returns-clause-app
returns-clause-app c app =
    ap (with_made app) c.in_ok-push.ensures.items ∙ one_made app c.args.commands.now.items c.in_ok-command.field-0
    ∙ ap (λ a. with_subcommand (with_made app c.args.commands.now.items) a.top) c.in_ok-command.ensures.app

pub returns-clause-local : goal.returns-clause-local
returns-clause-local c before = subst AreLocal (sym c.in_ok-push.ensures.items) (one_local _ _ c.in_ok-command.ensures.local before)
