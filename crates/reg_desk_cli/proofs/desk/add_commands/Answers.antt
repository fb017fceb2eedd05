use Rattle.std.proofs.Common.{refl}
use Rattle.reg_desk_cli.proofs.TableLemmas.{all_entries, one_entry}
use Rattle.reg_desk_cli.proofs.desk.add_commands.Goals as goal

pub loop-entry-preserved : goal.loop-entry-preserved
loop-entry-preserved c = record {
  app = λ app.
      one_entry _ _ _ c.args.entries.now c.loop-entry.entry-index _ c.loop-entry-test.true (c.in_ok-add_command.ensures.app app) (c.loop-entry.invariant.app app);
  local = λ before. c.in_ok-add_command.ensures.local (c.loop-entry.invariant.local before);
}

pub returns-clause-app : goal.returns-clause-app
returns-clause-app c app = all_entries _ _ c.args.entries.now c.loop-entry.entry-index c.loop-entry-test.false (c.loop-entry.invariant.app app)
