use Rattle.std.proofs.Common.{◌≡◌, drop, map}
use Rattle.clap.specs.Words.{App}
use Rattle.reg_desk_cli.specs.Desk.{with_commands}
use Rattle.reg_desk_cli.specs.Table.{AreLocal, app_of_entry, with_made}
use Rattle.reg_desk_cli.proofs.desk.add_commands.Given as goal

-- the commands so far, with the entries that are left, are those that are wanted
abbrev pub invariant-loop-entry : goal.invariant-loop-entry
invariant-loop-entry l = record {
  app : (app : App)
      → with_commands (with_made app l.commands.items) (map app_of_entry (drop l.entry-index l.entries))
      ≡ with_commands (with_made app l.initial.commands.items) (map app_of_entry l.entries);
  local : AreLocal l.initial.commands.items → AreLocal l.commands.items;
}
