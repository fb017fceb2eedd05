use Rattle.std.proofs.Common.{◌≡◌, false, drop, map}
use Rattle.clap.specs.Words.{app_of}
use Rattle.clap.specs.declared.builder.command.Command.TheViews.{out-Command as fields_of}
use Rattle.reg_desk_cli.specs.Desk.{with_rules}
use Rattle.reg_desk_cli.specs.Table.{rule_of_part}
use Rattle.reg_desk_cli.proofs.desk.with_parts.Given as goal

-- the command so far, with the parts that are left, is the one that is wanted
abbrev pub invariant-loop-part : goal.invariant-loop-part
invariant-loop-part l = record {
  app : with_rules (app_of l.command) (map rule_of_part (drop l.part-index l.parts)) ≡ with_rules (app_of l.fn.command) (map rule_of_part l.parts);
  local : (fields_of l.command).has_globals ≡ false;
}
