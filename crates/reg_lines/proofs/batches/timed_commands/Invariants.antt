use Rattle.std.proofs.Common.{◌≤◌, length, take}
use Rattle.reg_lines.specs.Batches.{AreTimedCommands}
use Rattle.reg_lines.proofs.batches.timed_commands.Given as goal

-- the commands so far
abbrev pub invariant-loop : goal.invariant-loop
invariant-loop l = record {
  within : l.length ≤ length l.held;
  commands : AreTimedCommands (take l.length l.held) l.commands.items;
  few : length l.commands.items ≤ l.counter;
}
