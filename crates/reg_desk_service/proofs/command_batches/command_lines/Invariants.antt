use Rattle.std.proofs.Common.{◌≡◌, ◌≤◌, ◌⊎◌, [], length, take}
use Rattle.reg_desk_server.specs.LineEnds.{EndsLine}
use Rattle.reg_desk_service.specs.CommandBatches.{AreCommandLines}
use Rattle.reg_desk_service.proofs.command_batches.command_lines.Given as goal

-- the lines so far, each with its command
abbrev pub invariant-loop : goal.invariant-loop
invariant-loop l = record {
  within : l.length ≤ length l.lines;
  commands : AreCommandLines l.fn.now (take l.length l.lines) l.commands.items;
  ends : (l.commands.items ≡ []) ⊎ EndsLine l.lines l.length;
}
