use Rattle.std.proofs.Common.{◌≡◌, ◌≤◌, ◌*◌, length, take}
use Rattle.std.specs.Prelude.{vec_capacity}
use Rattle.reg_desk_service.specs.CommandBatches.{replies_to}
use Rattle.reg_desk_service.proofs.command_batches.joined_replies.Given as goal

-- the replies so far, if the room suffices
abbrev pub invariant-loop-outcome : goal.invariant-loop-outcome
invariant-loop-outcome l = record {
  room : vec_capacity l.fn.room ≤ vec_capacity l.text;
  short : 84 * length l.outcomes ≤ vec_capacity l.fn.room → length l.text.items ≤ 84 * l.outcome-index;
  text : 84 * length l.outcomes ≤ vec_capacity l.fn.room → l.text.items ≡ replies_to (take l.outcome-index l.outcomes);
}
