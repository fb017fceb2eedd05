use Rattle.std.proofs.Common.{◌∷◌, [], ℕ, length, ap, ◌∙◌, drop, ◌-◌, arith, length-append, length-drop, length-take}
use Rattle.reg_lines.proofs.BatchLemmas.{one_more_command}
use Rattle.reg_lines.proofs.batches.timed_commands.Goals as goal

pub loop-preserved : goal.loop-preserved
loop-preserved c =
    let next = c.in-Some.next in
    let pushed = rw c.in-Ok.is at c.push.ensures.items in record {
      within = omega (
        arith,
        c.loop.invariant.within,
        c.in-Some.ensures.within,
        length-take (length c.args.held.now - c.loop.length) (drop c.loop.length c.args.held.now),
        length-drop {A = ℕ} c.loop.length c.args.held.now,
      );
      commands = rw pushed
          (one_more_command c.args.held.now c.loop.length next.length c.loop.commands.items next.command c.loop.invariant.commands c.in-Some.ensures.means);
      few = omega (arith, c.loop.invariant.few, ap length pushed ∙ length-append c.loop.commands.items (next.command ∷ []));
    }
