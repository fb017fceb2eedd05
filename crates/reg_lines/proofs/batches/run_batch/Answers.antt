use Rattle.std.proofs.Common.{ap, arith, length, refl}
use Rattle.reg_office_api.proofs.PublicLaws.{follows, stays}
use Rattle.reg_lines.proofs.BatchLemmas.{batch_cut, batch_none, batch_ran}
use Rattle.reg_lines.proofs.batches.run_batch.Goals as goal

pub returns-then-len-lt2-clause-leads : goal.returns-then-len-lt2-clause-leads
returns-then-len-lt2-clause-leads g c =
    follows g.O.Office.is_clean g.O.Office.stands _ _
    (λ signers before after same.
    batch_none g.O.Office.signs signers before after c.args.held.now c.args.most (g.W.Write.contents c.args.writer.now) g.W.Sink.failed same) c.args.office.now
    c.args.office.now (stays g.O.Office.is_clean g.O.Office.stands c.args.office.now c.args.office.now refl)

pub returns-in-Ok-write_replies-clause-leads : goal.returns-in-Ok-write_replies-clause-leads
returns-in-Ok-write_replies-clause-leads g c =
    let wrote = rw c.deref-in-Ok.ensures.value at c.in-Ok-write_replies.ensures in
    follows g.O.Office.is_clean g.O.Office.stands _ _
    (λ signers before after run.
    batch_ran g.O.Office.signs signers before after c.args.held.now c.timed_commands-commands.result.length c.len-in-Ok-write_replies.result c.args.most
    c.timed_commands-commands.result.commands.items c.in-Ok.outcomes.items _ _ g.W.Sink.failed c.timed_commands-commands.ensures.commands
    (omega (arith, c.len-in-Ok-write_replies.ensures, c.deref.ensures.len, ap length c.deref.ensures.value)) wrote run)
    c.args.office.now c.run_batch.new.self (rw c.deref.ensures.value at c.in-Ok.ensures)

pub returns-in-Ok-clause-leads : goal.returns-in-Ok-clause-leads
returns-in-Ok-clause-leads g c =
    let wrote = rw c.deref-in-Ok.ensures.value at c.in-Err-write_replies.ensures in
    follows g.O.Office.is_clean g.O.Office.stands _ _
    (λ signers before after run.
    batch_cut g.O.Office.signs signers before after c.args.held.now c.timed_commands-commands.result.length c.args.most
    c.timed_commands-commands.result.commands.items c.in-Ok.outcomes.items _ _ g.W.Sink.failed c.in-Err-write_replies.field-0 c.timed_commands-commands.ensures.commands
    c.timed_commands-commands.ensures.few wrote run)
    c.args.office.now c.run_batch.new.self (rw c.deref.ensures.value at c.in-Ok.ensures)

pub returns-clause-leads : goal.returns-clause-leads
returns-clause-leads g c =
    follows g.O.Office.is_clean g.O.Office.stands _ _
    (λ signers before after same.
    batch_none g.O.Office.signs signers before after c.args.held.now c.args.most (g.W.Write.contents c.args.writer.now) g.W.Sink.failed same)
    c.args.office.now c.run_batch.new.self c.in-Err.ensures
