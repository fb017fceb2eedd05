use Rattle.std.proofs.Common.{Err, ap, refl, sym, inl, inr}
use Rattle.reg_core.specs.declared.refusal.Fault.TheVariants.{Refused}
use Rattle.reg_core.specs.declared.refusal.Refusal.TheVariants.{Syntax}
use Rattle.reg_lines.specs.Answer.{reply_of}
use Rattle.reg_lines.specs.declared.answered.LineKind.TheVariants.{Nothing, Command}
use Rattle.reg_lines.proofs.Accepting.{outcome_agrees}
use Rattle.reg_lines.proofs.Meanings.{row_spelled, row_unread}
use Rattle.reg_lines.proofs.rows.run_row.Goals as goal

pub write_reply-requires : goal.write_reply-requires
write_reply-requires g c = outcome_agrees (Command c.in-Some.command) c.run_one-outcome.result

pub write_reply-requires-in-None : goal.write_reply-requires-in-None
write_reply-requires-in-None g c = rw c.unreadable.ensures (outcome_agrees Nothing (Err (Refused Syntax)))

pub returns-in-Some-clause-ran : goal.returns-in-Some-clause-ran
returns-in-Some-clause-ran g c = record {
  reply = _;
  replied = inl (c.in-Some.command, c.run_one-outcome.result, row_spelled _ _ (sym c.in-Some.ensures), (c.run_one-outcome.ensures.runs, c.run_one-outcome.ensures.counts), refl);
  said = c.write_reply.ensures.said;
}

pub returns-in-None-clause-ran : goal.returns-in-None-clause-ran
returns-in-None-clause-ran g c = record {
  reply = reply_of c.unreadable.result;
  replied = inr (row_unread _ (sym c.in-None.ensures), ap reply_of c.unreadable.ensures, refl);
  said = c.write_reply-in-None.ensures.said;
}
