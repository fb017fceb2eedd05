use Rattle.reg_io.proofs.PublicLaws.{first_delimiter_of_byte}
use Rattle.reg_lines.proofs.batches.timed_command.Goals as goal

pub returns-in-Some-Command : goal.returns-in-Some-Command
returns-in-Some-Command c = record {
  means = (
    first_delimiter_of_byte 10 c.args.held.now c.in-Some.length c.in-Some.ensures.1,
    (
      c.in-Some-take_moment.taken.1.now,
      rw c.without_end.ensures at c.in-Some-take_moment.ensures.found,
      rw c.in-Some-Command.field-0-is at c.in-Some-Command.ensures.found,
    ),
  );
  within = c.in-Some.ensures.0;
}
