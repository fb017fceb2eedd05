use Rattle.reg_lines.proofs.Meanings.{means_found, means_none, means_only, one_meaning}
use Rattle.reg_lines.proofs.line.read_line.Goals as goal

pub returns-clause-found : goal.returns-clause-found
returns-clause-found c = means_found c.args.line.now _ (rw c.of.ensures at c.read_fields.ensures)

pub returns-clause-only : goal.returns-clause-only
returns-clause-only c = λ meaning is. means_only c.args.line.now _ meaning (rw c.of.ensures at c.read_fields.ensures) is

pub returns-clause-none : goal.returns-clause-none
returns-clause-none c = means_none c.args.line.now _ (rw c.of.ensures at c.read_fields.ensures)

pub returns-clause-one : goal.returns-clause-one
returns-clause-one c = one_meaning
