use Rattle.std.proofs.Common.{refl}
use Rattle.reg_desk_jobs.proofs.NextLines.{read_cut, read_nothing, read_whole}
use Rattle.reg_desk_jobs.proofs.at_job.next_of.Goals as goal

pub returns-then-has_end : goal.returns-then-has_end
returns-then-has_end c =
    (refl, read_whole c.args.line.items c.has_end.result c.requires (rw c.as_slice.ensures.value at c.has_end.ensures) c.if-has_end.true)

pub returns-then-is_empty : goal.returns-then-is_empty
returns-then-is_empty c =
    read_nothing c.args.line.items c.is_empty.result (rw c.as_slice-2.ensures.value at c.is_empty.ensures) c.if-is_empty.true

pub returns : goal.returns
returns c =
    read_cut c.args.line.items c.has_end.result c.is_empty.result c.requires (rw c.as_slice.ensures.value at c.has_end.ensures) c.if-has_end.false
    (rw c.as_slice-2.ensures.value at c.is_empty.ensures) c.if-is_empty.false
