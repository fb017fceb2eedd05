use Rattle.std.proofs.Common.{inl, inr, refl}
use Rattle.reg_http_head.proofs.HeadLemmas.{no_whole_head}
use Rattle.reg_http_head.proofs.head.read_head.Goals as goal

pub returns-in-Ok-Complete-2-clause-err : goal.returns-in-Ok-Complete-2-clause-err
returns-in-Ok-Complete-2-clause-err c =
    let (h, found) = rw c.in-Ok-Complete.field-0-is at c.in-Ok-Complete.ensures.complete in
    let within = rw c.in-Ok-Complete.field-0-is at c.in-Ok-Complete.ensures.within in
    inr (inl (refl, no_whole_head c.args.head.now h c.in-Ok-Complete.parts.len found.reads within.section.len_fits c.if-parts-head.false))
