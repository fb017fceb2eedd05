use Rattle.std.proofs.Common.{◌+◌, take, subst, arith, inl, inr}
use Rattle.std.proofs.lemmas.Bool.{cases_order}
use Rattle.reg_io.specs.Delimiter.{EndsWith}
use Rattle.reg_io.proofs.Marks.{ends_found, ends_missed}
use Rattle.reg_io.proofs.fill.first_delimiter.Goals as goal

pub returns-then-ends_with : goal.returns-then-ends_with
returns-then-ends_with c = (
  omega arith,
  record {
    within = omega arith;
    here = ends_found _ _ _ c.ends_with.ensures.value c.if-ends_with.true;
    first = λ n h. c.loop-end.invariant n (omega arith);
  },
)

pub loop-end-preserved : goal.loop-end-preserved
loop-end-preserved c n below ends =
    elim (cases_order n (c.loop-end.end + 1)) [
      | inl same ↦ ends_missed _ _ _ c.ends_with.ensures.value c.if-ends_with.false
          (subst (λ m. EndsWith (take m c.args.buf.now) c.args.delimiter.now) same ends)
      | inr (inl less) ↦ c.loop-end.invariant n (omega arith) ends
      | inr (inr more) ↦ absurd (omega arith)
    ]

pub returns : goal.returns
returns c n below = c.loop-end.invariant n (omega arith)
