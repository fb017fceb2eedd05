use Rattle.std.proofs.Common.{ℕ, List, sym, subst}
use Rattle.reg_http_head.specs.Head.{HasFieldValues}
use Rattle.reg_http_head.proofs.FieldLemmas.{values_of-more, no_field}
use Rattle.reg_http_head.proofs.fields.values_of.Goals as goal

pub loop-field-preserved : goal.loop-field-preserved
loop-field-preserved c =
    let P : List (List ℕ) → Type 0 = λ values. HasFieldValues c.args.head.now values c.with_field-values.result in
    subst P
    (sym (values_of-more c.args.head.now c.args.name.now c.args.fields.now c.loop-field.field-index no_field c.loop-field-test.true))
    (c.with_field-values.ensures _ c.loop-field.invariant)
