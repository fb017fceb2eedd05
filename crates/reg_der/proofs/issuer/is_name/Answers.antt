use Rattle.std.proofs.Common.{ℕ, eqb, [], length, sym, ◌∙◌, ap, arith}
use Rattle.std.proofs.lemmas.Bool.{eqb-true, eqb-false}
use Rattle.std.proofs.lemmas.List.{append-nil}
use Rattle.reg_der.proofs.Names.{name_made, name_parts}
use Rattle.reg_der.proofs.issuer.is_name.Goals as goal
use Rattle.reg_der.proofs.issuer.is_name.Goals.{then-value-ne-SEQUENCE-via-then-value-ne-SEQUENCE, then-value-ne-SEQUENCE-via-else-value-ne-SEQUENCE+then-is_empty}

pub returns-in-None : goal.returns-in-None
returns-in-None c =
    (λ f. absurd (cc), λ as_name. absurd (c.in-None.ensures.none c.args.name.now [] as_name.contents 48 as_name.sequence (sym (append-nil c.args.name.now))))

pub returns-then-value-ne-SEQUENCE : goal.returns-then-value-ne-SEQUENCE
returns-then-value-ne-SEQUENCE c = (
  λ f. absurd (cc),
  λ as_name.
      let found = c.in-Some.ensures.found in
      let whole = name_parts c.args.name.now c.in-Some.value.raw.now c.in-Some.value.contents.now c.in-Some.rest.now c.in-Some.value.tag found.0 found.1 as_name in
      let sequence = whole.sequence in
      let some = whole.some in
      elim c.then-value-ne-SEQUENCE.branch [
        | then-value-ne-SEQUENCE-via-then-value-ne-SEQUENCE w ↦ absurd (omega arith)
        | then-value-ne-SEQUENCE-via-else-value-ne-SEQUENCE+then-is_empty w ↦ absurd (let nothing = eqb-true (length c.in-Some.value.contents.now) 0 (sym w.is_empty.ensures ∙ w.if-is_empty.true) in omega arith)
      ],
)

pub returns-else-is_empty : goal.returns-else-is_empty
returns-else-is_empty c =
    let found = c.in-Some.ensures.found in (
      λ nothing. name_made c.args.name.now c.in-Some.value.raw.now c.in-Some.value.contents.now c.in-Some.rest.now c.in-Some.value.tag found.0 found.1 (omega arith)
          (let some = eqb-false (length c.in-Some.value.contents.now) 0 (sym c.is_empty.ensures ∙ c.if-is_empty.false) in omega arith)
          (eqb-true (length c.in-Some.rest.now) 0 (sym c.is_empty-in-Some.ensures ∙ nothing))
          (omega arith),
      λ as_name.
          let whole = name_parts c.args.name.now c.in-Some.value.raw.now c.in-Some.value.contents.now c.in-Some.rest.now c.in-Some.value.tag found.0 found.1 as_name in
          c.is_empty-in-Some.ensures ∙ ap (λ (n : ℕ). eqb n 0) whole.nothing,
    )
