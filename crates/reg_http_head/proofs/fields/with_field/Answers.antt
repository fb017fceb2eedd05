use Rattle.std.proofs.Common.{length, ap, arith, map, sym, ◌∙◌, refl}
use Rattle.std.specs.Char.{to_ascii_lowercase}
use Rattle.httparse.specs.Spans.{header_bytes}
use Rattle.reg_http_head.proofs.FieldLemmas.{several_from}
use Rattle.reg_http_head.proofs.fields.with_field.Goals as goal

pub returns-in-One : goal.returns-in-One
returns-in-One c = λ before has.
    let one = (rw c.in-One.is at has).1 in
    let same = ap (map to_ascii_lowercase) (sym c.of.ensures) ∙ c.if-not-eq_ignore_ascii_case.ensures.test.0 refl in
    several_from c.args.name.now (header_bytes c.args.head.now c.args.field.now) before same (omega (arith, ap length one))

pub returns-in-Several : goal.returns-in-Several
returns-in-Several c = λ before has.
    let some = rw c.in-Several.is at has in
    let same = ap (map to_ascii_lowercase) (sym c.of.ensures) ∙ c.if-not-eq_ignore_ascii_case.ensures.test.0 refl in
    several_from c.args.name.now (header_bytes c.args.head.now c.args.field.now) before same (omega (arith, some))
