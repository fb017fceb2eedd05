use Rattle.std.proofs.Common.{◌≡◌, ℕ, List, ◌++◌, ◌≤◌, length, subst, refl, inl, inr, arith, length-append}
use Rattle.std.proofs.KnownBytes.{Consumes-trans}
use Rattle.std.proofs.lemmas.Result.{IfOk-weaker, IfErr-weaker}
use Rattle.reg_http_head.specs.Frame.{Framed, request_meaning, IsUnfinished}
use Rattle.reg_http_head.proofs.FrameLemmas.{taken_at_mark, head_at_mark, too_long_at_full, unfinished_at_end, unfinished_at_fault}
use Rattle.reg_http_head.proofs.request.read_within.Goals as goal

pub read_rest-requires-clause-head : goal.read_rest-requires-clause-head
read_rest-requires-clause-head g c =
    let to = rw c.in-Ok-Delimiter.field-0-is at c.in-Ok-Delimiter.ensures.ok in
    head_at_mark _ _ c.args.buffer.now c.fill_to_delimiter.new.buf c.in-Ok-Delimiter.end c.in-Ok-Delimiter.buffered to (omega (arith, c.requires))

pub returns-in-Ok-Delimiter-clause-ok : goal.returns-in-Ok-Delimiter-clause-ok
returns-in-Ok-Delimiter-clause-ok g c =
    let to = rw c.in-Ok-Delimiter.field-0-is at c.in-Ok-Delimiter.ensures.ok in
    let same = taken_at_mark _ _ c.args.buffer.now c.fill_to_delimiter.new.buf c.in-Ok-Delimiter.end c.in-Ok-Delimiter.buffered to in
    let most : length c.fill_to_delimiter.new.buf ≡ 8192 = omega (arith, c.requires) in
    let few : length to.took ≤ 8192 = omega (arith, to.fills.within, most) in
    IfOk-weaker c.read_rest.result _ _
    (λ request more. (
      to.took ++ more.0,
      Consumes-trans _ _ _ _ _ to.fills.consumed more.1,
      omega (arith, length-append to.took more.0, few, more.2),
      (let P : List ℕ → Type 0 = λ bytes. Framed (bytes ++ more.0) (request_meaning request) in subst P same more.3),
    ))
    c.read_rest.ensures.ok

pub returns-in-Ok-Delimiter-clause-err : goal.returns-in-Ok-Delimiter-clause-err
returns-in-Ok-Delimiter-clause-err g c =
    let to = rw c.in-Ok-Delimiter.field-0-is at c.in-Ok-Delimiter.ensures.ok in
    let same = taken_at_mark _ _ c.args.buffer.now c.fill_to_delimiter.new.buf c.in-Ok-Delimiter.end c.in-Ok-Delimiter.buffered to in
    let most : length c.fill_to_delimiter.new.buf ≡ 8192 = omega (arith, c.requires) in
    let few : length to.took ≤ 8192 = omega (arith, to.fills.within, most) in
    IfErr-weaker c.read_rest.result _ _
    (λ fault more. (
      to.took ++ more.0,
      Consumes-trans _ _ _ _ _ to.fills.consumed more.1,
      omega (arith, length-append to.took more.0, few, more.2),
      elim (more.3) [
        | inl read ↦ inl (read.0, (let P : List ℕ → Type 0 = λ bytes. IsUnfinished (bytes ++ more.0) in subst P same read.1))
        | inr memory ↦ inr memory
      ],
    ))
    c.read_rest.ensures.err

pub returns-in-Ok-Full-clause-ok : goal.returns-in-Ok-Full-clause-ok
returns-in-Ok-Full-clause-ok g c =
    let to = rw c.in-Ok-Full.field-0-is at c.in-Ok-Full.ensures.ok in
    let long = too_long_at_full _ _ c.args.buffer.now c.fill_to_delimiter.new.buf to (omega (arith, c.requires)) in
    (to.took, to.fills.consumed, omega (arith, long.0), inl (refl, long))

pub returns-in-Ok-End-clause-err : goal.returns-in-Ok-End-clause-err
returns-in-Ok-End-clause-err g c =
    let to = rw c.in-Ok-End.field-0-is at c.in-Ok-End.ensures.ok in
    let most : length c.fill_to_delimiter.new.buf ≡ 8192 = omega (arith, c.requires) in
    let short = unfinished_at_end _ _ c.args.buffer.now c.fill_to_delimiter.new.buf c.in-Ok-End.field-0-0 to most in
    (to.took, to.fills.consumed, omega (arith, to.fills.within, most), inl (refl, short))

pub returns-in-Err-clause-err : goal.returns-in-Err-clause-err
returns-in-Err-clause-err g c =
    let short = c.in-Err.ensures.err in
    let most : length c.fill_to_delimiter.new.buf ≡ 8192 = omega (arith, c.requires) in
    let cut = unfinished_at_fault _ _ c.args.buffer.now c.fill_to_delimiter.new.buf short most in
    (short.took, short.fills.consumed, omega (arith, short.room, most), inl (refl, cut))
