use Rattle.std.proofs.Common.{◌++◌, [], sym, subst, inl, inr, arith}
use Rattle.std.proofs.KnownBytes.{Consumes-nil}
use Rattle.std.proofs.lemmas.Result.{IfOk-weaker}
use Rattle.reg_http_head.specs.Frame.{RequestMeaning, Framed}
use Rattle.reg_http_head.proofs.FrameLemmas.{asks_from, unfinished_from, refused_from}
use Rattle.reg_http_head.proofs.request.read_rest.Goals as goal

pub returns-in-Ok-read_body-clause-ok : goal.returns-in-Ok-read_body-clause-ok
returns-in-Ok-read_body-clause-ok g c =
    let (h, stands) = c.in-Ok.ensures.ok in
    let (took, consumed, few, long, body_is) = c.in-Ok-read_body.ensures.ok in
    let most = c.in-Ok.ensures.small in
    let asks = asks_from c.args.buffered.now took _ c.args.end c.in-Ok.head.size h _ _ c.requires.head stands.reads stands.method_is stands.target_is stands.size_is long body_is in
    let P : RequestMeaning → Type 0 = λ part. Framed (c.args.buffered.now ++ took) part in
    IfOk-weaker c.owned_request.result _ _ (λ request is. (took, consumed, omega (arith, few, most), subst P (sym is) asks)) c.owned_request.ensures.ok

pub returns-in-Err-read_body-clause-err : goal.returns-in-Err-read_body-clause-err
returns-in-Err-read_body-clause-err g c =
    let (h, stands) = c.in-Ok.ensures.ok in
    let (took, consumed, few, why) = c.in-Err-read_body.ensures.err in
    let most = c.in-Ok.ensures.small in (
      took,
      consumed,
      omega (arith, few, most),
      elim why [
        | inl read ↦ inl (read.0, unfinished_from c.args.buffered.now took c.args.end c.in-Ok.head.size h c.requires.head stands.reads stands.size_is read.1)
        | inr memory ↦ inr memory
      ],
    )

pub returns-in-Err-clause-ok : goal.returns-in-Err-clause-ok
returns-in-Err-clause-ok g c =
    ([], Consumes-nil _, omega arith, refused_from c.args.buffered.now c.args.end c.in-Err.refused c.requires.head c.in-Err.ensures.err)
