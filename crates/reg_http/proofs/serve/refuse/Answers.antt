use Rattle.std.proofs.Common.{ℕ, List, inl, subst}
use Rattle.std.specs.Io.KnownBytes.{Appends}
use Rattle.std.proofs.lemmas.Result.{on_ok_weaker, IfErr-weaker}
use Rattle.reg_io.specs.Put.{AppendsPrefix}
use Rattle.reg_http_head.specs.Response.{Response, IsText}
use Rattle.reg_http.proofs.serve.refuse.Goals as goal

pub returns-in-Ok-clause-ok : goal.returns-in-Ok-clause-ok
returns-in-Ok-clause-ok g c =
    let P : Response → Type 0 =
    λ response. (text : List ℕ) × IsText response c.args.now text × Appends (g.W.Write.contents c.args.writer.now) (g.W.Write.contents c.send.new.writer) text in
    on_ok_weaker c.send.result (subst P c.refusal.ensures) c.send.ensures.ok

pub returns-in-Ok-clause-err : goal.returns-in-Ok-clause-err
returns-in-Ok-clause-err g c =
    let P : Response → Type 0 =
    λ response. (text : List ℕ) × IsText response c.args.now text × AppendsPrefix (g.W.Write.contents c.args.writer.now) (g.W.Write.contents c.send.new.writer) text in
    IfErr-weaker c.send.result _ _ (λ fault cut. inl (cut.0, subst P c.refusal.ensures cut.1)) c.send.ensures.err
