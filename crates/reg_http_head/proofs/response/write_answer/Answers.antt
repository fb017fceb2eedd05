use Rattle.std.proofs.Common.{◌++◌, refl, ◌∙◌}
use Rattle.std.proofs.lemmas.Result.{on_ok_weaker, on_err_weaker}
use Rattle.std.proofs.KnownBytes.{Appends-trans}
use Rattle.std.specs.Io.KnownBytes.{Appends}
use Rattle.reg_io.specs.Put.{AppendsPrefix}
use Rattle.reg_io.proofs.PublicLaws.{front_of_first, front_of_second}
use Rattle.reg_http_head.specs.Response.{head_text, shown}
use Rattle.reg_http_head.proofs.response.write_answer.Goals as goal

pub returns-in-Ok-clause-ok : goal.returns-in-Ok-clause-ok
returns-in-Ok-clause-ok g c =
    let head = c.as_slice.ensures.value ∙ c.put_head.ensures.items in
    let went = rw head at c.in-Ok.ensures.ok in
    on_ok_weaker
    c.write_whole-in-Ok.result
    (λ (more : Appends (g.W.Write.contents c.write_whole.new.writer) (g.W.Write.contents c.write_whole-in-Ok.new.writer) c.as_slice-in-Ok.result.now).
    let body = rw c.as_slice-in-Ok.ensures.value at more in
    (_, (c.date_of.result, c.date_of.ensures, refl), Appends-trans _ _ _ _ _ went body))
    c.write_whole-in-Ok.ensures.ok

pub returns-in-Ok-clause-err : goal.returns-in-Ok-clause-err
returns-in-Ok-clause-err g c =
    let head = c.as_slice.ensures.value ∙ c.put_head.ensures.items in
    let went = rw head at c.in-Ok.ensures.ok in
    on_err_weaker
    c.write_whole-in-Ok.result
    (λ (more : AppendsPrefix (g.W.Write.contents c.write_whole.new.writer) (g.W.Write.contents c.write_whole-in-Ok.new.writer) c.as_slice-in-Ok.result.now).
    let body = rw c.as_slice-in-Ok.ensures.value at more in
    (_, (c.date_of.result, c.date_of.ensures, refl), front_of_second _ _ _ _ _ went body))
    c.write_whole-in-Ok.ensures.err

pub returns-clause-err : goal.returns-clause-err
returns-clause-err g c =
    let date = c.date_of.result in
    let head = c.as_slice.ensures.value ∙ c.put_head.ensures.items in
    let went = rw head at c.in-Err.ensures.err in
    (head_text date (shown c.args.answer.now) ++ c.args.answer.now.body.items, (date, c.date_of.ensures, refl), front_of_first _ _ _ _ went)
