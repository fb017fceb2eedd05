use Rattle.std.proofs.Common.{◌∙◌, ap, subst, sym}
use Rattle.std.proofs.lemmas.Result.{on_ok_weaker}
use Rattle.std.specs.Io.KnownBytes.{Appends}
use Rattle.reg_desk_files.specs.Copied.{page_bytes}
use Rattle.reg_desk_files.proofs.page_copy.put_page.Goals as goal

pub returns-clause-whole : goal.returns-clause-whole
returns-clause-whole g c = on_ok_weaker c.put.result (λ appends clean.
    subst (λ bytes. Appends (g.W.Write.contents c.args.writer.now) (g.W.Write.contents c.put.new.writer) bytes)
    (c.loaded.ensures.value ∙ sym (ap page_bytes (c.in_ok-load.ensures.ok clean))) appends) c.put.ensures.whole
