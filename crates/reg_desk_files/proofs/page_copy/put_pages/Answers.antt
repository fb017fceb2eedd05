use Rattle.std.proofs.Common.{◌≡◌, ◌∙◌, ◌+◌, suc, refl, sym, ap, subst, add-one}
use Rattle.std.proofs.KnownBytes.{Appends-nil, Appends-trans}
use Rattle.std.specs.Io.KnownBytes.{Appends}
use Rattle.sqlite_pager.specs.Pager.{visible}
use Rattle.reg_desk_files.specs.Copied.{pages_in_order, page_bytes}
use Rattle.reg_desk_files.proofs.page_copy.put_pages.Goals as goal

pub loop-before-init : goal.loop-before-init
loop-before-init g c = (refl, λ clean. Appends-nil (g.W.Write.contents c.args.writer.now))

pub loop-before-preserved : goal.loop-before-preserved
loop-before-preserved g c =
    let (same, whole) = c.loop-before.invariant in
    let pages = visible c.args.pager.now in (
      c.put_page.ensures.pages ∙ same,
      λ clean.
          let page = subst (λ p. Appends (g.W.Write.contents c.loop-before.writer) (g.W.Write.contents c.put_page.new.writer) (page_bytes (p (c.loop-before.before + 1))))
          same (c.in_ok-put_page.ensures.whole clean) in
          subst (λ n. Appends (g.W.Write.contents c.args.writer.now) (g.W.Write.contents c.put_page.new.writer) (pages_in_order pages n)) (sym (add-one c.loop-before.before))
          (Appends-trans (g.W.Write.contents c.args.writer.now) (g.W.Write.contents c.loop-before.writer) (g.W.Write.contents c.put_page.new.writer)
          (pages_in_order pages c.loop-before.before) (page_bytes (pages (suc c.loop-before.before))) (whole (c.put_page.ensures.clean clean))
          (subst (λ n. Appends (g.W.Write.contents c.loop-before.writer) (g.W.Write.contents c.put_page.new.writer) (page_bytes (pages n))) (add-one c.loop-before.before) page)),
    )
