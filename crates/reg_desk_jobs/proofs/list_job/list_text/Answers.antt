use Rattle.std.proofs.Common.{[], ◌++◌}
use Rattle.reg_desk_service.proofs.PublicLaws.{begun, gone_on, text_begun, text_more}
use Rattle.reg_desk_jobs.proofs.list_job.list_text.Goals as goal

pub loop-init : goal.loop-init
loop-init g c = ([], text_begun c.args.wanted.now.form c.args.wanted.now.filter c.args.wanted.now.from _ c.in_ok-text.ensures.ok, begun g.M.Office.Office.is_clean g.M.Office.Office.stands c.args.now 999 c.args.wanted.now.from _)

pub loop-preserved : goal.loop-preserved
loop-preserved g c =
    let (done, text, going) = c.loop.invariant in
    let page = c.in_ok-page-in-Some.page in (
      done ++ page.rows.items,
      text_more c.args.wanted.now.form c.args.wanted.now.filter c.args.wanted.now.from done page.rows.items c.loop.text.items c.put.new.text.items text
          (rw c.deref.ensures.value at c.in_ok-put-in-Some.ensures.ok),
      gone_on g.M.Office.Office.is_clean g.M.Office.Office.stands c.args.now 999 c.args.wanted.now.from c.args.register.now c.loop.register c.page.new.self done
          c.in-Some.at page (rw c.in-Some.is at going) c.in_ok-page-in-Some.ensures,
    )
