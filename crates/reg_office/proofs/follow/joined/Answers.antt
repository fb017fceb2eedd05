use Rattle.std.proofs.Common.{◌≡◌, ◌∙◌, ◌∷◌, ◌++◌, [], take, sym, ap}
use Rattle.std.proofs.lemmas.List.{take_all, take_more}
use Rattle.reg_core_lists.specs.Feed.{RowLists, feed_rows_of}
use Rattle.reg_core_lists.specs.declared.feed_reader.ReceivedPage.{ReceivedPage}
use Rattle.reg_office.specs.Replays.{joined_rows, rows_and}
use Rattle.reg_office.proofs.FollowLookUps.{page_joined}
use Rattle.reg_office.proofs.follow.joined.Goals as goal

pub loop-page-preserved : goal.loop-page-preserved
loop-page-preserved c =
    let pages = c.args.pages.now in
    let i = c.loop-page.page-index in
    let page = c.page-item.result in
    c.in_ok-add_rows.ensures ∙ ap (λ (rows : RowLists). rows_and rows (feed_rows_of page.rows)) c.loop-page.invariant ∙ sym (page_joined (take i pages) page)
    ∙ sym (ap joined_rows (take_more pages i page c.loop-page-test.true ∙ ap (λ (x : ReceivedPage). take i pages ++ x ∷ []) (sym c.page-item.is)))

pub returns : goal.returns
returns c = c.loop-page.invariant ∙ ap joined_rows (take_all c.loop-page.page-index c.args.pages.now c.loop-page-test.false)
