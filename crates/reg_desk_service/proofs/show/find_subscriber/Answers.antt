use Rattle.std.proofs.Common.{[], ◌++◌, refl, sym}
use Rattle.reg_core_lists.specs.declared.cursor.Cursor.TheVariants.{Subscribers}
use Rattle.reg_desk_service.specs.RowLookUps.{has_key, row_with_key}
use Rattle.reg_desk_service.specs.declared.words.RowKey.TheVariants.{Subscriber}
use Rattle.reg_desk_service.proofs.Finding.{seen_here, seen_nowhere, unseen_at_last, unseen_behind}
use Rattle.reg_desk_service.proofs.FoundRows.{none_more}
use Rattle.reg_desk_service.proofs.PageByPage.{begun, gone_on}
use Rattle.reg_desk_service.proofs.show.find_subscriber.Goals as goal

pub loop-init : goal.loop-init
loop-init g c = ([], refl, begun g.O.Office.is_clean g.O.Office.stands c.args.now 249 (Subscribers 0) _)

pub returns-in_err-page : goal.returns-in_err-page
returns-in_err-page g c =
    let (passed, none, going) = c.loop.invariant in
    unseen_behind g.O.Office.is_clean g.O.Office.stands c.args.now (λ records. row_with_key records c.args.now (Subscriber c.args.name)) _ _ _ passed c.loop.from _
    c.from_residual.result c.from_residual.ensures.1 going c.in_err-page.ensures

pub returns-in-Some : goal.returns-in-Some
returns-in-Some g c =
    let (passed, none, going) = c.loop.invariant in
    seen_here g.O.Office.is_clean g.O.Office.stands c.args.now c.args.name _ _ _ passed c.loop.from c.in_ok-page.page c.in-Some.row going c.in_ok-page.ensures
    none (rw c.deref.ensures.value at c.in-Some.ensures)

pub loop-preserved : goal.loop-preserved
loop-preserved g c =
    let (passed, none, going) = c.loop.invariant in
    let page = c.in_ok-page.page in (
      passed ++ page.rows.items,
      none_more (has_key (Subscriber c.args.name)) passed page.rows.items none (sym (rw c.deref.ensures.value at c.in-None.ensures)),
      rw c.in-Some-next.is at
          (gone_on g.O.Office.is_clean g.O.Office.stands c.args.now 249 (Subscribers 0) _ _ _ passed c.loop.from page going c.in_ok-page.ensures),
    )

pub returns-in-None-next : goal.returns-in-None-next
returns-in-None-next g c =
    let (passed, none, going) = c.loop.invariant in
    seen_nowhere g.O.Office.is_clean g.O.Office.stands c.args.now c.args.name _ _ _ passed c.loop.from c.in_ok-page.page going c.in_ok-page.ensures
    none (rw c.deref.ensures.value at c.in-None.ensures) c.in-None-next.is

pub returns : goal.returns
returns g c =
    let (passed, none, going) = c.loop.invariant in
    unseen_at_last g.O.Office.is_clean g.O.Office.stands c.args.now (λ records. row_with_key records c.args.now (Subscriber c.args.name)) _ _ passed c.loop.from going
