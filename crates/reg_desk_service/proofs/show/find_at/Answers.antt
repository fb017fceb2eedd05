use Rattle.std.specs.List.{find}
use Rattle.reg_core_lists.specs.Lists.{page}
use Rattle.reg_desk_service.specs.RowLookUps.{has_key}
use Rattle.reg_desk_service.proofs.Finding.{seen_in, unseen}
use Rattle.reg_desk_service.proofs.show.find_at.Goals as goal

pub returns-in_err-page : goal.returns-in_err-page
returns-in_err-page g c =
    unseen g.O.Office.is_clean g.O.Office.stands c.args.now (λ records. find (has_key c.args.shown.now) (page records c.args.now 1 c.args.from).rows) 1 c.args.from _
    c.from_residual.result _ _ c.from_residual.ensures.1 c.in_err-page.ensures

pub returns : goal.returns
returns g c =
    seen_in g.O.Office.is_clean g.O.Office.stands c.args.now c.args.from c.args.shown.now c.in_ok-page.page c.row_among.result _ _
    (rw c.deref.ensures.value at c.row_among.ensures) c.in_ok-page.ensures
