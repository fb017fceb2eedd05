use Rattle.std.proofs.Common.{◌≡◌, ◌+◌, None, refl, sym, suc, subst, take, ◌∙◌, arith}
use Rattle.std.specs.List.{find}
use Rattle.std.proofs.lemmas.Option.{slice_get_read}
use Rattle.reg_desk_service.specs.RowLookUps.{has_key}
use Rattle.reg_desk_service.proofs.FoundRows.{found_now, not_now}
use Rattle.reg_desk_service.proofs.show.row_among.Goals as goal

pub returns-then-has_key : goal.returns-then-has_key
returns-then-has_key c =
    found_now (has_key c.args.shown.now) c.args.rows.now c.loop-row.row-index c.row-item.result c.loop-row.invariant
    (slice_get_read c.args.rows.now _ c.loop-row.row-index c.row-item.result refl c.loop-row-test.true c.row-item.is)
    (sym c.has_key.ensures ∙ c.if-has_key.true)

pub loop-row-preserved : goal.loop-row-preserved
loop-row-preserved c =
    let one : suc c.loop-row.row-index ≡ c.loop-row.row-index + 1 = omega arith in
    subst (λ n. find (has_key c.args.shown.now) (take n c.args.rows.now) ≡ None) one
    (not_now (has_key c.args.shown.now) c.args.rows.now c.loop-row.row-index c.row-item.result c.loop-row.invariant
    (slice_get_read c.args.rows.now _ c.loop-row.row-index c.row-item.result refl c.loop-row-test.true c.row-item.is)
    (sym c.has_key.ensures ∙ c.if-has_key.false))
