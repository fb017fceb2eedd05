use Rattle.std.proofs.Common.{◌≡◌, ◌+◌, ◌-◌, ℕ, List, None, Some, ap, length, length-drop, take, sym, ◌∙◌, arith}
use Rattle.reg_core_lists.specs.ListParameters.{params_from, with_parameter}
use Rattle.reg_core_lists.proofs.Pieces.{last_piece, next_piece, params_of_some, too_many, unread_piece}
use Rattle.reg_core_lists.proofs.list_parameters.read_params.Goals as goal

pub returns-in_err-params : goal.returns-in_err-params
returns-in_err-params c =
    let query : None ≡ with_parameter c.loop.params (take c.index_of-end.result c.loop.rest.now) = c.in_err-params.ensures in
    rw c.from_residual.ensures (sym (params_of_some c.args.query.now c.is_empty.result c.is_empty.ensures c.if-is_empty.false ∙ c.loop.invariant.read
    ∙ unread_piece c.loop.counter c.loop.rest.now c.loop.params c.index_of-end.result c.loop-test.true c.index_of-end.ensures.index query))

pub returns-then-end-rest : goal.returns-then-end-rest
returns-then-end-rest c =
    let query : Some c.in_ok-params.params ≡ with_parameter c.loop.params (take c.index_of-end.result c.loop.rest.now) = c.in_ok-params.ensures in
    sym (params_of_some c.args.query.now c.is_empty.result c.is_empty.ensures c.if-is_empty.false ∙ c.loop.invariant.read
    ∙ last_piece c.loop.counter c.loop.rest.now c.loop.params c.index_of-end.result c.loop-test.true c.index_of-end.ensures.index c.in_ok-params.params query c.if-end-rest.true)

pub loop-preserved : goal.loop-preserved
loop-preserved c =
    let query : Some c.in_ok-params.params ≡ with_parameter c.loop.params (take c.index_of-end.result c.loop.rest.now) = c.in_ok-params.ensures in
    record {
      read = c.loop.invariant.read
          ∙ next_piece c.loop.counter c.loop.rest.now c.loop.params c.index_of-end.result c.loop-test.true c.index_of-end.ensures.index c.in_ok-params.params query c.if-end-rest.false
          ∙ ap (λ (text : List ℕ). params_from (7 - (c.loop.counter + 1)) text c.in_ok-params.params) (sym c.text_after-rest.ensures);
      within = omega (arith, c.loop.invariant.within, length-drop (c.index_of-end.result + 1) c.loop.rest.now, ap (length {A = ℕ}) c.text_after-rest.ensures);
    }

pub returns : goal.returns
returns c =
    sym (params_of_some c.args.query.now c.is_empty.result c.is_empty.ensures c.if-is_empty.false ∙ c.loop.invariant.read
    ∙ too_many c.loop.counter c.loop.rest.now c.loop.params c.loop-test.false)
