use Rattle.std.proofs.Common.{◌≡◌, ◌+◌, ◌∙◌, length, ap, rules}
use Rattle.reg_office_cache.proofs.UndecidedRows.{forgotten, revocations_taken}
use Rattle.reg_office_cache.specs.declared.undecided.UndecidedRequests.{UndecidedRequests}
use Rattle.reg_office_cache.proofs.undecided.take_revocations.Goals as goal
use Rattle.reg_office_cache.proofs.undecided.take_revocations.Goals.{then-count-lt-MOST, else-count-lt-MOST}

pub returns-clause-are : goal.returns-clause-are
returns-clause-are c records is are =
    let more : c.in_ok-revocations.revocations ≡ c.args.known.now.revocations + length c.args.page.now = search rules in
    let known = c.if-count-lt-MOST.known in
    let new : UndecidedRequests = record { rows = known.rows; requests = known.requests; revocations = c.in_ok-revocations.revocations } in
    elim c.if-count-lt-MOST.branch [
      | then-count-lt-MOST w ↦
          revocations_taken records c.args.known.now new 256 c.args.page.now are is more
          (ap (λ (it : UndecidedRequests). it.requests) w.known-is ∙ w.take_out.ensures.requests) (ap (λ (it : UndecidedRequests). it.rows.items) w.known-is ∙ w.take_out.ensures.rows)
      | else-count-lt-MOST w ↦
          forgotten records c.args.known.now new 256 c.args.page.now are is more
          (ap (λ (it : UndecidedRequests). it.requests) w.known-is ∙ w.forget.ensures.requests) (ap (λ (it : UndecidedRequests). it.rows.items) w.known-is ∙ w.forget.ensures.rows)
    ]
