use Rattle.std.proofs.Common.{refl, arith}
use Rattle.reg_store_tables.proofs.PublicLaws.{and_so, by_none, looked_none, so}
use Rattle.reg_office_cache.proofs.UndecidedRows.{requests_on}
use Rattle.reg_office_cache.proofs.undecided.take_requests.Goals as goal

pub loop-request-init : goal.loop-request-init
loop-request-init g c = record { requests = omega arith; looks = by_none looked_none (λ records is are all. (are, refl)) }

pub loop-request-preserved : goal.loop-request-preserved
loop-request-preserved g c = record {
  requests = omega (arith, c.loop-request.invariant.requests, c.in_ok-take_request.ensures.ok);
  looks = so (and_so c.loop-request.invariant.looks c.take_request.ensures.looks)
      (λ records sound it. requests_on records c.args.known.now c.loop-request.known c.take_request.new.known 256 c.loop-request.request-index c.args.page.now c.request-item.result
      c.loop-request.invariant.requests c.loop-request-test.true c.request-item.is it.0 it.1);
}

pub returns-in_err-take_request-clause-looks : goal.returns-in_err-take_request-clause-looks
returns-in_err-take_request-clause-looks g c =
    so (and_so c.loop-request.invariant.looks c.take_request.ensures.looks)
    (λ records sound it. requests_on records c.args.known.now c.loop-request.known c.take_request.new.known 256 c.loop-request.request-index c.args.page.now c.request-item.result
    c.loop-request.invariant.requests c.loop-request-test.true c.request-item.is it.0 it.1)
