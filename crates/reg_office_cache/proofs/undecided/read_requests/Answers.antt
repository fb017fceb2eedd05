use Rattle.std.proofs.Common.{◌∙◌, arith}
use Rattle.reg_store_tables.proofs.PublicLaws.{and_so, by_finding, by_none, on_err, so}
use Rattle.reg_office_cache.proofs.UndecidedRows.{page_on}
use Rattle.reg_office_cache.proofs.undecided.read_requests.Goals as goal

pub returns-in_err-page : goal.returns-in_err-page
returns-in_err-page g c =
    so (and_so c.loop-known.invariant (by_none {IsSo = λ records. Unit {0}} c.entered_after.ensures.looked (λ records. tt)))
    (λ records sound it are all. let (now, same) = it.0.1 are all in (now, same, on_err _ c.from_residual-in_err-page.result c.from_residual-in_err-page.ensures.0))

pub returns-then-is_empty : goal.returns-then-is_empty
returns-then-is_empty g c =
    so (and_so c.loop-known.invariant (by_none {IsSo = λ records. Unit {0}} c.entered_after.ensures.looked (λ records. tt)))
    (λ records sound it are all. let (now, same) = it.0.1 are all in (now, same, tt))

pub returns-in_err-take_requests : goal.returns-in_err-take_requests
returns-in_err-take_requests g c =
    so (and_so (and_so c.loop-known.invariant (by_finding c.in_ok-page.ensures)) c.take_requests.ensures.looks)
    (λ records sound it are all.
    let (now, same) = page_on records c.args.known.now c.loop-known.known c.take_requests.new.known it.0.0.1 (it.1 (c.deref.ensures.value ∙ it.0.1)) are all in
    (now, same, on_err _ c.from_residual-in_err-take_requests.result c.from_residual-in_err-take_requests.ensures.0))

pub loop-known-preserved : goal.loop-known-preserved
loop-known-preserved g c =
    so (and_so (and_so c.loop-known.invariant (by_finding c.in_ok-page.ensures)) c.take_requests.ensures.looks)
    (λ records sound it. (it.0.0.0, page_on records c.args.known.now c.loop-known.known c.take_requests.new.known it.0.0.1 (it.1 (c.deref.ensures.value ∙ it.0.1))))

pub returns : goal.returns
returns g c =
    so c.loop-known.invariant
    (λ records sound it are all. let (now, same) = it.1 are all in (now, same, omega (arith, it.0, now.requests, c.loop-known-test.false)))
