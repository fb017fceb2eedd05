use Rattle.std.proofs.Common.{◌==◌, ◌∙◌, ap, sym}
use Rattle.reg_store_tables.proofs.PublicLaws.{and_so, by_finding, by_none, on_err, so}
use Rattle.reg_office_cache.proofs.UndecidedRows.{last_page}
use Rattle.reg_office_cache.proofs.undecided.read_revocations.Goals as goal

pub returns-in_err-page : goal.returns-in_err-page
returns-in_err-page g c =
    so (and_so c.loop-is_full.invariant (by_none {IsSo = λ records. Unit {0}} c.entered_after.ensures.looked (λ records. tt)))
    (λ records sound it are. let (now, last) = it.0 are in (now, on_err _ c.from_residual.result c.from_residual.ensures.0))

pub returns-in_err-take_revocations : goal.returns-in_err-take_revocations
returns-in_err-take_revocations g c =
    so (and_so c.loop-is_full.invariant (by_finding c.in_ok-page.ensures))
    (λ records sound it are.
    let (now, last) = it.0 are in
    (c.take_revocations.ensures.are records (c.deref.ensures.value ∙ it.1) now, on_err _ c.from_residual-in_err-take_revocations.result c.from_residual-in_err-take_revocations.ensures.0))

pub loop-is_full-preserved : goal.loop-is_full-preserved
loop-is_full-preserved g c =
    so (and_so c.loop-is_full.invariant (by_finding c.in_ok-page.ensures))
    (λ records sound it are.
    let (now, last) = it.0 are in
    let is = c.deref.ensures.value ∙ it.1 in (
      c.take_revocations.ensures.are records is now,
      λ other.
          c.in_ok-take_revocations.ensures.ok
          ∙ last_page 256 c.loop-is_full.known.revocations records.revocations c.deref.result.now is now.revocations (ap (λ n. n == 256) (c.deref.ensures.len ∙ sym c.len.ensures) ∙ other),
    ))

pub returns : goal.returns
returns g c = so c.loop-is_full.invariant (λ records sound it are. let (now, last) = it are in (now, last c.loop-is_full-test.false))
