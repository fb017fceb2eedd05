use Rattle.reg_office.proofs.Leading.{beginning_leads, office_looks}
use Rattle.reg_office_reads.proofs.PublicLaws.{lent}
use Rattle.reg_office.proofs.office.OfficeOffice.begin_ocsp.Goals as goal

pub returns-clause-looks : goal.returns-clause-looks
returns-clause-looks g c = office_looks g.C.Store g.S.Signer _ _ _ _ (lent c.deref_mut.ensures.shows c.begin_ocsp.ensures.looks) c.begin_ocsp.ensures.same (λ records sound begun. begun)

pub returns-clause-begins : goal.returns-clause-begins
returns-clause-begins g c = beginning_leads g.C.Store g.S.Signer _ _ c.args.now c.args.request.now c.begin_ocsp.result (returns-clause-looks g c)
