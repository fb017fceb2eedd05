use Rattle.std.proofs.Common.{refl}
use Rattle.reg_office_api.specs.CallSteps.{CrlStep}
use Rattle.reg_office_api.specs.Items.{items_of}
use Rattle.reg_office.proofs.Leading.{office_leads, office_looks}
use Rattle.reg_office_reads.proofs.PublicLaws.{lent}
use Rattle.reg_office.proofs.office.OfficeOffice.crl_bytes.Goals as goal

pub returns-in-Some-clause-looks : goal.returns-in-Some-clause-looks
returns-in-Some-clause-looks g c =
    office_looks g.C.Store g.S.Signer _ _ _ _ (lent c.deref_mut.ensures.shows c.numbered_der.ensures.looks) refl (λ records sound given. rw c.in-Some.is given)

pub returns-in-Some-clause-gives : goal.returns-in-Some-clause-gives
returns-in-Some-clause-gives g c =
    office_leads g.C.Store g.S.Signer _ _ _ (CrlStep c.args.number (items_of c.numbered_der.result)) (returns-in-Some-clause-looks g c) (λ records given. (given, refl))

pub returns-in-None-clause-looks : goal.returns-in-None-clause-looks
returns-in-None-clause-looks g c =
    office_looks g.C.Store g.S.Signer _ _ _ _ (lent c.deref_mut-in-None.ensures.shows c.latest_der.ensures.looks) refl (λ records sound given. rw c.in-None.is given)

pub returns-in-None-clause-gives : goal.returns-in-None-clause-gives
returns-in-None-clause-gives g c =
    office_leads g.C.Store g.S.Signer _ _ _ (CrlStep c.args.number (items_of c.latest_der.result)) (returns-in-None-clause-looks g c) (λ records given. (given, refl))
