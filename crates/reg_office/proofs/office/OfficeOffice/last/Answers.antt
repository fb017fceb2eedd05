use Rattle.std.proofs.Common.{◌≡◌, refl}
use Rattle.reg_core.specs.Records.{Records}
use Rattle.reg_office_api.specs.LookUps.{HasLastMoment}
use Rattle.reg_office.proofs.Leading.{office_leads, office_looks}
use Rattle.reg_office_reads.proofs.PublicLaws.{lent}
use Rattle.reg_office.proofs.office.OfficeOffice.last.Goals as goal

pub returns-clause-looked : goal.returns-clause-looked
returns-clause-looked g c =
    let IsSo : Records → Type 0 = λ records. HasLastMoment records c.last_in.result in
    office_looks g.C.Store g.S.Signer _ _ IsSo IsSo (lent c.deref_mut.ensures.shows c.last_in.ensures.looks) refl (λ records sound it. it)

pub returns-clause-looks : goal.returns-clause-looks
returns-clause-looks g c =
    let IsSo : Records → Type 0 = λ records. HasLastMoment records c.last_in.result in
    office_leads g.C.Store g.S.Signer _ _ IsSo (λ signers before after. IsSo before × (after ≡ before)) (returns-clause-looked g c) (λ records it. (it, refl))
