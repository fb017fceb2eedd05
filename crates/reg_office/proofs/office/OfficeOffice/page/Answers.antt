use Rattle.std.proofs.Common.{refl}
use Rattle.reg_core_lists.specs.Pages.{IsPageOfSoundRows, Pages}
use Rattle.reg_office.proofs.Leading.{office_leads, office_looks}
use Rattle.reg_office_reads.proofs.PublicLaws.{paged}
use Rattle.reg_office_reads.proofs.PublicLaws.{lent}
use Rattle.reg_office.proofs.office.OfficeOffice.page.Goals as goal

pub returns-clause-looks : goal.returns-clause-looks
returns-clause-looks g c =
    let decides = c.page.ensures in
    office_looks g.C.Store g.S.Signer _ _ _ (λ records. IsPageOfSoundRows records c.args.now c.args.most c.args.from c.page.result) (lent c.deref_mut.ensures.shows decides.looks) refl
    (λ records sound reported. (sound, paged records c.args.now c.args.most c.args.from c.page.result decides.faults reported))

pub returns-clause-pages : goal.returns-clause-pages
returns-clause-pages g c =
    office_leads g.C.Store g.S.Signer _ _ (λ records. IsPageOfSoundRows records c.args.now c.args.most c.args.from c.page.result)
    (λ signers before after. Pages before c.args.now c.args.most c.args.from c.page.result after) (returns-clause-looks g c) (λ records paged. (paged, refl))
