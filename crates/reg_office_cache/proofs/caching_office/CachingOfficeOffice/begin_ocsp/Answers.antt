use Rattle.reg_office_api.specs.Drafts.{BeginStep}
use Rattle.reg_office_cache.proofs.CachedCalls.{leaves, begin_stays}
use Rattle.reg_office_cache.proofs.caching_office.CachingOfficeOffice.begin_ocsp.Goals as goal

pub returns-clause-begins : goal.returns-clause-begins
returns-clause-begins g c =
    leaves g.C.Store g.S.Signer c.args.self.now.office c.begin_ocsp.new.self c.args.self.now.undecided
    (BeginStep g.S.Signer.signs c.args.now c.args.request.now c.begin_ocsp.result)
    (begin_stays g.S.Signer.signs c.args.now c.args.request.now c.begin_ocsp.result) c.begin_ocsp.ensures.begins
