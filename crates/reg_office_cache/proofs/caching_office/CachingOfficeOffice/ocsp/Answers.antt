use Rattle.reg_office_api.specs.CallSteps.{OcspStep}
use Rattle.reg_office_api.specs.Items.{items_of}
use Rattle.reg_office_cache.proofs.CachedCalls.{leaves, ocsp_stays}
use Rattle.reg_office_cache.proofs.caching_office.CachingOfficeOffice.ocsp.Goals as goal

pub returns : goal.returns
returns g c =
    leaves g.C.Store g.S.Signer c.args.self.now.office c.ocsp.new.self c.args.self.now.undecided
    (OcspStep g.S.Signer.signs c.args.now c.args.request.now (items_of c.ocsp.result))
    (ocsp_stays g.S.Signer.signs c.args.now c.args.request.now (items_of c.ocsp.result)) c.ocsp.ensures.answers
