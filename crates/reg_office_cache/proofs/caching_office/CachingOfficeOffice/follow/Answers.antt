use Rattle.reg_office_api.specs.Follows.{FollowStep}
use Rattle.reg_office_cache.proofs.CachedCalls.{caches, follow_kept}
use Rattle.reg_office_cache.proofs.caching_office.CachingOfficeOffice.follow.Goals as goal

pub returns : goal.returns
returns g c forms =
    caches g.C.Store g.S.Signer c.args.self.now.office c.follow.new.self c.args.self.now.undecided c.keep_before_pages.new.known
    (λ signers. FollowStep c.args.from.now c.args.pages.now c.follow.result) (c.follow.ensures.follows forms)
    (λ signers. follow_kept c.args.self.now.undecided c.keep_before_pages.new.known c.keep_before_pages.ensures.stays c.args.from.now c.args.pages.now c.follow.result c.keep_before_pages.ensures.added)
