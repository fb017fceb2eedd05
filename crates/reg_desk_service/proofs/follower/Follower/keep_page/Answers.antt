use Rattle.std.proofs.Common.{refl}
use Rattle.reg_desk_service.proofs.follower.Follower.keep_page.Goals as goal

pub returns-clause-ends : goal.returns-clause-ends
returns-clause-ends c = λ is. (c.args.page, (c.args.self.now.pages.items, c.in-Ok.ensures.items), is)
