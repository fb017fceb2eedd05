use Rattle.std.proofs.Common.{inl, refl}
use Rattle.reg_desk_service.proofs.Following.{follows_none}
use Rattle.reg_desk_service.proofs.follower.Follower.work.Goals as goal

pub returns-then-not-is_current-clause-follows : goal.returns-then-not-is_current-clause-follows
returns-then-not-is_current-clause-follows g c = follows_none g.M.Office.Office c.args.now _ _ _ _ refl refl

pub returns-then-is_some-2-clause-follows : goal.returns-then-is_some-2-clause-follows
returns-then-is_some-2-clause-follows g c = (c.args.self.now, inl refl, c.go_on.ensures)

pub returns-then-now-self-clause-follows : goal.returns-then-now-self-clause-follows
returns-then-now-self-clause-follows g c = follows_none g.M.Office.Office c.args.now _ _ _ _ refl refl

pub returns-clause-follows : goal.returns-clause-follows
returns-clause-follows g c = (_, c.ask.ensures, c.go_on-2.ensures)
