use Rattle.reg_store_tables.specs.LookUps.{LooksUp}
use Rattle.reg_office.proofs.FollowDeclines.{AreFirst, declined_ids}
use Rattle.reg_office.proofs.follow.all_declines_in.Given as goal

abbrev pub invariant-loop : goal.invariant-loop
invariant-loop g l = LooksUp g.C.Store l.fn.tables l.tables (λ records. AreFirst (declined_ids records) l.declines)
