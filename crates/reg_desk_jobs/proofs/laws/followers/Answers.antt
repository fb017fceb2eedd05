-- The law of a follower's records, by its lemmas.
use Rattle.reg_desk_jobs.proofs.PagesInTurn.{pages_follow_leader, runs_enter_pages, runs_follow_leader, serves_by_run}
use Rattle.reg_desk_jobs.proofs.laws.followers.Goals as goal

pub returns : goal.returns
returns g c = record {
  enters = runs_enter_pages g.M.Machine g.M.Office.Office c.read_line.ensures.one;
  serves = serves_by_run g.M.Machine g.M.Office.Office c.read_line.ensures.one g.W.Write.contents;
  pages = pages_follow_leader c.followers.ensures.one c.followers.ensures.calls;
  stops = runs_follow_leader c.followers.ensures.one c.followers.ensures.calls;
}
