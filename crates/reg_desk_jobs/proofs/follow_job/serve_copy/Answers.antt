use Rattle.std.proofs.Common.{inl, inr, refl, subst, sym}
use Rattle.std.specs.Prelude.{ℕ, List, Option}
use Rattle.reg_core_lists.specs.declared.positions.Positions.{Positions}
use Rattle.reg_desk_server.specs.Exchange.{HandlesOrWorks}
use Rattle.reg_io.specs.RunsOfAnswers.{Answered}
use Rattle.reg_office_api.specs.Calls.{LooksIn}
use Rattle.reg_office_api.specs.Follows.{ArePositionsOf}
use Rattle.reg_desk_service.specs.Following.{FollowerAnswers, FollowerAnswersLines, FollowerDefers, FollowerWorks}
use Rattle.reg_desk_service.specs.declared.admission.Admission.{Admission}
use Rattle.reg_desk_jobs.specs.Serving.{IsBoundOn}
use Rattle.reg_desk_jobs.proofs.FollowRuns.{ends_following, handles_mapped, look_keeps}
use Rattle.reg_desk_jobs.proofs.follow_job.serve_copy.Goals as goal

pub returns-in-Err : goal.returns-in-Err
returns-in-Err g c = inl (look_keeps g.M.Office.Office.is_clean g.M.Office.Office.stands _ _ _ c.positions.ensures.looks, (_, refl), refl)

pub returns-in_default : goal.returns-in_default
returns-in_default g c = inl (look_keeps g.M.Office.Office.is_clean g.M.Office.Office.stands _ _ _ c.positions.ensures.looks, (_, refl), refl)

pub returns-in-Err-event_loop_at : goal.returns-in-Err-event_loop_at
returns-in-Err-event_loop_at g c = inl (look_keeps g.M.Office.Office.is_clean g.M.Office.Office.stands _ _ _ c.positions.ensures.looks, (_, refl), refl)

pub returns : goal.returns
returns g c =
    let ran = c.run_event_loop-ending.ensures in
    let follower = c.new-follower.ensures in
    let last = c.run_event_loop-ending.new.handler in
    inr (
      subst (λ (path : Option (List ℕ)). IsBoundOn g.M.Machine c.args.job.now.endpoint path) (sym c.control_path_of-control_path.ensures) c.in-Ok-event_loop_at.ensures.ok,
      (
        c.positions.new.self,
        c.new-follower.result,
        last.follower,
        last.desk.admission,
        ran.0,
        ran.1,
        record {
          own = subst (λ (own : Positions). LooksIn g.M.Office.Office (λ records. ArePositionsOf records own) c.args.office c.positions.new.self) (sym follower.own) c.in-Ok.ensures.looks;
          lag_is = follower.lag;
          reached_at = follower.reached_at;
        },
        subst
            (λ (a : Admission). Answered (HandlesOrWorks (FollowerAnswers g.M.Machine g.M.Office.Office) (FollowerAnswersLines g.M.Machine g.M.Office.Office)
            (FollowerDefers g.M.Machine g.M.Office.Office) (FollowerWorks g.M.Machine g.M.Office.Office)) (c.positions.new.self, a, c.new-follower.result) ran.0 ran.1
            (last.desk.office, last.desk.admission, last.follower))
            c.new-admission.ensures
            (handles_mapped (λ it. (it.desk.office, it.desk.admission, it.follower)) _ _ _ _ (FollowerAnswers g.M.Machine g.M.Office.Office)
            (FollowerAnswersLines g.M.Machine g.M.Office.Office) (FollowerDefers g.M.Machine g.M.Office.Office) (FollowerWorks g.M.Machine g.M.Office.Office)
            (λ s bytes outcome t said. said.1) (λ s bytes text t said. said.1) (λ s bytes t said. said.1) (λ s t said. said.1)
            _ last ran.0 ran.1 ran.2),
        rw (c.ending_of-result.ensures, c.stop.ensures) (ends_following g.M.Machine g.M.Office.Office _ _ ran.0 _ _ c.run_event_loop-ending.result ran.3),
      ),
    )
