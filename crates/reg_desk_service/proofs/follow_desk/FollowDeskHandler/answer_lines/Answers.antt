use Rattle.std.proofs.Common.{subst}
use Rattle.std.specs.Prelude.{ℕ, List}
use Rattle.reg_desk_service.specs.Following.{FollowerAnswersLines}
use Rattle.reg_desk_service.proofs.LineKinds.{ends_lines, first_alone}
use Rattle.reg_desk_service.proofs.follow_desk.FollowDeskHandler.answer_lines.Goals as goal

pub answer_line-requires-clause-line : goal.answer_line-requires-clause-line
answer_line-requires-clause-line g c = first_alone c.args.lines.now c.first_line-line.result.now c.first_line-line.ensures.0 c.first_line-line.ensures.1

pub returns-in-Ok-clause-ok : goal.returns-in-Ok-clause-ok
returns-in-Ok-clause-ok g c = (
  ends_lines c.args.lines.now _ c.first_line-line.ensures.0,
  (
    c.in-Ok.ensures.ok.0,
    subst
        (λ (bytes : List ℕ). FollowerAnswersLines g.M.Machine g.M.Office.Office (c.args.self.now.desk.office, c.args.self.now.desk.admission, c.args.self.now.follower) bytes
        c.in-Ok.text.items (c.answer_line.new.self.desk.office, c.answer_line.new.self.desk.admission, c.answer_line.new.self.follower))
        c.first_line-line.ensures.1
        c.in-Ok.ensures.ok.1,
  ),
)
