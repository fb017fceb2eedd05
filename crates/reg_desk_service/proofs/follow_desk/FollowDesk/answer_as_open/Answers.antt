use Rattle.std.proofs.Common.{refl, sym, ◌∙◌, subst}
use Rattle.std.specs.Prelude.{List, ℕ}
use Rattle.reg_desk_service.specs.Following.{AnswersLinesAsOpen}
use Rattle.reg_desk_service.proofs.LineKinds.{all_of_line, ends_alone, line_is_whole}
use Rattle.reg_desk_service.proofs.follow_desk.FollowDesk.answer_as_open.Goals as goal

pub answer_lines-requires-clause-lines : goal.answer_lines-requires-clause-lines
answer_lines-requires-clause-lines g c = line_is_whole c.args.line.now c.requires.line

pub returns-in-Ok-clause-ok : goal.returns-in-Ok-clause-ok
returns-in-Ok-clause-ok g c =
    let line = c.args.line.now in
    let said = c.in-Ok.ensures.ok in
    let all = all_of_line line _ (ends_alone line _ c.requires.line said.0) in (
      said.1.1 ∙ sym said.1.0,
      subst
          (λ (bytes : List ℕ). AnswersLinesAsOpen g.M.Machine g.M.Office.Office (c.args.self.now.desk.office, c.args.self.now.desk.admission, c.args.self.now.follower) bytes
          c.in-Ok.replies.text.items (c.answer_lines.new.self.office, c.answer_lines.new.self.admission, c.args.self.now.follower))
          all
          (refl, said.1.2, said.1.3),
    )
