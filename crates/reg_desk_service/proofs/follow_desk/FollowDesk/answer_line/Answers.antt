use Rattle.std.proofs.Common.{refl, inl, inr}
use Rattle.std.proofs.lemmas.Result.{IfOk-weaker}
use Rattle.reg_desk_service.specs.Following.{is_current_at}
use Rattle.reg_desk_service.proofs.LineKinds.{line_is_one, refuses_by}
use Rattle.reg_desk_service.proofs.follow_desk.FollowDesk.answer_line.Goals as goal

pub returns-in-Some-clause-ok : goal.returns-in-Some-clause-ok
returns-in-Some-clause-ok g c =
    IfOk-weaker c.refuse.result _ _
    (λ text reply. (
      refl,
      (
        line_is_one c.args.line.now c.requires.line,
        c.in_ok-now.now,
        c.in_ok-now.ensures.read,
        inl (refuses_by (is_current_at c.args.self.now.follower c.in_ok-now.now) c.args.line.now text.items c.in-Some.why c.in-Some.ensures reply, refl),
      ),
    ))
    c.refuse.ensures.reply

pub returns-in-None-clause-ok : goal.returns-in-None-clause-ok
returns-in-None-clause-ok g c =
    IfOk-weaker c.answer_as_open.result _ _ (λ text said. (said.0, (line_is_one c.args.line.now c.requires.line, c.in_ok-now.now, c.in_ok-now.ensures.read, inr (c.in-None.ensures, said.1)))) c.answer_as_open.ensures.ok
