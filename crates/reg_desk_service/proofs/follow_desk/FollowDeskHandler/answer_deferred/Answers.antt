use Rattle.std.proofs.Common.{inl, inr, refl, sym, ◌∙◌}
use Rattle.reg_desk_service.specs.Following.{is_current_at}
use Rattle.reg_desk_service.proofs.LineKinds.{answered_as, refuses_by}
use Rattle.reg_desk_service.proofs.follow_desk.FollowDeskHandler.answer_deferred.Goals as goal

pub returns-in-Ok-clause-ok : goal.returns-in-Ok-clause-ok
returns-in-Ok-clause-ok g c = (
  refl,
  (
    c.requires.line,
    c.in_ok-now.now,
    c.in_ok-now.ensures.read,
    inl (refuses_by (is_current_at c.args.self.now.follower c.in_ok-now.now) c.args.line.now c.in-Ok.text.items c.in-Some.why c.in-Some.ensures c.in-Ok.ensures.reply, refl),
  ),
)

pub returns-clause-ok : goal.returns-clause-ok
returns-clause-ok g c =
    answered_as c.answer_deferred.result _ _ _ _
    (λ kept. (kept.0, (refl, kept.1, kept.2)))
    (λ text said. (said.1 ∙ sym said.0, (c.requires.line, c.in_ok-now.now, c.in_ok-now.ensures.read, inr (c.in-None.ensures, (refl, said.2, said.3)))))
    c.answer_deferred.ensures.ok
