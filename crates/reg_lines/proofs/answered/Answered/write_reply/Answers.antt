use Rattle.std.proofs.Common.{◌∙◌}
use Rattle.std.proofs.lemmas.Bool.{false≢true}
use Rattle.reg_lines.proofs.Accepting.{gives_reason}
use Rattle.reg_lines.proofs.answered.Answered.write_reply.Goals as goal

pub returns-then-not-is_accepted-clause-said : goal.returns-then-not-is_accepted-clause-said
returns-then-not-is_accepted-clause-said g c = (
  c.in_ok-write.ensures.wrote,
  (
    c.if-is_strict.true,
    (λ accepted. false≢true (c.if-not-is_accepted.ensures ∙ c.requires.1 accepted)),
    rw c.refused.ensures (gives_reason c.args.self.now),
  ),
)
