use Rattle.std.proofs.Common.{refl, sym, subst, inr, ◌<◌, ℕ, List, ◌∷◌, [], ◌∙◌}
use Rattle.reg_io.specs.Delimiter.{HasNoDelimiter}
use Rattle.reg_desk_server.proofs.Gatherings.{gathers_none, gathers_then, goes_on, not_due}
use Rattle.reg_desk_server.proofs.control_connection.ControlConnection.receive.Goals as goal

pub loop-init : goal.loop-init
loop-init g c = (gathers_none _ _ _, λ was. (refl, was), refl, λ room was ends. absurd (goes_on _ was ends), refl)

pub returns-then-not-receive_once-clause-gathers : goal.returns-then-not-receive_once-clause-gathers
returns-then-not-receive_once-clause-gathers g c =
    gathers_then _ _ _ _ _ _ _ _ c.in_default.ensures.goes_on c.loop.invariant.0 c.receive_once.ensures.gathers

pub returns-then-not-receive_once-clause-ended : goal.returns-then-not-receive_once-clause-ended
returns-then-not-receive_once-clause-ended g c was = absurd (goes_on _ c.in_default.ensures.goes_on (c.loop.invariant.1 was).1)

pub returns-then-not-receive_once-clause-whole : goal.returns-then-not-receive_once-clause-whole
returns-then-not-receive_once-clause-whole g c =
    inr (subst (λ (bytes : List ℕ). HasNoDelimiter (10 ∷ []) bytes) (sym (c.if-not-receive_once.ensures.waits refl)) (not_due _ _ c.in_default.ensures.whole))

pub loop-preserved : goal.loop-preserved
loop-preserved g c = (
  gathers_then _ _ _ _ _ _ _ _ c.in_default.ensures.goes_on c.loop.invariant.0 c.receive_once.ensures.gathers,
  λ was. absurd (goes_on _ c.in_default.ensures.goes_on (c.loop.invariant.1 was).1),
  c.receive_once.ensures.unsent ∙ c.loop.invariant.2,
  λ room was. c.receive_once.ensures.ends (subst (λ (n : ℕ). 0 < n) (sym c.loop.invariant.4) room) c.in_default.ensures.goes_on,
  c.receive_once.auto.read_buffer ∙ c.loop.invariant.4,
)

pub returns-then-not-receive_once-clause-ends : goal.returns-then-not-receive_once-clause-ends
returns-then-not-receive_once-clause-ends g c room was =
    c.receive_once.ensures.ends (subst (λ (n : ℕ). 0 < n) (sym c.loop.invariant.4) room) c.in_default.ensures.goes_on
