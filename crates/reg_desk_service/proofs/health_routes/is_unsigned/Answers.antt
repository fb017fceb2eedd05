use Rattle.std.proofs.Common.{◌≡◌, ◌∙◌, sym}
use Rattle.reg_desk_service.proofs.health_routes.is_unsigned.Goals as goal

pub returns-in-Some : goal.returns-in-Some
returns-in-Some c = λ algorithm under.
    let same : c.in-Some.algorithm.now ≡ algorithm = c.in-Some.ensures algorithm under in
    ((λ is. sym same ∙ c.is_digest.ensures.0 is), (λ is. c.is_digest.ensures.1 (same ∙ is)))

pub returns-in-None : goal.returns-in-None
returns-in-None c = λ algorithm under. absurd (c.in-None.ensures algorithm under)
