use Rattle.reg_store_opening.specs.declared.versions.Version.TheVariants.{Third}
use Rattle.reg_store_opening.proofs.schemas.is_register.Goals as goal

pub returns : goal.returns
returns c =
    let third = c.in_ok-version.ensures Third in
    (λ yes. third.0 (c.is_third.ensures.0 yes), λ same. c.is_third.ensures.1 (third.1 same))
