use Rattle.std.proofs.Common.{Ok, None, subst}
use Rattle.reg_office_api.specs.Answered.{IsGiven}
use Rattle.reg_desk_service.specs.HealthRoutes.{IsReadAt, IsUnsigned}
use Rattle.reg_desk_service.proofs.Looks.{looks_as, read_at}
use Rattle.reg_desk_service.proofs.health_routes.read_latest.Goals as goal

pub returns-in-Ok-clause-looks : goal.returns-in-Ok-clause-looks
returns-in-Ok-clause-looks g c =
    looks_as g.M.Office.Office.is_clean g.M.Office.Office.stands
    (λ records. IsGiven records None (Ok c.in-Ok.bytes.items))
    (λ records. IsReadAt records c.args.number (record { number = c.args.number; is_unsigned = c.is_unsigned.result }))
    (λ records given. read_at records c.args.number c.in-Ok.bytes.items c.is_unsigned.result given
    (subst (λ b. IsUnsigned b c.is_unsigned.result) c.deref.ensures.value c.is_unsigned.ensures))
    _
    _
    c.in-Ok.ensures
