use Rattle.std.proofs.Common.{refl}
use Rattle.reg_office_api.proofs.PublicLaws.{follows, stays}
use Rattle.reg_desk_service.proofs.LookedAt.{begun_still}
use Rattle.reg_desk_service.proofs.deferred_commands.deferred_ocsp.Goals as goal

pub returns-in_default : goal.returns-in_default
returns-in_default g c = stays g.O.Office.is_clean g.O.Office.stands _ _ refl

pub returns : goal.returns
returns g c =
    follows g.O.Office.is_clean g.O.Office.stands _ _
    (λ signers before after begun. begun_still g.O.Office.signs signers before c.args.ticket.moment c.deref.result.now c.begin_ocsp-begun.result after begun) _ _
    c.begin_ocsp-begun.ensures.begins
