use Rattle.std.proofs.Common.{Ok}
use Rattle.reg_core.specs.declared.command.Command.TheVariants.{Decline}
use Rattle.reg_core_laws.specs.Run.{Happens}
use Rattle.reg_crl.specs.Signing.{signed_by}
use Rattle.reg_office_cache.proofs.KeptRows.{command_kept, decline_kept, other_command}
use Rattle.reg_office_cache.proofs.caching_office.keep.Goals as goal

pub returns-in-Ok : goal.returns-in-Ok
returns-in-Ok g c identity before after now happens are =
    let signed = signed_by g.S.Signer.signs identity in
    let declines : Happens signed before now (Decline c.in-Decline.request) (Ok c.in-Ok.field-0) after = rw (c.in-Decline.is, c.in-Ok.is) at happens in
    decline_kept signed before after now c.in-Decline.request c.in-Ok.field-0 c.args.known.now c.decline.new.self declines c.decline.ensures.rows c.decline.ensures.requests c.decline.ensures.revocations are

pub returns-in_default : goal.returns-in_default
returns-in_default g c identity before after now happens are =
    command_kept (signed_by g.S.Signer.signs identity) before after now c.args.command.now c.args.outcome.now c.args.known.now (other_command c.args.command.now c.in_default.not-Decline) happens are
