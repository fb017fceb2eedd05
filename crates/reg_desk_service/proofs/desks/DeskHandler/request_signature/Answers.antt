use Rattle.reg_crl_signer.specs.SignatureRequest.{IsSignatureRequest}
use Rattle.reg_desk_service.proofs.Finishing.{asked_at}
use Rattle.reg_desk_service.proofs.desks.DeskHandler.request_signature.Goals as goal

pub returns-in-Some : goal.returns-in-Some
returns-in-Some g c =
    let message = c.args.ticket.now.draft.message in
    let socket_is = rw c.in-Some.is at c.socket_of.ensures in
    asked_at _ c.in-Some.socket.now (λ path. g.M.Machine.signature_requested path message) (λ path. IsSignatureRequest path message) c.request_signature.result socket_is
    (rw c.message.ensures at c.request_signature.ensures.asked) (rw c.message.ensures at c.request_signature.ensures.kept)
