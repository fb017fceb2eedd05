use Rattle.std.proofs.Common.{[]}
use Rattle.reg_crl_signer.specs.SignatureRequest.{IsSignatureRequest}
use Rattle.reg_desk_service.proofs.Finishing.{asked_at}
use Rattle.reg_desk_service.proofs.desks.DeskHandler.connect_to_signer.Goals as goal

pub returns-in-Some : goal.returns-in-Some
returns-in-Some g c =
    let socket_is = rw c.in-Some.is at c.socket_of.ensures in
    asked_at _ c.in-Some.socket.now g.M.Machine.reached (λ path. IsSignatureRequest path []) c.connect_to_signer.result socket_is c.connect_to_signer.ensures.reached c.connect_to_signer.ensures.kept
