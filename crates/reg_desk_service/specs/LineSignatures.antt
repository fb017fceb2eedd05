-- The signature that a line at the control socket needs.
use Rattle.std.specs.Prelude.{ℕ, List, Option, Some, None, IfSome}
use Rattle.reg_core.specs.declared.command.Command.TheVariants.{Subscriber, Order, Register, Request, Decline, Revoke, Crl as IssueCrl}
use Rattle.reg_desk_cli.specs.declared.job.ResponderChoice.{ResponderChoice}
use Rattle.reg_desk_cli.specs.declared.job.SignerAddress.{SignerAddress}
use Rattle.reg_lines.specs.declared.line.ParsedLine.{ParsedLine}
use Rattle.reg_lines.specs.declared.line.ParsedLine.TheVariants as line
use Rattle.reg_desk_service.specs.SignerAnswers.{AnsweredAtPath}
use Rattle.reg_desk_service.specs.Signers.{answer_socket, crl_socket}
use Rattle.reg_desk_service.specs.declared.deferred_commands.LineSignature.{LineSignature}
use Rattle.reg_desk_service.specs.declared.deferred_commands.SignatureKind.{SignatureKind}
use Rattle.reg_desk_service.specs.declared.deferred_commands.SignatureKind.TheVariants.{Crl, Answer}

-- the signature that a line needs: that of a CRL for `crl`, and that of an OCSP response for `ocsp`
abbrev pub kind_of_signature : ParsedLine → Option SignatureKind
kind_of_signature (line.Command IssueCrl) = Some Crl
kind_of_signature (line.Command (Subscriber name)) = None
kind_of_signature (line.Command (Order subscriber days)) = None
kind_of_signature (line.Command (Register order serial not_before not_after)) = None
kind_of_signature (line.Command (Request serial why)) = None
kind_of_signature (line.Command (Decline request)) = None
kind_of_signature (line.Command (Revoke request)) = None
kind_of_signature (line.Query query) = None
kind_of_signature (line.Ocsp digits) = Some Answer

-- the path of the socket of the signer of CRLs or of that of OCSP responses, if there is one
abbrev pub socket_for : Option SignerAddress → ResponderChoice → SignatureKind → Option (List ℕ)
socket_for signer responder Crl = crl_socket signer
socket_for signer responder Answer = answer_socket signer responder

-- the signer of the CRL or the OCSP response gave this answer for this message
abbrev pub AnsweredBySigner
    : (List ℕ → List ℕ → List ℕ → Type 0) → Option SignerAddress → ResponderChoice → SignatureKind → List ℕ
    → List ℕ → Type 0
AnsweredBySigner signer_answered signer responder wanted =
    AnsweredAtPath signer_answered (socket_for signer responder wanted)

-- the clock has reached the moment, and the answer, if there is one, was given by the signer for the message
pub record IsLineSignature (signer_answered : List ℕ → List ℕ → Type 0) (clock_reached : ℕ → Type 0)
    (known : LineSignature) : Type 0 where
  pub moment_reached : clock_reached known.moment
  pub line_outcome : IfSome known.preset_signature.answer (λ answer.
      signer_answered known.preset_signature.message.items answer.items)
