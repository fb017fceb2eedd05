use Rattle.std.proofs.Common.{◌≡◌, ◌+◌, ℕ, Ok, Err, sym, ap, subst, ◌∙◌}
use Rattle.reg_core.specs.Grounds.{limit_of}
use Rattle.reg_core.specs.Step.{refusal}
use Rattle.reg_core.specs.declared.change.Change.TheVariants as change
use Rattle.reg_core.specs.declared.command.Command.TheVariants.{Request}
use Rattle.reg_core.specs.declared.command.Reply.TheVariants.{Request as RequestEntered}
use Rattle.reg_store_tables.proofs.PublicLaws.{and_so, looked_then, so}
use Rattle.reg_office_reads.specs.Looking.{IsAcceptance, LooksAndDecides}
use Rattle.reg_office_reads.proofs.Deciding.{request_due, request_to_do}
use Rattle.reg_office_reads.proofs.Looking.{decided_against, decided_for, not_decided}
use Rattle.reg_office_reads.proofs.requests.enter_request.Goals as goal

pub returns-in_err-head : goal.returns-in_err-head
returns-in_err-head g c = not_decided c.from_residual.result c.in_err-head.field-0.0 c.from_residual.ensures.1 c.head_at.ensures.looked

pub returns-in_err-certificate : goal.returns-in_err-certificate
returns-in_err-certificate g c =
    not_decided c.from_residual-in_err-certificate.result c.in_err-certificate.field-0.0 c.from_residual-in_err-certificate.ensures.1 (looked_then c.head_at.ensures.looked c.certificate_of.ensures.looked)

pub returns-in_err-row : goal.returns-in_err-row
returns-in_err-row g c =
    decided_against c.from_residual-in_err-row.result c.in_err-row.field-0.0 c.from_residual-in_err-row.ensures.1
    (so (and_so c.in_ok-head.ensures c.in_ok-certificate.ensures)
    (λ records sound it. request_to_do records c.args.now c.in_ok-head.head c.args.serial c.args.word c.in_ok-certificate.certificate c.in_ok-certificate.revocation (Err c.in_err-row.field-0.0)
    it.0 it.1.0 it.1.1 c.in_err-row.ensures))

pub returns : goal.returns
returns g c =
    let row = c.in_ok-row.row in
    let due : c.plus-due.result ≡ c.args.now + limit_of row.ground = c.plus-due.ensures ∙ ap (λ (n : ℕ). c.args.now + n) c.limit_secs.ensures.limit in
    subst (λ (d : ℕ). LooksAndDecides g.C.Store c.args.tables.now c.certificate_of.new.tables (λ records. refusal records c.args.now (Request c.args.serial c.args.word)) (IsAcceptance c.args.now (Request c.args.serial c.args.word))
    (Ok (RequestEntered row.id d, change.Request row))) (sym due)
    (decided_for _
    (so (and_so c.in_ok-head.ensures c.in_ok-certificate.ensures)
    (λ records sound it. request_due records c.args.now c.in_ok-head.head c.args.serial c.args.word c.in_ok-certificate.certificate c.in_ok-certificate.revocation row
    it.0 it.1.0 it.1.1 c.in_ok-row.ensures)))
