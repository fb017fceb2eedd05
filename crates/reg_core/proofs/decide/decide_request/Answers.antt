-- Each answer first names what the certificate's and the revocation's checks told.
use Rattle.std.proofs.Common.{Some, rules}
use Rattle.std.specs.Prelude.{⊤}
use Rattle.reg_core.specs.Checks.{first_refusal, live_checks}
use Rattle.reg_core.specs.Decisions.{IsDecidedBy}
use Rattle.reg_core.proofs.decide.decide_request.Goals as goal

pub returns-in_err-check_live : goal.returns-in_err-check_live
returns-in_err-check_live c =
    let live : IsDecidedBy (first_refusal (live_checks c.args.head.now.now (Some c.in-Some.certificate) c.args.revocation)) (λ _. ⊤) c.check_live.result = c.check_live.ensures in
    search rules

pub returns-in_err-id : goal.returns-in_err-id
returns-in_err-id c =
    let live : IsDecidedBy (first_refusal (live_checks c.args.head.now.now (Some c.in-Some.certificate) c.args.revocation)) (λ _. ⊤) c.check_live.result = c.check_live.ensures in
    search rules

pub returns : goal.returns
returns c =
    let live : IsDecidedBy (first_refusal (live_checks c.args.head.now.now (Some c.in-Some.certificate) c.args.revocation)) (λ _. ⊤) c.check_live.result = c.check_live.ensures in
    search rules
