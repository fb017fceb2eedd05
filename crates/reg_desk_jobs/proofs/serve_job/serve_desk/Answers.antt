use Rattle.std.proofs.Common.{◌≡◌, ℕ, [], ap, inl, inr, refl}
use Rattle.std.specs.Prelude.{is_some}
use Rattle.reg_office_api.proofs.PublicLaws.{follows, stays}
use Rattle.reg_core.specs.Records.{Records}
use Rattle.reg_desk_service.specs.Admission.{first_admission}
use Rattle.reg_desk_service.specs.Confirmations.{AfterFirstLine, after_outcome}
use Rattle.reg_desk_service.specs.Signers.{answer_socket}
use Rattle.reg_desk_jobs.proofs.DeskRuns.{desk_moves}
use Rattle.reg_desk_jobs.proofs.PrintedTexts.{unbound}
use Rattle.reg_desk_jobs.proofs.serve_job.serve_desk.Goals as goal

pub returns-in-Err : goal.returns-in-Err
returns-in-Err g c = (
  [],
  [],
  follows g.M.Office.Office.is_clean g.M.Office.Office.stands _ _
      (λ signers before after same. (first_admission, ap (λ (records : Records). (records, first_admission)) same)) _ _
      (stays g.M.Office.Office.is_clean g.M.Office.Office.stands _ _ refl),
  inl (unbound c.in-Err.why c.in-Err.ensures.err, refl),
)

pub returns : goal.returns
returns g c =
    let ran = c.run_event_loop-ending.ensures in
    let (inputs, outcomes, moved, served) =
    desk_moves
    (λ desk. g.M.Office.Office.is_clean desk.office)
    (λ signers desk records. g.M.Office.Office.stands signers desk.office records)
    (λ desk. desk.is_open)
    (λ desk. desk.admission)
    g.M.Office.Office.signs
    g.M.Machine.signer_answered
    (answer_socket c.args.signer.now c.args.responder.now)
    g.M.Machine.clock_reached
    (λ desk request outcome after. after.confirmation ≡ after_outcome request outcome desk.confirmation)
    (λ desk came after. (now : ℕ) × AfterFirstLine came now desk.confirmation after.confirmation)
    (λ desk after. after.confirmation ≡ desk.confirmation)
    (is_some c.args.control_path)
    _
    c.run_event_loop-ending.new.handler
    ran.0
    ran.1
    c.is_some.ensures
    c.new-admission.ensures
    ran.2
    _
    _
    _
    _
    _
    c.run_event_loop-ending.result
    ran.3 in
    (inputs, outcomes, moved, inr (c.in-Ok.ensures.ok, served))
