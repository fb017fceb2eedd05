use Rattle.std.proofs.Common.{◌∙◌, [], refl}
use Rattle.std.proofs.Math.Nat.{zero-add}
use Rattle.reg_desk_jobs.proofs.PrintedTexts.{ended_early, memory_answer}
use Rattle.reg_desk_jobs.proofs.serve_job.run_event_loop.Goals as goal

pub returns-in-Err : goal.returns-in-Err
returns-in-Err g c = ([], [], refl, memory_answer c.args.port c.args.requests _ _ _ c.in-Err.why c.in-Err.ensures)

pub returns-then-answered-requests : goal.returns-then-answered-requests
returns-then-answered-requests g c = (
  c.serve_all.ensures.exchanged.inputs,
  c.serve_all.ensures.exchanged.outcomes,
  c.serve_all.ensures.exchanged.run,
  (
    λ same. c.if-answered-requests.true (c.serve_all.ensures.exchanged.counted ∙ zero-add _ ∙ same),
    ended_early c.serve_all.result c.serve_all.ensures.all c.serve_all.ensures.early c.if-answered-requests.true,
    c.in-Ok.ensures,
  ),
)
