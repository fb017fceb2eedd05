use Rattle.std.proofs.Common.{◌∙◌, ◌∷◌, [], ap, decimal}
use Rattle.reg_desk_jobs.proofs.PrintedTexts.{says_then}
use Rattle.reg_desk_jobs.proofs.serve_job.print_number.Goals as goal

pub returns-in-Ok : goal.returns-in-Ok
returns-in-Ok g c =
    let digits = c.as_bytes.ensures.text ∙ c.of-digits.ensures.text ∙ ap decimal c.from.ensures in
    says_then (decimal c.args.number) (10 ∷ []) _ _ _ c.print_text-in-Ok.result (rw digits at c.in-Ok.ensures.prints) c.print_text-in-Ok.ensures.prints
