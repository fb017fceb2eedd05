use Rattle.std.proofs.Common.{◌++◌, ◌∷◌, [], codes, decimal}
use Rattle.reg_desk_jobs.proofs.PrintedTexts.{says_then, says_not}
use Rattle.reg_desk_jobs.proofs.serve_job.print_port.Goals as goal

pub returns-in-Ok : goal.returns-in-Ok
returns-in-Ok g c =
    says_then (codes "listening ") (decimal c.args.port ++ 10 ∷ []) _ _ _ c.print_number.result c.in-Ok.ensures.prints c.print_number.ensures

pub returns-in-Err : goal.returns-in-Err
returns-in-Err g c = says_not (codes "listening ") (decimal c.args.port ++ 10 ∷ []) _ _ _ c.in-Err.ensures.prints
