use Rattle.std.proofs.Common.{◌∙◌, ap, Some, None}
use Rattle.std.proofs.lemmas.Result.{IfOk-weaker}
use Rattle.reg_desk_cli.specs.Jobs.{job_found}
use Rattle.reg_desk_cli.proofs.DeskLemmas.{behind}
use Rattle.reg_desk_cli.proofs.reading_words.read_job.Goals as goal

pub returns-in-Some : goal.returns-in-Some
returns-in-Some c =
    let same = behind (Some (c.in-Some.name, c.in-Some.given)) c.args.matches.now c.in-Some.ensures.name c.in-Some.ensures.rows in
    IfOk-weaker c.read_command.result _ _ (λ job read. read ∙ ap job_found same) c.read_command.ensures

pub returns-in-None : goal.returns-in-None
returns-in-None c = ap job_found (behind None c.args.matches.now c.in-None.ensures.name c.in-None.ensures.rows)
