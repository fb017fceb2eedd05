use Rattle.std.proofs.Common.{inl, inr, refl}
use Rattle.reg_lines.specs.Meaning.{means_command, means_query, is_ocsp_line, decoded_bytes}
use Rattle.reg_lines.proofs.OfficeRuns.{line_leads}
use Rattle.reg_lines.proofs.run.run_line.Goals as goal

pub returns-in-Some-Command-clause-by_calls : goal.returns-in-Some-Command-clause-by_calls
returns-in-Some-Command-clause-by_calls g c =
    let ran = c.run_one-outcome in
    inl (means_command c.in-Some-Command.command, rw c.in-Some-Command.field-0-is at c.in-Some-Command.ensures.found, (ran.result, (ran.ensures.runs, ran.ensures.counts), refl))

pub returns-in-Some-Command-clause-leads : goal.returns-in-Some-Command-clause-leads
returns-in-Some-Command-clause-leads g c = line_leads g.O.Office _ _ c.args.now c.args.line.now _ (returns-in-Some-Command-clause-by_calls g c)

pub returns-in-Some-Query-clause-by_calls : goal.returns-in-Some-Query-clause-by_calls
returns-in-Some-Query-clause-by_calls g c =
    let asked = c.ask-outcome in
    inl (
      means_query c.in-Some-Query.query,
      rw c.in-Some-Query.field-0-is at c.in-Some-Query.ensures.found,
      (asked.result, (asked.ensures.asks, (λ failed. absurd (asked.ensures.unsigned failed))), refl),
    )

pub returns-in-Some-Query-clause-leads : goal.returns-in-Some-Query-clause-leads
returns-in-Some-Query-clause-leads g c = line_leads g.O.Office _ _ c.args.now c.args.line.now _ (returns-in-Some-Query-clause-by_calls g c)

pub returns-in-Some-Ocsp-clause-by_calls : goal.returns-in-Some-Ocsp-clause-by_calls
returns-in-Some-Ocsp-clause-by_calls g c =
    inl (is_ocsp_line (decoded_bytes c.in-Some-Ocsp.digits.now), rw c.in-Some-Ocsp.field-0-is at c.in-Some-Ocsp.ensures.found, c.run_ocsp.ensures)

pub returns-in-Some-Ocsp-clause-leads : goal.returns-in-Some-Ocsp-clause-leads
returns-in-Some-Ocsp-clause-leads g c = line_leads g.O.Office _ _ c.args.now c.args.line.now _ (returns-in-Some-Ocsp-clause-by_calls g c)

pub returns-in-None-clause-leads : goal.returns-in-None-clause-leads
returns-in-None-clause-leads g c =
    line_leads g.O.Office _ _ c.args.now c.args.line.now _ (inr (c.in-None.ensures.none, c.unreadable.ensures, refl))
