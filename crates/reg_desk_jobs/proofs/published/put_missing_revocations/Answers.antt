use Rattle.std.proofs.Common.{◌≤◌, ◌++◌, ◌∷◌, [], Err, length, sym, ◌∙◌, arith}
use Rattle.std.proofs.lemmas.Bool.{eqb-false}
use Rattle.reg_desk_cli.specs.declared.failure.Failure.TheVariants.{NotACrl}
use Rattle.reg_desk_jobs.specs.Published.{AppendsMissing}
use Rattle.reg_desk_jobs.proofs.Comparing.{HasMissing, entries_more, looked_on, no_entries}
use Rattle.reg_desk_service.proofs.PublicLaws.{looks_as}
use Rattle.reg_desk_jobs.proofs.published.put_missing_revocations.Goals as goal

pub returns-in_default : goal.returns-in_default
returns-in_default g c =
    let (done, so_far, look) = c.loop-rest.invariant in
    let some : 1 ≤ length c.loop-rest.rest.now = let ne = eqb-false (length c.loop-rest.rest.now) 0 (sym c.is_empty.ensures ∙ c.loop-rest-test.true) in omega (arith, ne) in
    looks_as g.O.Office.is_clean g.O.Office.stands (HasMissing c.args.last c.args.lines.now.items c.loop-rest.lines.items done)
    (λ records. AppendsMissing records c.args.last c.args.entries.now c.args.lines.now.items c.loop-rest.lines.items (Err NotACrl))
    (λ records it. no_entries c.args.entries.now done c.loop-rest.rest.now so_far some c.in_default.ensures.exact) _ _ look

pub loop-rest-preserved : goal.loop-rest-preserved
loop-rest-preserved g c =
    let (done, so_far, look) = c.loop-rest.invariant in (
      done ++ c.in-Some.entry.0 ∷ [],
      entries_more c.args.entries.now done c.loop-rest.rest.now c.in-Some.entry.1.now c.in-Some.entry.0 so_far c.in-Some.ensures.exact,
      looked_on g.O.Office.is_clean g.O.Office.stands c.args.last c.args.lines.now.items _ _ _ c.loop-rest.lines.items
          c.put_missing_revocation.new.lines.items done c.in-Some.entry.0 look c.in_ok-put_missing_revocation.ensures,
    )
