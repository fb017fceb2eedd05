use Rattle.std.proofs.Common.{◌∙◌, false, Err, ap, inl, inr, refl}
use Rattle.reg_core.specs.declared.refusal.Fault.TheVariants.{Memory}
use Rattle.reg_office_api.proofs.PublicLaws.{follows, stays}
use Rattle.reg_lines.specs.Accepted.{done_of}
use Rattle.reg_lines.specs.ByCalls.{Lines}
use Rattle.reg_lines.proofs.ScriptsAndImports.{lines_end}
use Rattle.reg_lines.proofs.script.run_script_in_batches.Goals as goal

pub returns-in-Ok : goal.returns-in-Ok
returns-in-Ok g c =
    follows g.O.Office.is_clean g.O.Office.stands _ _
    (λ signers before ahead ends.
    let (after, run, how) = ends in (
      after,
      (
        c.run_batches.result,
        lines_end (Lines g.O.Office.signs signers) (λ now. ⊥) g.R.Read.remaining g.W.Write.contents g.R.Source.failed g.W.Sink.failed before after
            c.args.reader.now c.run_batches.new.reader c.args.writer.now c.run_batches.new.writer ⊥ false false c.run_batches.result run,
        c.done.ensures,
      ),
      elim how [ inl cut ↦ inl (c.done.ensures ∙ ap done_of cut) | inr same ↦ inr same ],
    )) c.args.office.now c.run_batches.new.office c.run_batches.ensures

pub returns-in-Err : goal.returns-in-Err
returns-in-Err g c =
    follows g.O.Office.is_clean g.O.Office.stands _ _
    (λ signers before after same. (after, (Err Memory, (same, refl, refl), refl), inr refl)) c.args.office.now c.args.office.now
    (stays g.O.Office.is_clean g.O.Office.stands c.args.office.now c.args.office.now refl)
