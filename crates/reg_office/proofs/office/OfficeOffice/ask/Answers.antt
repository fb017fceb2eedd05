use Rattle.std.proofs.Common.{◌<◌, refl, rules}
use Rattle.std.specs.Prelude.{Err}
use Rattle.reg_core.specs.Calendar.{clock_end}
use Rattle.reg_core.specs.declared.refusal.Fault.TheVariants.{Refused}
use Rattle.reg_core.specs.declared.refusal.Refusal.TheVariants.{ClockEnd}
use Rattle.reg_office_api.specs.Answered.{IsAnswered}
use Rattle.reg_office_api.specs.CallSteps.{Asks}
use Rattle.reg_office_reads.proofs.PublicLaws.{is_answered}
use Rattle.reg_store_tables.proofs.PublicLaws.{looked_none}
use Rattle.reg_office.proofs.Leading.{office_leads, office_looks, table_fault}
use Rattle.reg_office_reads.proofs.PublicLaws.{lent}
use Rattle.reg_office.proofs.office.OfficeOffice.ask.Goals as goal

-- What is answered at the clock's end comes first, so that another answer is refused by it.
pub returns-clause-looks : goal.returns-clause-looks
returns-clause-looks g c = record {
  looked = looked_none;
  same = refl;
  found = λ records stands clean. let refused : IsAnswered records c.args.now c.args.query.now (Err (Refused ClockEnd)) = search rules in refused;
}

pub returns-clause-asks : goal.returns-clause-asks
returns-clause-asks g c =
    office_leads g.C.Store g.S.Signer _ _ _ (λ signers before after. Asks before c.args.now c.args.query.now (Err (Refused ClockEnd)) after)
    (returns-clause-looks g c) (λ records answered. (answered, refl))

pub returns-then-lt-clause-looks : goal.returns-then-lt-clause-looks
returns-then-lt-clause-looks g c =
    let below : c.args.now < clock_end = search rules in
    let decides = c.answer.ensures in
    office_looks g.C.Store g.S.Signer _ _ _ _ (lent c.deref_mut.ensures.shows decides.looks) refl
    (λ records sound reported. is_answered records c.args.now c.args.query.now _ below decides.faults reported)

pub returns-then-lt-clause-asks : goal.returns-then-lt-clause-asks
returns-then-lt-clause-asks g c =
    office_leads g.C.Store g.S.Signer _ _ _ (λ signers before after. Asks before c.args.now c.args.query.now c.answer.result after)
    (returns-then-lt-clause-looks g c) (λ records answered. (answered, refl))

pub returns-then-lt-clause-unsigned : goal.returns-then-lt-clause-unsigned
returns-then-lt-clause-unsigned g c = table_fault c.answer.result c.answer.ensures.faults

pub returns-clause-ended : goal.returns-clause-ended
returns-clause-ended g c ended = (refl, refl)
