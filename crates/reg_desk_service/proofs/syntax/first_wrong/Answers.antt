use Rattle.std.proofs.Common.{sym}
use Rattle.reg_desk_service.proofs.WrongFields.{goes_on}
use Rattle.reg_desk_service.proofs.syntax.first_wrong.Goals as goal

pub loop-field-preserved : goal.loop-field-preserved
loop-field-preserved c =
    goes_on c.args.expected.now _ _ _ _ _ _ c.loop-field-test.true c.in-Some.ensures (sym c.if-not-is_well_formed.ensures) c.loop-field.invariant
