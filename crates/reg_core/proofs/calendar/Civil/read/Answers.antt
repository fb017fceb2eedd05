use Rattle.std.proofs.Common.{arith}
use Rattle.reg_core.proofs.DateTexts.{spelled}
use Rattle.reg_core.proofs.calendar.Civil.read.Goals as goal

pub returns : goal.returns
returns c =
    spelled c.args.text.now _ _ _ _ _ _ _ (omega arith) c.if-ne.ensures c.in_ok-number.ensures c.in_ok-number-2.ensures c.in_ok-number-3.ensures c.in_ok-number-4.ensures c.in_ok-number-5.ensures c.in_ok-number-6.ensures c.in_ok-number-7.ensures
