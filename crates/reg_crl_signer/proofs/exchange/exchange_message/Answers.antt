use Rattle.std.proofs.Common.{inl, inr, refl}
use Rattle.reg_crl_signer.specs.Exchange.{not_read, not_sent, not_shut, too_long}
use Rattle.reg_crl_signer.proofs.exchange.exchange_message.Goals as goal

pub returns-in-Err-clause-failed : goal.returns-in-Err-clause-failed
returns-in-Err-clause-failed g c = not_sent c.in-Err.ensures.fails

pub returns-in-Err-finish-clause-failed : goal.returns-in-Err-finish-clause-failed
returns-in-Err-finish-clause-failed g c = not_shut c.write_whole.new.writer c.in-Ok.ensures.ok c.in-Err-finish.ensures.err

pub returns-in-Err-fill_to_end-clause-failed : goal.returns-in-Err-fill_to_end-clause-failed
returns-in-Err-fill_to_end-clause-failed g c =
    elim c.in-Err-fill_to_end.ensures.fails [
      | inl failed ↦ not_read failed
      | inr filled ↦
          too_long c.write_whole.new.writer c.finish.new.self c.fill_to_end.new.reader c.fill_to_end.new.buf c.in-Ok.ensures.ok
          c.in-Ok-finish.ensures.ok filled refl
    ]
