use Rattle.std.proofs.Common.{refl, rules}
use Rattle.reg_store_tables.proofs.FailingLemmas.{memory_alone, written_shows}
use Rattle.reg_store_tables.proofs.LookingUp.{by_rows, unasked}
use Rattle.reg_store_tables.proofs.OfficeLemmas.{issuer_text, issuer_rows}
use Rattle.reg_store_tables.proofs.office.issuer.Goals as goal

pub returns-in_err-found : goal.returns-in_err-found
returns-in_err-found g c = unasked _ _ (search rules) (c.in_err-found.ensures.reads issuer_text.reading) refl (issuer_text.asked tt)

pub returns : goal.returns
returns g c =
    by_rows (c.in_ok-found.ensures.reads issuer_text.reading) refl c.issuer_of.result
    (λ records shows clean answers. c.issuer_of.ensures.read records.issuer (issuer_rows _ records (shows.tables clean answers.is_open) _ answers.reads))
    (λ records may written clean answers.
    memory_alone ⊥ c.issuer_of.result (c.issuer_of.ensures.has records.issuer written.issuer (issuer_rows _ records ((written_shows g.S.Store _ records written).tables clean answers.is_open) _ answers.reads)))
