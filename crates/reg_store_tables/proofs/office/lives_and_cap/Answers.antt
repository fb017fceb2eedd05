use Rattle.std.proofs.Common.{ℕ, ap, refl}
use Rattle.reg_store_tables.proofs.FailingLemmas.{written_shows}
use Rattle.reg_store_tables.proofs.LookingUp.{by_statement, finds_so}
use Rattle.reg_store_tables.proofs.OfficeLemmas.{terms_text, terms_rows}
use Rattle.reg_store_tables.proofs.office.lives_and_cap.Goals as goal

pub returns : goal.returns
returns g c =
    finds_so (by_statement (c.look_up_one.ensures.reads terms_text.reading) refl (terms_text.asked tt) (λ records. (records.policy.crl_life, records.policy.ocsp_life, records.policy.cap))
    (λ records written clean rows answers. ((tt, tt), terms_rows _ records ((written_shows g.S.Store _ records written).tables clean answers.is_open) rows answers.reads))
    (λ records shows clean rows answers. (tt, terms_rows _ records (shows.tables clean answers.is_open) rows answers.reads)))
    (λ records may. may)
    (λ records shows clean found same. (ap (λ (it : ℕ × ℕ × ℕ). it.0) same, ap (λ (it : ℕ × ℕ × ℕ). it.1) same, ap (λ (it : ℕ × ℕ × ℕ). it.2) same))
