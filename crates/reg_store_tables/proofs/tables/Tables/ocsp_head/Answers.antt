use Rattle.std.proofs.Common.{◌∙◌, sym, arith, refl, rules}
use Rattle.reg_store_tables.proofs.FailingLemmas.{memory_alone, written_shows}
use Rattle.reg_store_tables.proofs.LookingUp.{by_rows, gives_none, unasked}
use Rattle.reg_store_tables.proofs.OfficeLemmas.{responding_text, responding_rows}
use Rattle.reg_store_tables.proofs.Taking.{same_row}
use Rattle.reg_store_tables.proofs.tables.Tables.ocsp_head.Goals as goal

pub returns-in_err-found-clause-finds : goal.returns-in_err-found-clause-finds
returns-in_err-found-clause-finds g c = rw (← c.self.view_is) (unasked _ _ (search rules) (c.in_err-found.ensures.reads responding_text.reading) refl (responding_text.asked tt))

pub returns-in_err-only-clause-finds : goal.returns-in_err-only-clause-finds
returns-in_err-only-clause-finds g c =
    rw (← c.self.view_is) (by_rows (c.in_ok-found.ensures.reads responding_text.reading) refl _ (λ records shows clean answers. gives_none _ _ c.from_residual-in_err-only.ensures.0)
    (λ records may written clean answers.
    let rows = responding_rows _ records ((written_shows g.S.Store _ records written).tables clean answers.is_open) _ answers.reads in
    absurd (c.in_err-only.ensures.others _ (c.deref.ensures.value ∙ rows))))

pub returns-clause-finds : goal.returns-clause-finds
returns-clause-finds g c =
    rw (← c.self.view_is) (by_rows (c.in_ok-found.ensures.reads responding_text.reading) refl c.ocsp_head_in.result
    (λ records shows clean answers.
    let row = same_row (sym c.deref.ensures.value ∙ c.in_ok-only.ensures.found) (responding_rows _ records (shows.tables clean answers.is_open) _ answers.reads) in
    c.ocsp_head_in.ensures.read records.last records.policy.ocsp_life records.issuer row)
    (λ records may written clean answers.
    let rows = responding_rows _ records ((written_shows g.S.Store _ records written).tables clean answers.is_open) _ answers.reads in
    let row = same_row (sym c.deref.ensures.value ∙ c.in_ok-only.ensures.found) rows in
    memory_alone ⊥ c.ocsp_head_in.result
    (c.ocsp_head_in.ensures.has records.last records.policy.ocsp_life records.issuer row written.sound.before_clock_end written.issuer (let life = written.policy.ocsp_life.1 in omega arith))))
