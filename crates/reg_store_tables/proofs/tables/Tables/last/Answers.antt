use Rattle.std.proofs.Common.{refl}
use Rattle.reg_store_tables.proofs.FailingLemmas.{written_shows}
use Rattle.reg_store_tables.proofs.LookingUp.{by_statement}
use Rattle.reg_store_tables.proofs.OfficeLemmas.{last_text, last_rows}
use Rattle.reg_store_tables.proofs.tables.Tables.last.Goals as goal

pub returns : goal.returns
returns g c =
    rw (← c.self.view_is) (by_statement (c.look_up_one.ensures.reads last_text.reading) refl (last_text.asked tt) (λ records. records.last)
    (λ records written clean rows answers.
    ((tt, written.sound.before_clock_end), last_rows _ records ((written_shows g.S.Store _ records written).tables clean answers.is_open) rows answers.reads))
    (λ records shows clean rows answers. (tt, last_rows _ records (shows.tables clean answers.is_open) rows answers.reads)))
