use Rattle.std.proofs.Common.{get_or, sym, subst}
use Rattle.reg_audit.specs.ReadQueries.{IsReadOf, IsReadFrom}
use Rattle.reg_audit.proofs.Whole.{read_at, there_are}
use Rattle.reg_audit.proofs.read_rows.rows_at.Goals as goal

pub returns-in-Some : goal.returns-in-Some
returns-in-Some c = record {
  read = λ records columns whats other are within.
      let found = c.in-Some.ensures.lookup in
      subst (λ rows. IsReadOf records columns (get_or whats c.args.query_index other) rows) (sym c.as_slice.ensures.value)
      (read_at (IsReadOf records columns) (λ rows. rows.items) whats c.args.query_index other c.args.all.now c.in-Some.rows.now are within found.3.0 found.1);
  from = λ db whats other are within.
      let found = c.in-Some.ensures.lookup in
      subst (λ rows. IsReadFrom db (get_or whats c.args.query_index other) rows) (sym c.as_slice.ensures.value)
      (read_at (IsReadFrom db) (λ rows. rows.items) whats c.args.query_index other c.args.all.now c.in-Some.rows.now are within found.3.0 found.1);
}

pub returns-in-None : goal.returns-in-None
returns-in-None c = record {
  read = λ records columns whats other are within. absurd (there_are (IsReadOf records columns) (λ rows. rows.items) whats c.args.query_index c.args.all.now are within c.in-None.ensures.lookup.3);
  from = λ db whats other are within. absurd (there_are (IsReadFrom db) (λ rows. rows.items) whats c.args.query_index c.args.all.now are within c.in-None.ensures.lookup.3);
}
