use Rattle.std.proofs.Common.{◌≡◌, [], ◌∷◌, arith, rules}
use Rattle.sqlite_value.specs.Order.{column}
use Rattle.reg_store_tables.specs.Rows.{number}
use Rattle.reg_audit.proofs.Gathered.{on_ok}
use Rattle.reg_audit.proofs.OfficeRows.{one_there, counts_hold}
use Rattle.reg_audit.proofs.complete.check_counts.Goals as goal

pub returns-clause-hold : goal.returns-clause-hold
returns-clause-hold c db are reads ids =
    let only : c.args.rowids.now ≡ c.rowid-item.result ∷ [] = one_there c.args.rowids.now c.rowid-item.result (omega (arith, c.in-len1.len_at_least, c.in-len1.len_below)) c.rowid-item.is in
    let one : column c.rowid-item.result 0 ≡ number 1 = search rules in
    on_ok c.check_are_of_some_record.result c.check_are_of_some_record.ensures.stand (λ stand. counts_hold db are c.args.rows.now c.args.rowids.now reads ids c.rowid-item.result only one stand)
