use Rattle.std.proofs.Common.{◌≡◌, ℕ, List, Some, sym, ap, ◌∙◌, arith, refl, rules, length}
use Rattle.std.specs.Prelude.{option_map}
use Rattle.sqlite_value.specs.Order.{Row, column}
use Rattle.sqlite_value.specs.declared.value.Value.TheVariants.{Blob}
use Rattle.sqlite.specs.declared.error.Error.TheVariants.{SqliteFailure}
use Rattle.sqlite.specs.declared.error.ErrorCode.TheVariants.{OutOfMemory}
use Rattle.reg_core.specs.Records.{Crl}
use Rattle.reg_store_tables.specs.Faults.{database_fault_of}
use Rattle.reg_store_tables.specs.Rows.{number}
use Rattle.reg_store_tables.specs.declared.fault.DatabaseFault.TheVariants.{Store}
use Rattle.reg_store_tables.proofs.CrlLemmas.{bytes_text, bytes_row, same_blob, bytes_few}
use Rattle.reg_store_tables.proofs.FailingLemmas.{none_made, written_shows}
use Rattle.reg_store_tables.proofs.Greatest.{none_above_range}
use Rattle.reg_store_tables.proofs.LookingUp.{by_rows, finds_so, gives_none, not_store, unasked}
use Rattle.reg_store_tables.proofs.crls.crl.Goals as goal

pub returns-in_default : goal.returns-in_default
returns-in_default g c =
    finds_so c.none_above_range.ensures (λ records may. none_made _ c.sql_key.result c.in_default.not-Some c.sql_key.ensures.value)
    (λ records shows clean found it.
    ap (option_map (λ bytes. bytes.items)) it.0
    ∙ ap (option_map (λ (crl : Crl). crl.bytes)) (none_above_range (λ (crl : Crl). crl.number) 1 c.args.number records.crls (shows.tables clean it.1).rows.crls_numbered (let past = it.2 in omega arith)))

pub returns-in_err-found : goal.returns-in_err-found
returns-in_err-found g c =
    let value : c.in-Some.value ≡ number c.args.number = (rw c.in-Some.is at c.sql_key.ensures.value).1 in
    unasked _ _ (search rules) (c.in_err-found.ensures.reads bytes_text.reading) (rw (c.params-to_sql.ensures, value) refl) (bytes_text.asked c.args.number)

pub returns-in_err-at_most_one : goal.returns-in_err-at_most_one
returns-in_err-at_most_one g c =
    let value : c.in-Some.value ≡ number c.args.number = (rw c.in-Some.is at c.sql_key.ensures.value).1 in
    by_rows (c.in_ok-found.ensures.reads bytes_text.reading) (rw (c.params-to_sql.ensures, value) refl) _ (λ records shows clean answers. gives_none _ _ c.from_residual-in_err-at_most_one.ensures.0)
    (λ records may written clean answers.
    let few = bytes_few _ records ((written_shows g.S.Store _ records written).tables clean answers.is_open) c.args.number _ answers.reads in
    let sizes = ap length c.deref.ensures.value in
    let more = c.in_err-at_most_one.ensures.more in
    absurd (omega arith))

pub returns-in-None : goal.returns-in-None
returns-in-None g c =
    let value : c.in-Some.value ≡ number c.args.number = (rw c.in-Some.is at c.sql_key.ensures.value).1 in
    by_rows (c.in_ok-found.ensures.reads bytes_text.reading) (rw (c.params-to_sql.ensures, value) refl) _
    (λ records shows clean answers.
    ap (option_map (λ (crl : Crl). crl.bytes)) ((bytes_row _ records (shows.tables clean answers.is_open) c.args.number _ answers.reads).none (sym c.deref.ensures.value ∙ (rw c.in-None.is at c.in_ok-at_most_one.ensures.found))))
    (λ records may written clean answers. tt)

pub returns : goal.returns
returns g c =
    let value : c.in-Some.value ≡ number c.args.number = (rw c.in-Some.is at c.sql_key.ensures.value).1 in
    by_rows (c.in_ok-found.ensures.reads bytes_text.reading) (rw (c.params-to_sql.ensures, value) refl) _
    (λ records shows clean answers.
    let one = (bytes_row _ records (shows.tables clean answers.is_open) c.args.number _ answers.reads).one c.in-Some-2.row.now (sym c.deref.ensures.value ∙ (rw c.in-Some-2.is at c.in_ok-at_most_one.ensures.found)) in
    let same = same_blob (column c.in-Some-2.row.now 0) c.in_ok-get-in-Some-2.field-0.items one.it.bytes c.in_ok-get-in-Some-2.ensures.ok.1 (ap (λ (r : Row). column r 0) one.shown) in
    ap (λ (bytes : List ℕ). Some bytes) same ∙ ap (option_map (λ (crl : Crl). crl.bytes)) one.first)
    (λ records may written clean answers. tt)

-- out of memory is no failure of the store
no_store : database_fault_of (SqliteFailure OutOfMemory) ≡ Store → ⊥
no_store clash = cc

pub returns-in_err-get-in-Some-2 : goal.returns-in_err-get-in-Some-2
returns-in_err-get-in-Some-2 g c =
    let value : c.in-Some.value ≡ number c.args.number = (rw c.in-Some.is at c.sql_key.ensures.value).1 in
    by_rows (c.in_ok-found.ensures.reads bytes_text.reading) (rw (c.params-to_sql.ensures, value) refl) _ (λ records shows clean answers. gives_none _ _ c.from_residual-in_err-get-in-Some-2.ensures.0)
    (λ records may written clean answers.
    let one = (bytes_row _ records ((written_shows g.S.Store _ records written).tables clean answers.is_open) c.args.number _ answers.reads).one c.in-Some-2.row.now (sym c.deref.ensures.value ∙ (rw c.in-Some-2.is at c.in_ok-at_most_one.ensures.found)) in
    let blob : column c.in-Some-2.row.now 0 ≡ Blob one.it.bytes = ap (λ (r : Row). column r 0) one.shown in
    let size : length c.in-Some-2.row.now ≡ 1 = ap length one.shown in
    let never : database_fault_of c.in_err-get-in-Some-2.field-0.0 ≡ Store → ⊥ = λ store. absurd (c.in_err-get-in-Some-2.ensures.kind (λ memory. no_store (sym (ap database_fault_of memory) ∙ store)) (omega arith) (one.it.bytes, blob)) in
    not_store _ _ (search rules) never)
