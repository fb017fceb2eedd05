-- The steps that turn letters, marks and the last moment.
use Rattle.std.proofs.Common.{◌≡◌, ℕ, pos, Bool, true, false, cond, ◌&&◌, List, [], ◌∷◌, map, length, filter, slice_get, codes, Option, Some, None, is_none, refl, sym, ap, ap₂, subst, ◌∙◌, arith}
use Rattle.std.specs.Prelude.{nat_lt, ◌==◌}
use Rattle.std.specs.List.{AllByRecursion}
use Rattle.sqlite_value.specs.declared.value.Value.TheVariants.{Null, Int, Text, Blob}
use Rattle.sqlite_value.specs.declared.keys.Collation.TheVariants.{Binary}
use Rattle.sqlite_value.specs.declared.value.ValueRef.{ValueRef}
use Rattle.sqlite_value.specs.declared.value.ValueRef.TheVariants as lent
use Rattle.sqlite_value.specs.Order.{Row}
use Rattle.sqlite_schema.specs.declared.schema.Table.{Table}
use Rattle.sqlite_value.proofs.OrderLemmas.{value_cmp-Null, value_cmp-apart}
use Rattle.std.specs.Ordering.{is_eq}
use Rattle.sqlite_trees.specs.Tree.{IsTable}
use Rattle.sqlite_sql.specs.Term.{Term, lit, col, op2}
use Rattle.sqlite_sql.specs.Program.{overlay}
use Rattle.sqlite_sql.specs.Ops.{binary, is_true, from_truth}
use Rattle.sqlite_sql.specs.declared.ops.BinaryOp.TheVariants.{Is}
use Rattle.sqlite_sql.specs.declared.ops.CompareOp.TheVariants.{Eq}
use Rattle.sqlite.specs.State.{State}
use Rattle.reg_core.specs.Changes.{touched, with_declined, declined_if}
use Rattle.reg_core.specs.Issuer.{Issuer}
use Rattle.reg_core.specs.Serial.{IsSerial, serial_bytes}
use Rattle.reg_core.specs.declared.rows.RequestRow.{RequestRow}
use Rattle.reg_store_tables.specs.Schema.{register_schema, standing, listed, office, request}
use Rattle.reg_store_tables.specs.Rows.{number, serial_value, counted_rows, stored_office, stored_request}
use Rattle.reg_store_tables.specs.DerivedRows.{Letter, revoked, expired, is_good_letter, ends_before, letter_text, Standing, Listed, stored_standing, stored_listed, number_or_null, office_days, turned}
use Rattle.reg_store_tables.specs.Shows.{HaveSerials}
use Rattle.reg_core_laws.proofs.PublicLaws.{numbered_map}
use Rattle.reg_store_tables.proofs.PublicLaws.{compares, and_true, eq_number, lt_number, eq_text, eq_serial, passes, all_of, is_g, IsWriting, updates, IsKeyed, behind_table, behind_keyed, behind_turned, behind_passing, stored_table, stored_keyed, stored_turned, made, cast_int, cast_null, turns_rows, turns_spares, Counted, both_after}
use Rattle.reg_store_tables.specs.Stays.{Ran}
use Rattle.reg_store_tables.specs.Steps.{Turns, TurnsCounted}
use Rattle.reg_store_changes.specs.ChangeSteps.{ReplacesIssuer}
use Rattle.reg_der.specs.Issuers.{with_issuer}
use Rattle.reg_store_changes.specs.DerivedEffects.{lettered, with_expired, count_ended_before, is_good_at, with_revoked_letter, good_at, has_passed, with_last_listing, with_last_listings}
use Rattle.reg_store_changes.specs.declared.sql.TheConstants.{EXPIRE_ENDED, MARK_REVOKED, SET_LAST, SET_NAME, SET_DECLINED, SET_LAST_LISTED}
use Rattle.reg_store_changes.proofs.Meaning.{equals, below, text, lends, sweep_means, mark_revoked_means, set_last_means, set_name_means, set_declined_means, mark_listed_means}
use Rattle.reg_store_tables.proofs.PublicLaws as Edits

-- a property that does not depend on what is turned stays
all_turned : {A : Type 0} (P : A → Type 0) (q : A → Bool) (g : A → A) → ((x : A) → P x → P (g x)) → (xs : List A) → AllByRecursion P xs → AllByRecursion P (map (turned q g) xs)
all_turned P q g keeps [] all = tt
all_turned {A} P q g keeps (x ∷ xs) all = (go (q x), all_turned P q g keeps xs all.1)
  where
    go : (b : Bool) → P (cond b (g x) x)
    go true = keeps x all.0
    go false = all.0

-- ---- tests

letter_test : (letter : Letter) → compares Eq (Text (letter_text letter)) (Text (codes "G")) ≡ is_good_letter letter
letter_test letter = eq_text (letter_text letter) (codes "G") ∙ is_g letter

sweep_test : (now id : ℕ) (row : Standing) → passes (equals (col 1 3) (text (codes "G")) ∷ below (col 1 2) (col 0 0) ∷ []) (number now ∷ []) (number id ∷ stored_standing row) ≡ ends_before now row
sweep_test now id row = ap₂ ◌&&◌ (letter_test row.letter) (ap₂ ◌&&◌ (lt_number row.not_after now) refl ∙ and_true (nat_lt row.not_after now))

mark_test : (serial id : ℕ) (row : Standing) → IsSerial serial → IsSerial row.serial
    → passes (equals (col 1 1) (col 0 0) ∷ equals (col 1 3) (text (codes "G")) ∷ []) (serial_value serial ∷ []) (number id ∷ stored_standing row) ≡ is_good_at serial row
mark_test serial id row in_range its = ap₂ ◌&&◌ (eq_serial row.serial serial its in_range) (ap₂ ◌&&◌ (letter_test row.letter) refl ∙ and_true (is_good_letter row.letter))

none_test : (last : Option ℕ) → is_true (binary (Is Binary) (number_or_null last) Null) ≡ is_none last
unfolding binary
none_test None = ap (λ o. is_true (from_truth (Some (is_eq o)))) (value_cmp-Null Null)
none_test (Some n) = ap (λ o. is_true (from_truth (Some (is_eq o)))) (value_cmp-apart (number n) Null (λ same. let bad : ⊥ = omega arith in bad))

passed_test : (n now id : ℕ) (row : Listed) → passes (op2 (Is Binary) (col 1 6) (lit Null) ∷ below (col 1 5) (col 0 1) ∷ []) (number n ∷ number now ∷ []) (number id ∷ stored_listed row) ≡ has_passed now row
passed_test n now id row = ap₂ ◌&&◌ (none_test row.last) (ap₂ ◌&&◌ (lt_number row.not_after now) refl ∙ and_true (nat_lt row.not_after now))

declined_test : (id : ℕ) (row : RequestRow) → passes (equals (col 1 0) (col 0 0) ∷ []) (number id ∷ []) (stored_request row) ≡ (row.id == id)
declined_test id row = ap₂ ◌&&◌ (eq_number row.id id) refl ∙ and_true (row.id == id)

-- ---- rows whose rowids count

module _ (sql : List ℕ) (params : Row) (old new : State) (count : ℕ) (ran : Ran sql params old new count) (schema : old.now.schema ≡ register_schema) where
  -- an UPDATE of them
  counted_turned : {A : Type 0} (stored : A → Row) (serial : A → ℕ) (xs : List A) (q : A → Bool) (g : A → A) (place : ℕ) (table : Table) (terms those : List Term) → slice_get register_schema.tables place ≡ Some table
      → IsWriting sql (updates place table.tree terms those) → overlay old.now.trees [] table.tree ≡ old.now.trees table.tree
      → ((id : ℕ) (x : A) → IsSerial (serial x) → passes terms params (number id ∷ stored x) ≡ q x)
      → ((id : ℕ) (x : A) → made table those params (number id ∷ stored x) ≡ number id ∷ stored (g x))
      → ((x : A) → IsSerial (serial x) → IsSerial (serial (g x)))
      → old.now.trees table.tree ≡ counted_rows (map stored xs) → HaveSerials serial xs
      → Edits.Turns register_schema table (passes terms params) (made table those params) old.now.trees new.now count × Counted stored serial (new.now.trees table.tree) (map (turned q g) xs) × (count ≡ length (filter q xs))
  counted_turned {A} stored serial xs q g place table terms those there means plain tests makes keeps was serials =
      let P : A → Type 0 = λ x. IsSerial (serial x) in
      let turns : Edits.Turns register_schema table (passes terms params) (made table those params) old.now.trees new.now count =
      turns_rows sql params old new count ran schema place table there terms those means plain (subst IsTable (sym was) (behind_table 1 (map stored xs))) (subst (AllByRecursion IsKeyed) (sym was) (behind_keyed 1 (map stored xs))) in (
        turns,
        (turns.rows ∙ ap (map (turned (passes terms params) (made table those params))) was ∙ behind_turned P stored (passes terms params) (made table those params) q g tests makes 1 xs serials, all_turned P q g keeps xs serials),
        turns.counted ∙ ap (λ l. length (filter (passes terms params) l)) was ∙ behind_passing P stored (passes terms params) (made table those params) q g tests 1 xs serials,
      )

module _ (old new : State) (count : ℕ) where
  -- an UPDATE of the letters
  letters_turned : (sql : List ℕ) (params : Row) → Ran sql params old new count → (terms those : List Term) (q : Standing → Bool) (g : Standing → Standing) → IsWriting sql (updates 7 12 terms those)
      → ((id : ℕ) (row : Standing) → IsSerial row.serial → passes terms params (number id ∷ stored_standing row) ≡ q row)
      → ((id : ℕ) (row : Standing) → made standing those params (number id ∷ stored_standing row) ≡ number id ∷ stored_standing (g row))
      → ((row : Standing) → IsSerial row.serial → IsSerial (g row).serial)
      → TurnsCounted (λ columns. record columns { letters = map (turned q g) columns.letters }) (λ columns. length (filter q columns.letters)) count old.now new.now
  unfolding register_schema
  letters_turned sql params ran terms those q g means tests makes keeps records columns both =
      let it = counted_turned sql params old new count ran both.shown.schema stored_standing (λ (row : Standing). row.serial) columns.letters q g 7 standing terms those refl means refl tests makes keeps both.kept.letters both.kept.letter_serials in (
        both_after 12 old.now new.now records records columns (record columns { letters = map (turned q g) columns.letters }) both it.0.keeps_schema (turns_spares standing _ _ old.now.trees new.now count it.0)
            (refl, refl, refl, refl, refl, refl, refl, refl) both.shown.rows.policy (it.1, refl, refl, refl),
        it.2,
      )

  -- the good certificates that ended have ended, and the UPDATE answers how many
  pub sweeps : (now : ℕ) {moment : ValueRef} → Ran EXPIRE_ENDED.now (lends moment ∷ []) old new count → moment ≡ lent.Int (pos now) → TurnsCounted (with_expired now) (count_ended_before now) count old.now new.now
  sweeps now given is =
      letters_turned EXPIRE_ENDED.now (number now ∷ []) (subst (λ params. Ran EXPIRE_ENDED.now params old new count) (λ i. lends (is i) ∷ []) given)
      (equals (col 1 3) (text (codes "G")) ∷ below (col 1 2) (col 0 0) ∷ []) (col 1 1 ∷ col 1 2 ∷ text (codes "X") ∷ []) (ends_before now) (lettered expired) sweep_means
      (λ id row in_range. sweep_test now id row) (λ id row. simp cast_int) (λ row in_range. in_range)

  -- the good certificate with the serial number is revoked, and the UPDATE answers how many they are
  pub marks_revoked : (serial : ℕ) {bytes : List ℕ} → Ran MARK_REVOKED.now (Blob bytes ∷ []) old new count → bytes ≡ serial_bytes serial → IsSerial serial
      → TurnsCounted (with_revoked_letter serial) (good_at serial) count old.now new.now
  marks_revoked serial given is in_range =
      letters_turned MARK_REVOKED.now (serial_value serial ∷ []) (subst (λ params. Ran MARK_REVOKED.now params old new count) (λ i. Blob (is i) ∷ []) given)
      (equals (col 1 1) (col 0 0) ∷ equals (col 1 3) (text (codes "G")) ∷ []) (col 1 1 ∷ col 1 2 ∷ text (codes "R") ∷ []) (is_good_at serial) (lettered revoked) mark_revoked_means
      (λ id row its. mark_test serial id row in_range its) (λ id row. simp cast_int) (λ row its. its)

  pub marks_listed : (n now : ℕ) {at moment : ValueRef} → Ran SET_LAST_LISTED.now (lends at ∷ lends moment ∷ []) old new count → at ≡ lent.Int (pos n) → moment ≡ lent.Int (pos now) → Turns (λ records. records) (with_last_listings n now) old.now new.now
  unfolding register_schema
  marks_listed n now given is0 is1 records columns both =
      let params = number n ∷ number now ∷ [] in
      let ran = subst (λ params. Ran SET_LAST_LISTED.now params old new count) (λ i. lends (is0 i) ∷ lends (is1 i) ∷ []) given in
      let it = counted_turned SET_LAST_LISTED.now params old new count ran both.shown.schema stored_listed (λ (row : Listed). row.serial) columns.listed (has_passed now) (with_last_listing n) 9 listed
      (op2 (Is Binary) (col 1 6) (lit Null) ∷ below (col 1 5) (col 0 1) ∷ []) (col 1 1 ∷ col 1 2 ∷ col 1 3 ∷ col 1 4 ∷ col 1 5 ∷ col 0 0 ∷ []) refl mark_listed_means refl
      (λ id row its. passed_test n now id row) (λ id row. simp cast_int) (λ row its. its) both.kept.listed both.kept.listed_serials in
      both_after 15 old.now new.now records records columns (with_last_listings n now columns) both it.0.keeps_schema (turns_spares listed _ _ old.now.trees new.now count it.0)
      (refl, refl, refl, refl, refl, refl, refl, refl) both.shown.rows.policy (refl, refl, it.1, refl)

  -- ---- a table of one row

  pub sets_last : (now : ℕ) {moment : ValueRef} → Ran SET_LAST.now (lends moment ∷ []) old new count → moment ≡ lent.Int (pos now) → Turns (λ records. touched records now) (λ columns. columns) old.now new.now
  unfolding register_schema
  sets_last now given is records columns both =
      let params = number now ∷ [] in
      let those = lit Null ∷ col 1 2 ∷ col 1 3 ∷ col 1 4 ∷ col 1 5 ∷ col 1 6 ∷ col 1 7 ∷ col 1 8 ∷ col 0 0 ∷ [] in
      let ran = subst (λ params. Ran SET_LAST.now params old new count) (λ i. lends (is i) ∷ []) given in
      let was = both.shown.rows.office in
      let turns : Edits.Turns register_schema office (passes [] params) (made office those params) old.now.trees new.now count =
      turns_rows SET_LAST.now params old new count ran both.shown.schema 0 office refl [] those set_last_means refl (subst IsTable (sym was) (tt, tt)) (subst (AllByRecursion IsKeyed) (sym was) (refl, tt)) in
      let rows : new.now.trees 0 ≡ stored_office both.shown.rows.days records.issuer records.policy now ∷ [] =
      turns.rows ∙ ap (map (turned (passes [] params) (made office those params))) was ∙ simp (cast_int, cast_null) in
      both_after 0 old.now new.now records (touched records now) columns columns both turns.keeps_schema (turns_spares office _ _ old.now.trees new.now count turns)
      ((both.shown.rows.days, rows), refl, refl, refl, refl, refl, refl, refl) both.shown.rows.policy (refl, refl, refl, ap office_days rows ∙ sym (ap office_days was) ∙ both.kept.days)

  pub sets_name : (issuer : Issuer) {name : List ℕ} → Ran SET_NAME.now (Blob name ∷ []) old new count → name ≡ issuer.name → ReplacesIssuer issuer old.now new.now
  unfolding register_schema
  sets_name issuer given is records columns key both =
      let params = Blob issuer.name ∷ [] in
      let ran = subst (λ params. Ran SET_NAME.now params old new count) (λ i. Blob (is i) ∷ []) given in
      let those = lit Null ∷ col 1 2 ∷ col 0 0 ∷ col 1 4 ∷ col 1 5 ∷ col 1 6 ∷ col 1 7 ∷ col 1 8 ∷ col 1 9 ∷ [] in
      let was = both.shown.rows.office in
      let turns : Edits.Turns register_schema office (passes [] params) (made office those params) old.now.trees new.now count =
      turns_rows SET_NAME.now params old new count ran both.shown.schema 0 office refl [] those set_name_means refl (subst IsTable (sym was) (tt, tt)) (subst (AllByRecursion IsKeyed) (sym was) (refl, tt)) in
      let named : new.now.trees 0 ≡ stored_office both.shown.rows.days (record { name = issuer.name; key = records.issuer.key }) records.policy records.last ∷ [] =
      turns.rows ∙ ap (map (turned (passes [] params) (made office those params))) was ∙ simp (cast_int, cast_null) in
      let rows : new.now.trees 0 ≡ stored_office both.shown.rows.days issuer records.policy records.last ∷ [] =
      named ∙ ap (λ k. stored_office both.shown.rows.days (record { name = issuer.name; key = k }) records.policy records.last ∷ []) key in
      both_after 0 old.now new.now records (with_issuer records issuer) columns columns both turns.keeps_schema (turns_spares office _ _ old.now.trees new.now count turns)
      ((both.shown.rows.days, rows), refl, refl, refl, refl, refl, refl, refl) both.shown.rows.policy (refl, refl, refl, ap office_days rows ∙ sym (ap office_days was) ∙ both.kept.days)

  -- ---- a request

  pub sets_declined : (id : ℕ) {at : ValueRef} → Ran SET_DECLINED.now (lends at ∷ []) old new count → at ≡ lent.Int (pos id) → Turns (λ records. with_declined records records.last id) (λ columns. columns) old.now new.now
  unfolding register_schema
  sets_declined id given is records columns both =
      let params = number id ∷ [] in
      let terms = equals (col 1 0) (col 0 0) ∷ [] in
      let those = lit Null ∷ col 1 2 ∷ col 1 3 ∷ col 1 4 ∷ lit (Int (pos 1)) ∷ [] in
      let q : RequestRow → Bool = λ row. row.id == id in
      let g : RequestRow → RequestRow = λ row. record row { declined = true } in
      let ran = subst (λ params. Ran SET_DECLINED.now params old new count) (λ i. lends (is i) ∷ []) given in
      let was = both.shown.rows.requests in
      let numbered = both.shown.rows.requests_numbered in
      let turns : Edits.Turns register_schema request (passes terms params) (made request those params) old.now.trees new.now count =
      turns_rows SET_DECLINED.now params old new count ran both.shown.schema 4 request refl terms those set_declined_means refl
      (subst IsTable (sym was) (stored_table stored_request (λ (row : RequestRow). row.id) (λ row. refl) 1 records.requests numbered))
      (subst (AllByRecursion IsKeyed) (sym was) (stored_keyed stored_request (λ (row : RequestRow). row.id) (λ row. refl) records.requests)) in
      let rows : new.now.trees 7 ≡ map stored_request (map (declined_if id) records.requests) =
      turns.rows ∙ ap (map (turned (passes terms params) (made request those params))) was
      ∙ stored_turned (λ (row : RequestRow). Unit {0}) stored_request (passes terms params) (made request those params) q g
      (λ row any. declined_test id row) (λ row. simp (cast_int, cast_null)) records.requests (all_of (λ (row : RequestRow). Unit {0}) (λ row. tt) records.requests) in
      let still = numbered_map (λ (row : RequestRow). row.id) (declined_if id) (λ row. elim (row.id == id) as (λ b. (cond b (g row) row).id ≡ row.id) [ true ↦ refl | false ↦ refl ]) 1 records.requests numbered in
      both_after 7 old.now new.now records (with_declined records records.last id) columns columns both turns.keeps_schema (turns_spares request _ _ old.now.trees new.now count turns)
      (refl, refl, refl, refl, (rows, still, all_turned (λ (row : RequestRow). IsSerial row.serial) q g (λ row its. its) records.requests both.shown.rows.request_serials), refl, refl, refl) both.shown.rows.policy (refl, refl, refl, refl)
