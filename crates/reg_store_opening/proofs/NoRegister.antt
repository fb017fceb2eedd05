-- Over tables with no view, what is told as no register says no version from 1 on but one up to the program's, and then no office of its, or it has other tables.
use Rattle.std.proofs.Common.{◌≡◌, ◌≢◌, ◌⊎◌, ◌≤◌, ℕ, false, List, [], Option, None, Some, Ok, sym, subst, ◌∙◌, inl, inr}
use Rattle.sqlite_value.specs.Order.{Row, column}
use Rattle.sqlite_resolve.specs.declared.compiled.Compiled.{Compiled}
use Rattle.sqlite.specs.Effect.{Database, Reads, RefusesToRead}
use Rattle.sqlite.specs.Listing.{understood, reads_listing, IsSourceOf}
use Rattle.reg_core.specs.Schedule.{Ascends, one_step}
use Rattle.reg_store_tables.specs.Rows.{number}
use Rattle.reg_store_tables.specs.declared.sql.TheConstants.{STEPS}
use Rattle.reg_store_migration.specs.Older.{version_number}
use Rattle.reg_store_migration.specs.declared.version.OlderVersion.{OlderVersion}
use Rattle.reg_store_opening.specs.declared.sql.TheConstants.{VERSION, OFFICE, OLDER_OFFICE}
use Rattle.reg_store_opening.specs.VersionAndOffice.{version_of, schema_of, IsRead, IsRefusedText, IsOne, HasOfficeValues, HasVersion, HasOfficeRow, HasOlderOffice, HasOfficeRowOf, HasNoOfficeRow, HasNoOlderOffice, IsNoRegister}
use Rattle.reg_store_opening.proofs.ScheduleRows.{one_version}
use Rattle.reg_store_opening.proofs.Resolved.{ok_one}
use Rattle.reg_store_opening.proofs.Understood.{ReadsTable}
use Rattle.reg_store_opening.proofs.TableTexts.{version_names, version_is, office_names, office_is, older_names, older_is, steps_names, steps_keys, steps_is}
use Rattle.reg_store_opening.proofs.SameRows.{not_both, same_row}
use Rattle.reg_store_opening.proofs.Determined.{same_steps}

-- ---- a text that reads one table

module _ (text : List ℕ) (names keys : List (List ℕ)) (db : Database) (means : (c : Compiled) → understood db.schema text ≡ Ok c → ReadsTable db.schema names keys c.command × (reads_listing db.schema text ≡ false)) where
  is_db : (c : Compiled) → understood db.schema text ≡ Ok c → (source : Database) → IsSourceOf (reads_listing db.schema text) db source → source ≡ db
  is_db c is source from = subst (λ b. IsSourceOf b db source) (means c is).1 from

  reads_of : (rows : List Row) (read : IsRead db text rows) → Reads read.compiled.command db [] rows
  reads_of rows read = subst (λ d. Reads read.compiled.command d [] rows) (is_db read.compiled read.is read.source read.from) read.reads

  reads_as : (rows others : List Row) (read : IsRead db text rows) (again : IsRead db text others) → Reads read.compiled.command db [] others
  reads_as rows others read again =
      let same : again.compiled ≡ read.compiled = ok_one again.compiled read.compiled (sym again.is ∙ read.is) in
      subst (λ (c : Compiled). Reads c.command db [] others) same (reads_of others again)

  not_refused : (rows : List Row) → IsRead db text rows → IsRefusedText db text → ⊥
  not_refused rows read (inl h) = absurd (let failed = sym h.1 ∙ read.is in cc)
  not_refused rows read (inr u) =
      let same : u.compiled ≡ read.compiled = ok_one u.compiled read.compiled (sym u.is ∙ read.is) in
      let refuses = subst (λ d. RefusesToRead None u.compiled.command d [] u.error) (is_db u.compiled u.is u.source u.from) u.refuses in
      not_both db.schema names keys read.compiled.command (means read.compiled read.is).0 db rows u.error (reads_of rows read) (subst (λ (c : Compiled). RefusesToRead None c.command db [] u.error) same refuses)

  one_again : (P : Row → Type 0) (rows others : List Row) → IsRead db text rows → IsRead db text others → IsOne P rows → IsOne P others
  one_again P rows others read again one =
      let same = same_row db.schema names keys read.compiled.command (means read.compiled read.is).0 db rows others one.0 (reads_of rows read) (reads_as rows others read again) one.1 in
      (one.0, same ∙ one.1, one.2)

-- ---- the tables of an office

module _ (db : Database) (unviewed : db.schema.views ≡ []) where
  no_office : HasNoOfficeRow db → HasOfficeRow db → ⊥
  no_office (inl (inl refused)) says = not_refused OFFICE.now office_names [] db (office_is db.schema unviewed) says.0 says.2 refused
  no_office (inl (inr refused)) says = not_refused STEPS.now steps_names steps_keys db (steps_is db.schema unviewed) says.1 says.3 refused
  no_office (inr h) says =
      let are = says.4 in
      let keeps = are.3 in
      let rise : Ascends are.0 = subst Ascends keeps.2.1.1.1 keeps.2.1.1.0.schedule.ascending in
      let row = one_again OFFICE.now office_names [] db (office_is db.schema unviewed) (HasOfficeValues are.0) says.0 h.0 says.2 h.2 keeps in
      let means = steps_is db.schema unviewed in
      let steps =
      same_steps db.schema _ _ says.3.compiled.command (means says.3.compiled says.3.is).0 db says.1 h.1 are.0
      (reads_of STEPS.now steps_names steps_keys db means says.1 says.3) (reads_as STEPS.now steps_names steps_keys db means says.1 h.1 says.3 h.3) rise are.2 in
      h.4 (are.0, are.1, steps, row)

  no_older : HasNoOlderOffice db → HasOlderOffice db → ⊥
  no_older (inl refused) says = not_refused OLDER_OFFICE.now older_names [] db (older_is db.schema unviewed) says.2.0 says.2.1 refused
  no_older (inr h) says =
      let P : Row → Type 0 = λ row. (column row 6 ≡ number says.0) × (column row 5 ≡ number says.1) × HasOfficeValues (one_step says.0) row in
      h.2 says.0 says.1 (one_again OLDER_OFFICE.now older_names [] db (older_is db.schema unviewed) P says.2.0 h.0 says.2.1 h.1 says.2.2)

  version_again : (n m : ℕ) → HasVersion db n → HasVersion db m → n ≡ m
  version_again n m one two = one_version two.0 n m (one_again VERSION.now version_names [] db (version_is db.schema unviewed) (λ row. column row 0 ≡ number n) one.0 two.0 one.1 two.1 one.2) two.2

  pub no_register : IsNoRegister db → (n : ℕ) → 1 ≤ n → HasVersion db n → (version : Option OlderVersion) × (n ≡ version_of version) × ((HasOfficeRowOf version db → ⊥) ⊎ (db.schema ≢ schema_of version))
  no_register (inl (inl (inl refused))) n low has = absurd (not_refused VERSION.now version_names [] db (version_is db.schema unviewed) has.0 has.1 refused)
  no_register (inl (inl (inr h))) n low has = absurd (h.2 n low (one_again VERSION.now version_names [] db (version_is db.schema unviewed) (λ row. column row 0 ≡ number n) has.0 h.0 has.1 h.1 has.2))
  no_register (inl (inr (inl h))) n low has = (None, version_again n 3 has h.0, inl (no_office h.1))
  no_register (inl (inr (inr h))) n low has = (Some h.0, version_again n (version_number h.0) has h.1, inl (no_older h.2))
  no_register (inr others) n low has = (others.0, version_again n (version_of others.0) has others.1, inr others.2)
