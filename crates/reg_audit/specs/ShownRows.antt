-- The columns of the rows of `office` and of the derived tables, in order, as an audit reads them.
use Rattle.std.specs.Prelude.{[], ◌∷◌}
use Rattle.sqlite_value.specs.declared.value.Value.TheVariants.{Text}
use Rattle.sqlite_value.specs.Order.{Row}
use Rattle.reg_store_tables.specs.DerivedRows.{letter_text, number_or_null}
use Rattle.reg_store_tables.specs.Rows.{number, serial_value}
use Rattle.reg_audit.specs.DerivedAsRead.{letter_in}
use Rattle.reg_audit.specs.declared.derived_rows.Standing.{Standing}
use Rattle.reg_audit.specs.declared.derived_rows.Listed.{Listed}
use Rattle.reg_audit.specs.declared.typed.OfficeRow.{OfficeRow}

abbrev pub shown_office : OfficeRow → Row
shown_office office = number office.cap ∷ number office.last ∷ []

abbrev pub shown_standing : Standing → Row
shown_standing row =
    serial_value row.serial ∷ number row.not_after ∷ Text (letter_text (letter_in row.letter)) ∷ []

abbrev pub shown_listed : Listed → Row
shown_listed row =
    serial_value row.serial ∷ number row.at ∷ number row.reason ∷ number row.first ∷ number row.not_after
    ∷ number_or_null row.last ∷ []
