use Rattle.std.proofs.Common.{map, refl, ap, ◌∙◌}
use Rattle.reg_core.specs.Calendar.{IsMoment}
use Rattle.reg_store_tables.proofs.PublicLaws.{ok_then}
use Rattle.reg_store_tables.specs.DerivedRows as column
use Rattle.reg_audit.specs.DerivedAsRead.{standing_in}
use Rattle.reg_audit.specs.declared.derived_rows.Standing.{Standing}
use Rattle.reg_audit.proofs.Following.{standing_out}
use Rattle.reg_core_laws.proofs.PublicLaws.{all_map}
use Rattle.reg_audit.proofs.Showing.{letters_back, letters_are, serials_out}
use Rattle.reg_audit.proofs.tables.letters.Goals as goal

pub returns : goal.returns
returns c = record {
  read = λ records columns is.
      let keyed = serials_out (λ (row : column.Standing). row.serial) (λ (row : Standing). row.serial) standing_out (λ row. refl) columns.letters is.both.kept.letter_serials in
      ok_then c.typed.result (c.typed.ensures.read (map standing_out columns.letters) keyed (letters_are records columns c.args.rows.now is)) (λ found same. ap (map standing_in) same ∙ letters_back columns.letters);
  has = λ records columns is values.
      let keyed = serials_out (λ (row : column.Standing). row.serial) (λ (row : Standing). row.serial) standing_out (λ row. refl) columns.letters is.both.kept.letter_serials in
      c.typed.ensures.has (map standing_out columns.letters) keyed (all_map (λ (row : Standing). IsMoment row.not_after) standing_out columns.letters values.letters) (letters_are records columns c.args.rows.now is);
}
