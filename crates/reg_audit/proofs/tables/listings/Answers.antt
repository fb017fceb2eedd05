use Rattle.std.proofs.Common.{map, refl, ap, ◌∙◌}
use Rattle.reg_core.specs.Calendar.{IsMoment}
use Rattle.reg_store_tables.proofs.PublicLaws.{ok_then}
use Rattle.reg_store_tables.specs.DerivedRows as column
use Rattle.reg_audit.specs.DerivedAsRead.{listed_in}
use Rattle.reg_audit.specs.declared.derived_rows.Listed.{Listed}
use Rattle.reg_audit.proofs.Following.{listed_out}
use Rattle.reg_audit.specs.ReadableValues.{AreMomentAndReason}
use Rattle.reg_core_laws.proofs.PublicLaws.{all_map}
use Rattle.reg_audit.proofs.Showing.{listings_back, listed_are, serials_out}
use Rattle.reg_audit.proofs.tables.listings.Goals as goal

pub returns : goal.returns
returns c = record {
  read = λ records columns is.
      let keyed = serials_out (λ (row : column.Listed). row.serial) (λ (row : Listed). row.serial) listed_out (λ row. refl) columns.listed is.both.kept.listed_serials in
      ok_then c.typed.result (c.typed.ensures.read (map listed_out columns.listed) keyed (listed_are records columns c.args.rows.now is)) (λ found same. ap (map listed_in) same ∙ listings_back columns.listed);
  has = λ records columns is values.
      let keyed = serials_out (λ (row : column.Listed). row.serial) (λ (row : Listed). row.serial) listed_out (λ row. refl) columns.listed is.both.kept.listed_serials in
      c.typed.ensures.has (map listed_out columns.listed) keyed (all_map (λ (row : Listed). AreMomentAndReason row.at row.reason × IsMoment row.not_after) listed_out columns.listed values.listed)
      (listed_are records columns c.args.rows.now is);
}
