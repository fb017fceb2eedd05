use Rattle.std.proofs.Common.{◌<◌, map}
use Rattle.reg_core.specs.Calendar.{clock_end}
use Rattle.reg_core.specs.Crls.{row_of}
use Rattle.reg_core.specs.declared.rows.CrlRow.{CrlRow}
use Rattle.reg_store_tables.proofs.PublicLaws.{all_of}
use Rattle.reg_core_laws.proofs.PublicLaws.{all_map}
use Rattle.reg_audit.proofs.Showing.{crls_are}
use Rattle.reg_audit.proofs.tables.crls.Goals as goal

pub returns : goal.returns
returns c = record {
  read = λ records columns is.
      c.typed.ensures.read (map row_of records.crls) (all_of (λ (_ : CrlRow). Unit {0}) (λ _. tt) (map row_of records.crls)) (crls_are records columns c.args.rows.now is);
  has = λ records columns is values.
      c.typed.ensures.has (map row_of records.crls) (all_of (λ (_ : CrlRow). Unit {0}) (λ _. tt) (map row_of records.crls)) (all_map (λ (row : CrlRow). row.this_update < clock_end) row_of records.crls values.crls)
      (crls_are records columns c.args.rows.now is);
}
