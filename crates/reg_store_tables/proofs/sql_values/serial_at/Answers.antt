use Rattle.std.proofs.Common.{rules, ◌≡◌}
use Rattle.reg_core.specs.Serial.{serial_bytes}
use Rattle.sqlite_value.specs.Order.{column}
use Rattle.sqlite_value.specs.declared.value.Value.TheVariants.{Blob}
use Rattle.reg_store_tables.proofs.Serials.{serial_read, serial_in_column}
use Rattle.reg_store_tables.proofs.sql_values.serial_at.Goals as goal

pub returns-in-Ok-Blob : goal.returns-in-Ok-Blob
returns-in-Ok-Blob c = record {
  read = λ serial in_range is.
      let same : c.in-Ok-Blob.bytes.now ≡ serial_bytes serial = search rules in
      serial_read serial c.from_bytes20.result c.in-Ok-Blob.bytes.now in_range same c.from_bytes20.ensures;
  in_column = let is : column c.args.row.now c.args.at ≡ Blob c.in-Ok-Blob.bytes.now = search rules in serial_in_column c.from_bytes20.result c.in-Ok-Blob.bytes.now (column c.args.row.now c.args.at) is c.from_bytes20.ensures;
}
