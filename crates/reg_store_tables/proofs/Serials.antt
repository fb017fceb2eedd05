-- Serial numbers that are read of their bytes.
use Rattle.std.proofs.Common.{◌≡◌, ◌≢◌, ℕ, List, Option, None, Some, MatchOption, sym, ap, ◌∙◌}
use Rattle.std.specs.Option.{IfSome}
use Rattle.sqlite_value.specs.declared.value.Value.{Value}
use Rattle.sqlite_value.specs.declared.value.Value.TheVariants.{Blob}
use Rattle.reg_core.specs.Serial.{IsSerial, serial_bytes}
use Rattle.reg_store_tables.specs.Rows.{serial_value}
use Rattle.reg_store_tables.proofs.Compares.{serial_injective}

-- the serial number that has these bytes is found
pub serial_read : (serial : ℕ) (read : Option ℕ) (bytes : List ℕ) → IsSerial serial → bytes ≡ serial_bytes serial
    → MatchOption read ((n : ℕ) → IsSerial n → bytes ≢ serial_bytes n) (λ n. IsSerial n × (bytes ≡ serial_bytes n)) → read ≡ Some serial
serial_read serial None bytes in_range is found = absurd (found serial in_range is)
serial_read serial (Some n) bytes in_range is found = ap Some (serial_injective n serial found.0 in_range (sym found.1 ∙ is))

-- a serial number that is found in a column has the bytes there
pub serial_in_column : (read : Option ℕ) (bytes : List ℕ) (value : Value) → value ≡ Blob bytes
    → MatchOption read ((n : ℕ) → IsSerial n → bytes ≢ serial_bytes n) (λ n. IsSerial n × (bytes ≡ serial_bytes n)) → IfSome read (λ serial. IsSerial serial × (value ≡ serial_value serial))
serial_in_column None bytes value is found = tt
serial_in_column (Some n) bytes value is found = (found.0, is ∙ ap Blob found.1)
