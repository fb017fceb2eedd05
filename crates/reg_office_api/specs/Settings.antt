-- The calls that are no commands but change a register's settings.
use Rattle.std.specs.Prelude.{◌≡◌, ℕ, List, Result, Ok, Err}
use Rattle.reg_core.specs.Changes.{with_schedule}
use Rattle.reg_core.specs.Records.{Records}
use Rattle.reg_core.specs.declared.refusal.Fault.{Fault}
use Rattle.reg_der.specs.Issuers.{with_key_identifier}

-- only the schedule changes; at a fault nothing does
abbrev pub ReplacesSchedule : List (ℕ × ℕ) → Result (Unit {0}) Fault → Records → Records → Type 0
ReplacesSchedule steps (Ok done) before after = after ≡ with_schedule before steps
ReplacesSchedule steps (Err fault) before after = after ≡ before

-- only the key identifier of the CRLs from the next one on changes; at a fault nothing does
abbrev pub SetsKeyIdentifier : List ℕ → Result (Unit {0}) Fault → Records → Records → Type 0
SetsKeyIdentifier octets (Ok done) before after = after ≡ with_key_identifier before octets
SetsKeyIdentifier octets (Err fault) before after = after ≡ before
