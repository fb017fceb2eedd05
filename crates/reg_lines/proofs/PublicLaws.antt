-- The laws, for proofs above: they cite these alone. Each is stated in specs/, and is what a function of `laws` ensures.
pub use Rattle.reg_lines.proofs.Pieces.{concat_push}
use Rattle.reg_lines.specs.Laws.{RegistrationsAreRead, RowsMeanWhatIsRead}
use Rattle.reg_lines.proofs.Meanings as meanings

pub register_read : RegistrationsAreRead
register_read = meanings.register_read

pub row_spelled : RowsMeanWhatIsRead
row_spelled = meanings.row_spelled
