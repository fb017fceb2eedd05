-- The lemmas for proofs of crates above: they cite these alone.
pub use Rattle.reg_store_opening.proofs.OlderRead.{register_of, version_read}
pub use Rattle.reg_store_opening.proofs.Registered.{number_one}
pub use Rattle.reg_store_opening.proofs.ScheduleRows.{only_row}
