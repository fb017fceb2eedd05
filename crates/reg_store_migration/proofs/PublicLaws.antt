-- The lemmas for proofs of crates above: they cite these alone.
pub use Rattle.reg_store_migration.proofs.Defining.{has_same}
pub use Rattle.reg_store_migration.proofs.Emptying.{with_other}
pub use Rattle.reg_store_migration.proofs.FirstRows.{rows_at}
pub use Rattle.reg_store_migration.proofs.LastListings.{can_be_last_listing, last_there, none_there, past_parted}
pub use Rattle.reg_store_migration.proofs.Whole.{any_days, any_kept, kept_rests, kept_whole}
