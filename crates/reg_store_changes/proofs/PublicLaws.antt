-- Lemmas of this crate that others use.
pub use Rattle.reg_store_changes.proofs.Law.{kept_change}
pub use Rattle.reg_store_changes.proofs.Stages.{kept_issuer, kept_schedule, staged_both}
pub use Rattle.reg_store_changes.proofs.Transactions.{LeadOver, begun_within, commits_all, ends_idle, lives, stops}
pub use Rattle.reg_store_changes.proofs.Within.{is_under_way, looked_step, no_step, steps_clean, steps_then}
