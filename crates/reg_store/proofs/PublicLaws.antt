-- The lemmas for proofs of crates above: they cite these alone.
pub use Rattle.reg_store.proofs.OpenedAgain.{keeps_again, shows_again}
pub use Rattle.reg_store.proofs.StopsOfOpenStores.{at_rest, live_at_rest, opened_rests}
