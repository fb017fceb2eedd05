-- What proofs above cite of this crate: they cite these alone.
pub use Rattle.reg_http.proofs.Added.{nothing_added}
