-- The lemmas that proofs of other crates cite.
pub use Rattle.reg_ocsp.proofs.Answering.{answers_fit}
