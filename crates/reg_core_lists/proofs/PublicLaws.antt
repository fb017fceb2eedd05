-- The lemmas that proofs of other crates cite.
pub use Rattle.reg_core_lists.proofs.Whole.{page_step, rest_of}
