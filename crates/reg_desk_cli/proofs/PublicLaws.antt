-- The lemmas that the proofs of other crates may cite.
pub use Rattle.reg_desk_cli.proofs.StepTexts.{shifted}
