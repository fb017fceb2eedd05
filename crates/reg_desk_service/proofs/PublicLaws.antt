-- The lemmas that proofs of other crates cite.
pub use Rattle.reg_desk_service.proofs.Finishing.{path_moves}
pub use Rattle.reg_desk_service.proofs.Following.{stays_at_fault}
pub use Rattle.reg_desk_service.proofs.LookedAt.{still_then, then_still}
pub use Rattle.reg_desk_service.proofs.Looks.{looks_as, looks_then}
pub use Rattle.reg_desk_service.proofs.PageByPage.{IsGoing, IsText, begun, gone_on, text_begun, text_more}
