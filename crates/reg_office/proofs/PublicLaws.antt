-- The lemmas for proofs of crates above: they cite these alone.
pub use Rattle.reg_office_reads.proofs.PublicLaws.{of_failure}
pub use Rattle.reg_office.proofs.Following.{created_sound_for}
pub use Rattle.reg_office.proofs.Issuing.{latest_in}
pub use Rattle.reg_office.proofs.Interrupting.{one_of_them, only_itself}
pub use Rattle.reg_office.proofs.Leaving.{leaves_made, leaves_opened}
pub use Rattle.reg_office.proofs.OpenedAgain.{opens_again}
pub use Rattle.reg_office.proofs.StoppedFollowers.{stops_keep_following}
