pub mod Audited
pub mod Calls
pub mod Files
pub mod FollowedFiles
pub mod Mismatches
pub mod StoreSigners
pub mod Stops
