pub mod Ahead
pub mod Followers
pub mod Healths
pub mod Metrics
pub mod Samples
pub mod Tallies
