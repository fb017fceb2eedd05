pub mod Buffers
pub mod Bytes
pub mod Marks
pub mod Parts
pub mod PublicLaws
pub mod Runs
pub mod Searches
