pub mod Added
pub mod ByRecords
pub mod JsonLemmas
pub mod PublicLaws
mod Replying
pub mod Routed
pub mod SeekOne
