pub mod Finding
pub mod Looks
pub mod Overlaying
