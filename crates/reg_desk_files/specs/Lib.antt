pub mod Copied
pub mod Overlaid
pub mod Reading
