pub mod Caching
pub mod Declining
pub mod Undecided
