pub mod Answering
pub mod Beginning
pub mod Cases
pub mod Decisions
pub mod Faults
pub mod ListById
pub mod Looking
