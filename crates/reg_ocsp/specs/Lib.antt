pub mod Request
pub mod RequestReading
pub mod Response
pub mod Certificate
pub mod Drafts
pub mod Matching
pub mod Views
